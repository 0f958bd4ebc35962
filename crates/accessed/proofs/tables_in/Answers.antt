-- The places before the depth are tables, and what is left has the rest of them.
use mathlib.Core.Path.{◌≡◌, ap}
use native.Mathlib.Omega.{arith}
use borrow.Author.Tests.{le-leb, lt-leb}
use lib.ListN.{get_or}
use Rattle.spec.specs.Plain.{is_span}
use Rattle.layout.specs.Layout.{config}
use Rattle.accessed.specs.Entries.{tables_in}
use Rattle.accessed.proofs.Laws.{tables_turn}
use Rattle.accessed.proofs.tables_in.Goals as goal

pub loop-left-init : goal.loop-left-init
loop-left-init c = (omega arith, omega arith)

pub returns-then-places-depth : goal.returns-then-places-depth
unfolding is_span
returns-then-places-depth c =
    let args = c.args in
    let loop = c.loop-left in
    let loop-test = c.loop-left-test in
    let if1 = c.if-places-depth in
    let turn = rw (le-leb args.layout.frames (get_or args.places.now loop.depth 0) if1.true) at (tables_turn (config args.layout) args.places.now loop.depth loop.left loop-test.true) in
    omega (arith, turn, loop.invariant.1)

pub loop-left-preserved : goal.loop-left-preserved
unfolding is_span
loop-left-preserved c =
    let args = c.args in
    let loop = c.loop-left in
    let loop-test = c.loop-left-test in
    let if1 = c.if-places-depth in
    let turn = rw (lt-leb args.layout.frames (get_or args.places.now loop.depth 0) if1.false) at (tables_turn (config args.layout) args.places.now loop.depth loop.left loop-test.true) in
    (omega (arith, loop.invariant.0, loop-test.true), omega (arith, turn, loop.invariant.1))

pub returns : goal.returns
unfolding tables_in
returns c =
    let args = c.args in
    let loop = c.loop-left in
    let none : loop.left ≡ 0 = omega arith in
    let z : tables_in (config args.layout) args.places.now loop.depth loop.left ≡ 0 = ap (tables_in (config args.layout) args.places.now loop.depth) none in
    omega (arith, none, z, loop.invariant.0, loop.invariant.1)
