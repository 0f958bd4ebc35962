-- The loop goes down the levels: n tables stand above, and those that stand below are still to be counted.
use mathlib.Core.Path.{◌≡◌}
use native.Mathlib.Omega.{arith}
use Rattle.forecast.specs.Forecast.{newest}
use Rattle.forecast.proofs.Laws.{met_step, met_none}
use Rattle.forecast.proofs.met.Goals as goal

pub loop-left-init : goal.loop-left-init
loop-left-init c = (omega arith, omega arith, omega arith)

pub returns-then-not-stands : goal.returns-then-not-stands
returns-then-not-stands c =
    let loop-test = c.loop-left-test in
    let key_of = c.key_of in
    let stands = c.stands in
    let loop = c.loop-left in
    let args = c.args in
    let step = met_step (newest args.room.now args.count) args.levels args.address.0 args.depth loop.left loop-test.true in
    let none = rw (← key_of.ensures, ← stands.ensures, c.if-not-stands.true) at step in
    omega (arith, none, loop.invariant.2)

pub loop-left-preserved : goal.loop-left-preserved
loop-left-preserved c =
    let loop-test = c.loop-left-test in
    let key_of = c.key_of in
    let stands = c.stands in
    let loop = c.loop-left in
    let args = c.args in
    let step = met_step (newest args.room.now args.count) args.levels args.address.0 args.depth loop.left loop-test.true in
    let one = rw (← key_of.ensures, ← stands.ensures, c.if-not-stands.false) at step in
    (omega (arith, loop.invariant.0), omega (arith, loop.invariant.1, loop-test.true), omega (arith, one, loop.invariant.2))

pub returns : goal.returns
returns c =
    let args = c.args in
    let loop = c.loop-left in
    let z : loop.left ≡ 0 = omega arith in
    let none = rw z at loop.invariant.2 in
    omega (arith, none, met_none (newest args.room.now args.count) args.levels args.address.0 args.depth)
