-- The loop comes down over the places: none from `left` on holds the key, so any does exactly if one of the first `left` does.
use mathlib.Core.Path.{◌≡◌, refl}
use native.Mathlib.Omega.{arith}
use borrow.Author.Tests.{eq-eqb, ne_eqb}
use lib.Dec.{eqb}
use Rattle.forecast.proofs.Laws.{any_step, any_none}
use Rattle.forecast.proofs.knows.Goals as goal

pub loop-left-init : goal.loop-left-init
loop-left-init c = (omega arith, refl)

pub returns-then-key-room : goal.returns-then-key-room
returns-then-key-room c =
    let loop-test = c.loop-left-test in
    let loop = c.loop-left in
    let args = c.args in
    rw (any_step (eqb args.key) args.room.now loop.left loop-test.true, eq-eqb _ _ c.if-key-room.true) at loop.invariant.1

pub loop-left-preserved : goal.loop-left-preserved
loop-left-preserved c =
    let loop-test = c.loop-left-test in
    let loop = c.loop-left in
    let args = c.args in
    (omega (arith, loop.invariant.0), rw (any_step (eqb args.key) args.room.now loop.left loop-test.true, ne_eqb _ _ c.if-key-room.false) at loop.invariant.1)

pub returns : goal.returns
returns c =
    let loop = c.loop-left in
    let z : loop.left ≡ 0 = omega arith in rw (z, any_none) at loop.invariant.1
