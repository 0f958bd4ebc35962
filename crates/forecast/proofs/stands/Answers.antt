-- The loop comes down over the places, as that of `knows` does.
use mathlib.Core.Path.{◌≡◌, refl}
use native.Mathlib.Omega.{arith}
use Rattle.forecast.specs.Forecast.{passes}
use Rattle.forecast.proofs.Laws.{any_step, any_none}
use Rattle.forecast.proofs.stands.Goals as goal

pub loop-left-init : goal.loop-left-init
loop-left-init c = (omega arith, refl)

pub returns-then-passes_by : goal.returns-then-passes_by
returns-then-passes_by c =
    let loop-test = c.loop-left-test in
    let passes-by = c.passes_by in
    let loop = c.loop-left in
    let args = c.args in
    rw (any_step (passes args.level args.indexes) args.room.now loop.left loop-test.true, ← passes-by.ensures, c.if-passes_by.true) at loop.invariant.1

pub loop-left-preserved : goal.loop-left-preserved
loop-left-preserved c =
    let loop-test = c.loop-left-test in
    let passes-by = c.passes_by in
    let loop = c.loop-left in
    let args = c.args in
    (omega (arith, loop.invariant.0), rw (any_step (passes args.level args.indexes) args.room.now loop.left loop-test.true, ← passes-by.ensures, c.if-passes_by.false) at loop.invariant.1)

pub returns : goal.returns
returns c =
    let loop = c.loop-left in
    let z : loop.left ≡ 0 = omega arith in rw (z, any_none) at loop.invariant.1
