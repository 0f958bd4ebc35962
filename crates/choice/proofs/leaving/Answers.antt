-- The one kept is the first of those met, seen from the last back, and `fewest` are its charges.
use mathlib.Core.Path.{◌≡◌}
use Prim.Native.Nat.{◌<◌}
use native.Mathlib.Omega.{arith}
use borrow.Author.Tests.{lt-ltb, le-ltb}
use Rattle.choice.specs.Order.{leaves_before}
use Rattle.choice.proofs.Loops.{leaving_first, first_none, first_one, first_turn}
use Rattle.choice.proofs.leaving.Goals.{then-many-fewest, else-many-fewest}
use Rattle.choice.proofs.leaving.Goals as goal

pub returns-then-t-eq0 : goal.returns-then-t-eq0
returns-then-t-eq0 c = let args = c.args in
    let whole = leaving_first args.levels args.ring.now args.t args.order.now args.place.now in
    rw (whole, c.if-t-eq0.true, first_none)

pub loop-i-init : goal.loop-i-init
loop-i-init c = let args = c.args in
    let before = leaves_before args.levels args.ring.now args.t args.place.now in
    (omega arith, omega arith, first_one before args.order.now (omega (arith, c.whole.ensures)), c.charges_at-fewest.ensures)

pub loop-i-preserved : goal.loop-i-preserved
loop-i-preserved c = let args = c.args in
    let whole = c.whole in
    let loop = c.loop-i in
    let many = c.charges_at-many in
    let before = leaves_before args.levels args.ring.now args.t args.place.now in
    let turn = first_turn before args.order.now loop.i loop.best (omega (arith, whole.ensures)) loop.invariant.2 in
    let told = rw (← many.ensures, ← loop.invariant.3) at turn in
    elim c.if-many-fewest.branch [
      | then-many-fewest w ↦ let few : many.result < loop.fewest = omega arith in (omega arith, omega arith, rw w.best-is (rw (lt-ltb _ _ few) at told), rw (w.best-is, w.fewest-is) many.ensures)
      | else-many-fewest w ↦ (omega arith, omega arith, rw w.best-is (rw (le-ltb _ _ w.if-many-fewest.false) at told), rw (w.best-is, w.fewest-is) loop.invariant.3)
    ]

pub returns : goal.returns
returns c = let args = c.args in
    let loop = c.loop-i in
    let whole = leaving_first args.levels args.ring.now args.t args.order.now args.place.now in
    let end : loop.i ≡ args.t.count = omega arith in
    rw (whole, rw end at loop.invariant.2)
