-- Those found, with those among the words left, are all.
use mathlib.Core.Path.{◌≡◌}
use Prim.Native.Nat.{◌≤◌}
use native.Mathlib.Omega.{arith}
use borrow.Author.Tests.{eq-eqb, ne_eqb}
use lib.Count.{ones-le}
use Rattle.choice.proofs.Loops.{charges_whole, charges_end, charges_turn}
use Rattle.choice.proofs.charges.Goals.{then-prefix_in-prefix, else-prefix_in-prefix}
use Rattle.choice.proofs.charges.Goals as goal

pub loop-left-init : goal.loop-left-init
loop-left-init c = let args = c.args in
    let count = c.count-left in
    let few : count.result ≤ 64 = omega (arith, count.ensures, ones-le 64 args.t.charged (omega arith)) in
    (omega arith, omega arith, omega arith, omega arith)

pub loop-left-preserved : goal.loop-left-preserved
loop-left-preserved c = let args = c.args in
    let whole = c.whole in
    let loop = c.loop-left in
    let loop-test = c.loop-left-test in
    let newest = charges_turn args.levels args.prefix args.ring.now loop.at loop.left whole.ensures loop.invariant.1 loop-test.true loop.invariant.0 in
    let turn = rw (← c.prefix_in.ensures) at newest in
    elim c.if-prefix_in-prefix.branch [
      | then-prefix_in-prefix w ↦ omega (arith, rw (eq-eqb _ _ w.if-prefix_in-prefix.true) at turn)
      | else-prefix_in-prefix w ↦ omega (arith, rw (ne_eqb _ _ w.if-prefix_in-prefix.false) at turn)
    ]

pub returns : goal.returns
returns c = let args = c.args in
    let count = c.count-left in
    let loop = c.loop-left in
    let none : loop.left ≡ 0 = omega arith in
    let end = charges_end args.levels args.prefix args.ring.now loop.at in
    rw (charges_whole args.levels args.ring.now args.t args.prefix, ← count.ensures) (omega (arith, rw none at loop.invariant.3, end))
