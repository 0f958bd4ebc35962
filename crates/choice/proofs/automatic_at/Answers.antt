-- The places left hold it exactly if all do.
use mathlib.Core.Path.{◌≡◌, refl, sym, ap, ◌∙◌}
use mathlib.Core.Bool.{◌||◌}
use Prim.Native.Nat.{ℕ, ◌<◌, ◌+◌, ◌≤◌}
use native.Mathlib.Omega.{arith}
use borrow.Author.Tests.{eq-eqb, ne_eqb}
use lib.Dec.{eqb}
use mathlib.Core.List.{List}
use lib.ListN.{length, take, get_or}
use lib.Seq.{slice, slice_empty}
use Rattle.spec.specs.Prefix.{any}
use Rattle.choice.specs.Order.{automatic_at}
use Rattle.choice.proofs.Loops.{words_turn}
use borrow.Author.Rules.{rules}
use Rattle.choice.proofs.automatic_at.Goals as goal

-- this place is it, or one of the rest
turn : (order : List ℕ) (count place i : ℕ) → length order ≡ 64 → count ≤ 64 → i < count
    → any (eqb place) (slice i count order) ≡ any (eqb place) (take count order)
    → (eqb place (get_or order i 0) || any (eqb place) (slice (i + 1) count order)) ≡ any (eqb place) (take count order)
turn order count place i whole few more so_far = sym (ap (any (eqb place)) (words_turn order i count whole few more)) ∙ so_far

pub loop-i-init : goal.loop-i-init
loop-i-init c = (search rules, refl)

pub returns-then-order-i : goal.returns-then-order-i
unfolding automatic_at
returns-then-order-i c = rw (eq-eqb _ _ (sym c.if-order-i.true)) at (turn _ _ _ _ c.whole.ensures c.requires c.loop-i-test.true c.loop-i.invariant.1)

pub loop-i-preserved : goal.loop-i-preserved
loop-i-preserved c = (omega arith, rw (ne_eqb _ _ (λ e. c.if-order-i.false (sym e))) at (turn _ _ _ _ c.whole.ensures c.requires c.loop-i-test.true c.loop-i.invariant.1))

pub returns : goal.returns
unfolding automatic_at
returns c = let loop = c.loop-i in
    let args = c.args in
    let end : loop.i ≡ args.count = omega arith in
    sym (sym loop.invariant.1 ∙ rw (end, slice_empty))
