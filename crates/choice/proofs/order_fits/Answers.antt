-- The places left fit, with those set that were not met, exactly if all do.
use mathlib.Core.Path.{◌≡◌, refl, sym, ap, ◌∙◌}
use mathlib.Core.Bool.{Bool, true, ◌&&◌}
use Prim.Native.Nat.{ℕ, ◌+◌, ◌-◌, ◌^◌, ◌<◌, ◌≤◌}
use native.Mathlib.Omega.{arith}
use mathlib.Core.List.{List}
use lib.ListN.{length, take, get_or}
use lib.Seq.{slice, slice_empty}
use Rattle.bits.proofs.Laws.{clear_bit}
use Rattle.choice.specs.Order.{entry_fits, order_fits}
use Rattle.choice.proofs.Loops.{words_turn, entry_says}
use borrow.Author.Rules.{rules}
use Rattle.choice.proofs.order_fits.Goals as goal

-- this place fits, and the rest do without it
turn : (place : List ℕ) (set rest : ℕ) (order : List ℕ) (count i : ℕ) (fits : Bool)
    → length order ≡ 64 → count ≤ 64 → i < count
    → fits ≡ entry_fits place rest (get_or order i 0)
    → order_fits place rest (slice i count order) ≡ order_fits place set (take count order)
    → (fits && order_fits place (rest - 2 ^ get_or order i 0) (slice (i + 1) count order)) ≡ order_fits place set (take count order)
unfolding order_fits
turn place set rest order count i fits whole few more is so_far = rw is (sym (ap (order_fits place rest) (words_turn order i count whole few more)) ∙ so_far)

-- where it fits the rest have to
onward : (place : List ℕ) (set rest left : ℕ) (order : List ℕ) (count i : ℕ)
    → length order ≡ 64 → count ≤ 64 → i < count
    → entry_fits place rest (get_or order i 0) ≡ true
    → order_fits place rest (slice i count order) ≡ order_fits place set (take count order)
    → left ≡ rest - 2 ^ get_or order i 0
    → order_fits place left (slice (i + 1) count order) ≡ order_fits place set (take count order)
onward place set rest left order count i whole few more fits so_far is = rw is (turn place set rest order count i true whole few more (sym fits) so_far)

-- where it fits
says : (place : List ℕ) (rest at : ℕ) → entry_fits place rest at ≡ true → (at < 64) × (2 ^ at ≤ rest)
says place rest at fits =
    let said = entry_says place rest at fits in
    (said.0, (clear_bit rest at said.1).0)

pub loop-i-init : goal.loop-i-init
loop-i-init c = (search rules, search rules, refl)

pub returns-then-not-entry_fits : goal.returns-then-not-entry_fits
returns-then-not-entry_fits c = rw c.if-not-entry_fits.true at (turn _ _ _ _ _ _ _ c.whole.ensures c.requires c.loop-i-test.true c.entry_fits.ensures c.loop-i.invariant.2)

pub overflow_sub-rest : goal.overflow_sub-rest
overflow_sub-rest c = let fits = sym c.entry_fits.ensures ∙ c.if-not-entry_fits.false in
    omega (arith, (says c.args.place.now c.loop-i.rest (get_or c.args.order.now c.loop-i.i 0) fits).1)

pub loop-i-preserved : goal.loop-i-preserved
loop-i-preserved c = let fits = sym c.entry_fits.ensures ∙ c.if-not-entry_fits.false in
    (omega arith, omega arith, onward c.args.place.now c.args.set c.loop-i.rest _ c.args.order.now c.args.count c.loop-i.i c.whole.ensures c.requires c.loop-i-test.true fits c.loop-i.invariant.2 (omega arith))

pub returns : goal.returns
unfolding order_fits
returns c = let loop = c.loop-i in
    let args = c.args in
    let end : loop.i ≡ args.count = omega arith in
    sym (sym loop.invariant.2 ∙ rw (end, slice_empty))
