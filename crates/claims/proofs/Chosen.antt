-- What stands beside the book keeps the rule of a record.
-- Assumes nothing.
use mathlib.Core.Path.{◌≡◌, refl, sym, ap, ◌∙◌, subst}
use Prim.Native.Nat.{ℕ, zero, suc, ◌+◌, ◌%◌, ◌/◌, ◌^◌, ◌≤◌, ◌<◌}
use native.Mathlib.Omega.{arith}
use borrow.Author.Tests.{eqb-false, le-leb}
use mathlib.Core.Bool.{Bool, true, false, cond}
use mathlib.Core.List.{List, [], ◌∷◌, map, reverse, tail-eq_of_cons-eq}
use mathlib.Core.Option.{none}
use lib.Dec.{eqb}
use lib.ListN.{length, take, replicate, length-map, length-reverse, length-append, length-take, length-drop}
use lib.Seq.{length-take-le}
use lib.Pow.{shr_lt}
use Rattle.spec.specs.Config.{Config}
use Rattle.spec.specs.Book.{Book}
use Rattle.marks.specs.declared.Marks.{Marks}
use Rattle.choice.specs.declared.Choice.{Choice}
use Rattle.choice.specs.Window.{room, unroll}
use Rattle.choice.specs.Order.{choice_fits}
use Rattle.choice.specs.Reading.{bits, spread}
use Rattle.choice.proofs.Shows.{Shows, padded}
use Rattle.choice.proofs.Automatic.{indexes_at}
use Rattle.choice.proofs.Chosen.{Chosen, in_order}

-- bits that show no charge are all clear
no_charge : (k n : ℕ) (ps : List (List ℕ)) → k ≤ length ps → n < 2 ^ k → take k (replicate k none) ≡ spread (bits k n) ps → n ≡ 0
unfolding bits spread
no_charge zero n ps l s e = omega arith
no_charge (suc k) n [] l s e = absurd (omega arith)
no_charge (suc k) n (p ∷ ps) l s e =
    let one : suc k ≡ k + 1 = omega arith in
    go (eqb (n % 2) 1) refl e (λ f. no_charge k (n / 2) (p ∷ ps) (omega arith) (shr_lt k 1 (subst (λ (j : ℕ). n < 2 ^ j) one s)) f)
  where
    go : (b : Bool) → eqb (n % 2) 1 ≡ b → none ∷ take k (replicate k none) ≡ spread (b ∷ bits k (n / 2)) (p ∷ ps)
        → (take k (replicate k none) ≡ spread (bits k (n / 2)) (p ∷ ps) → n / 2 ≡ 0) → n ≡ 0
    go true q f ih = let z : ◌≡◌ {A = ℕ} 0 1 = cc in absurd (omega arith)
    go false q f ih =
        let z = ih (tail-eq_of_cons-eq f) in
        let y = eqb-false (n % 2) 1 q in
        omega arith

unroll_length : {A : Type 0} (at : ℕ) (xs : List A) → length (unroll at xs) ≡ length xs
unfolding unroll
unroll_length at xs = simp (length-append, length-reverse, length-take, length-drop) (omega arith)

-- an empty window: the word is zero
pub empty_word : (charged at : ℕ) (ps : List (List ℕ)) → Shows charged at ps [] → charged ≡ 0
unfolding padded
empty_word charged at ps s =
    no_charge room charged (unroll (at % room) ps) (omega (arith, unroll_length (at % room) ps, s.ring)) s.word s.shows

none_in : {A B : Type 0} (f : A → B) (xs : List A) → map f (reverse xs) ≡ [] → length xs ≡ 0
none_in f xs e = sym (length-reverse xs) ∙ sym (length-map (reverse xs) f) ∙ ap length e

-- with the choice off the book has no automatic mark and no window
pub chosen_fits_lem : (c : Config) (x : Choice) (t : Marks) (b : Book) → Chosen c x t b → (b.choice ≡ false → (b.automatic ≡ []) × (b.window ≡ []))
    → choice_fits x.tally x.order t.place t.set ≡ true
unfolding choice_fits
chosen_fits_lem c x t b h off = go b.choice refl
  where
    go : (on : Bool) → b.choice ≡ on → choice_fits x.tally x.order t.place t.set ≡ true
    go true e =
        let on : x.tally.on ≡ 1 = h.on ∙ ap (λ z. cond z 1 0) e in
        rw (on, le-leb x.tally.count 64 h.few, h.placed)
    go false e =
        let on : x.tally.on ≡ 0 = h.on ∙ ap (λ z. cond z 1 0) e in
        let word : x.tally.charged ≡ 0 = empty_word x.tally.charged x.tally.at _ (subst (Shows x.tally.charged x.tally.at _) (off e).1 h.window) in
        let none : length (in_order x) ≡ 0 = none_in (indexes_at c.levels t.place) (in_order x) (h.order ∙ (off e).0) in
        let count : x.tally.count ≡ 0 = sym (length-take-le x.tally.count x.order (omega (arith, h.few, h.long))) ∙ none in
        rw (on, le-leb x.tally.count 64 h.few, h.placed, count, word)
