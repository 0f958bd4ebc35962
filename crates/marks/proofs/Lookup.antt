-- What a search in a table finds and reads: beside the book's marks, and in any table.
use mathlib.Core.Path.{◌≡◌, refl, sym, ap, ◌∙◌}
use mathlib.Core.Bool.{Bool, true, false, ◌&&◌, ◌||◌, cond}
use mathlib.Core.List.{List, [], ◌∷◌, map}
use Prim.Native.Nat.{ℕ, suc, ◌+◌, ◌*◌, ◌/◌, ◌%◌, ◌^◌, ◌<◌, ◌≤◌, max}
use native.Mathlib.Omega.{arith}
use native.Mathlib.Decide.{dec_le, ℕ_discrete}
use borrow.Author.Tests.{eq-eqb, ne_eqb, eqb-true, eqb-false, ltb-true}
use lib.Dec.{eqb, ltb}
use lib.Count.{ones}
use lib.ListN.{length}
use Rattle.spec.specs.declared.Lookup.{Lookup}
use Rattle.spec.specs.Config.{Config}
use Rattle.spec.specs.Prefix.{any}
use Rattle.spec.specs.Book.{Book}
use Rattle.spec.specs.Call.{address_indexes}
use Rattle.spec.specs.Search.{nothing, ends}
use Rattle.spec_laws.proofs.Search.{search_all}
use Rattle.marks.specs.declared.Marks.{Marks}
use Rattle.marks.specs.Key.{low_page, level_at, search_of, key_fits, keys_fit, ascending}
use Rattle.marks.specs.Table.{lookup_in}
use Rattle.marks.specs.Reading.{mark_of, marks_of}
use Rattle.marks.proofs.Pages.{low_small}
use Rattle.marks.proofs.Turn.{keys_count}
use Rattle.marks.proofs.Ascending.{and_left, and_right, ascending_above}
use Rattle.marks.proofs.Reading.{top_bare, ends_key, first_fits, others_fit}
use Rattle.marks.proofs.Order.{SameMembers, members_any, members_length}
use Rattle.marks.proofs.Book.{keys_of, Sorted, sorted_fits, lookup_marks}

-- ---- the mark of level n + 1 has the key n + 1: it keeps no index
module _ (n : ℕ) (small : n < 7) where
  ends_at : (k : ℕ) → key_fits n k ≡ true → ends n (mark_of n k) ≡ eqb (suc n) k
  unfolding mark_of
  ends_at k e =
      elim (ℕ_discrete (suc n) k) [
        | yes q ↦ eq-eqb (k % 8) (suc n) (omega arith) ∙ sym (eq-eqb (suc n) k q)
        | no ne ↦ ne_eqb (k % 8) (suc n) (λ q. ne (omega (arith, top_bare n k e q))) ∙ sym (ne_eqb (suc n) k ne)
      ]

  ends_keys : (ks : List ℕ) → keys_fit n ks ≡ true → any (ends n) (map (mark_of n) ks) ≡ any (eqb (suc n)) ks
  ends_keys [] f = refl
  ends_keys (k ∷ ks) f = rw (ends_at k (first_fits n k ks f), ends_keys ks (others_fit n k ks f))

  -- among ascending keys at most n stand before it
  module _ (p : ℕ) (b : p < 2 ^ (9 * n)) where
    few_read : (last : ℕ) (ks : List ℕ) → last ≤ n → ascending n last ks ≡ true → any (eqb (suc n)) ks ≡ true → last + (search_of n p ks).read ≤ suc n
    unfolding ascending search_of
    few_read last [] l e h = absurd (let z : ◌≡◌ {A = ℕ} 0 1 = cc in omega arith)
    few_read last (k ∷ ks) l e h = go (eqb (suc n) k) refl h (few_read k ks)
      where
        here : (ltb last k && key_fits n k) ≡ true
        here = and_left (ltb last k && key_fits n k) (ascending n k ks) e

        above : last < k
        above = ltb-true last k (and_left (ltb last k) (key_fits n k) here)

        rest : ascending n k ks ≡ true
        rest = and_right (ltb last k && key_fits n k) (ascending n k ks) e

        at_most : (t : Bool) (f : Lookup) → (cond t nothing f).read ≤ f.read
        at_most true f = omega arith
        at_most false f = omega arith

        go : (t : Bool) → eqb (suc n) k ≡ t → (t || any (eqb (suc n)) ks) ≡ true
            → (k ≤ n → ascending n k ks ≡ true → any (eqb (suc n)) ks ≡ true → k + (search_of n p ks).read ≤ suc n)
            → last + suc (cond (ltb n (level_at p k)) nothing (search_of n p ks)).read ≤ suc n
        go true q h ih =
            let top = eqb-true (suc n) k q in
            let fits = and_right (ltb last k) (key_fits n k) here in
            rw (ends_key n k fits p b ∙ eq-eqb (k % 8) (suc n) (omega arith)) (omega arith)
        go false q h ih =
            elim (dec_le k n) [
              | yes le ↦ omega (arith, ih le rest h, at_most (ltb n (level_at p k)) (search_of n p ks), above)
              | no gt ↦
                  let ne = eqb-false (suc n) k q in
                  let over : suc n ≤ k = omega arith in
                  let none = ascending_above n k (suc n) ks over rest in
                  absurd (let z : ◌≡◌ {A = ℕ} 0 1 = cc in omega arith)
            ]

-- ---- a table that holds the book's marks
module _ (c : Config) (t : Marks) (b : Book) (small : c.levels < 7) (sorted : Sorted c.levels t) (agree : SameMembers (marks_of c.levels t) b.marks) (a : ℕ) where
  -- with no mark of level N + 1 all that are set are read
  pub lookup_all : any (ends c.levels) b.marks ≡ false → (lookup_in c.levels t a).read ≡ length b.marks
  lookup_all none =
      ap (λ (f : Lookup). f.read) (lookup_marks c t a (sorted_fits c.levels t sorted))
      ∙ search_all c.levels (marks_of c.levels t) (address_indexes c a) (members_any (ends c.levels) agree ∙ none)
      ∙ members_length agree

  -- with one at most N + 1 marks
  pub lookup_few : any (ends c.levels) b.marks ≡ true → (lookup_in c.levels t a).read ≤ suc c.levels
  unfolding marks_of
  lookup_few some =
      let there = sym (ends_keys c.levels small (keys_of t) (sorted_fits c.levels t sorted)) ∙ members_any (ends c.levels) agree ∙ some in
      omega (arith, few_read c.levels small (low_page c.levels a) (low_small c.levels a) 0 (keys_of t) (omega arith) sorted.ascend there)

-- ---- any table, damaged ones too
bounded : (n p : ℕ) (ks : List ℕ) → ((search_of n p ks).depth ≤ 7) × ((search_of n p ks).read ≤ length ks)
unfolding search_of level_at
bounded n p [] = (omega arith, omega arith)
bounded n p (k ∷ ks) = go (ltb n (level_at p k)) (level (eqb (p / 2 ^ (9 * (k % 8))) (k / 8))) (bounded n p ks)
  where
    level : (t : Bool) → cond t (k % 8) 0 ≤ 7
    level true = omega arith
    level false = omega arith

    go : (t : Bool) → level_at p k ≤ 7 → ((search_of n p ks).depth ≤ 7) × ((search_of n p ks).read ≤ length ks)
        → (max (level_at p k) (cond t nothing (search_of n p ks)).depth ≤ 7) × (suc (cond t nothing (search_of n p ks)).read ≤ suc (length ks))
    go true l ih = (omega arith, omega arith)
    go false l ih = (omega (arith, ih.0), omega (arith, ih.1))

-- the level is one of three bits, and no mark is read that is not set
pub lookup_bounded : (n : ℕ) (t : Marks) (a : ℕ) → t.set < 2 ^ 64 → ((lookup_in n t a).depth ≤ 7) × ((lookup_in n t a).read ≤ ones t.set)
lookup_bounded n t a word = let k = bounded n (low_page n a) (keys_of t) in (k.0, omega (arith, k.1, keys_count t.place t.set word))
