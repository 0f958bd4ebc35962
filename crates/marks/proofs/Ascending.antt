-- Keys that ascend break no rule: no two of them are equal.
use mathlib.Core.Path.{◌≡◌, refl}
use mathlib.Core.Bool.{Bool, true, false, ◌&&◌, and-eq-true_iff}
use mathlib.Core.List.{List, [], ◌∷◌}
use Prim.Native.Nat.{ℕ, suc, ◌≤◌}
use native.Mathlib.Omega.{arith}
use borrow.Author.Tests.{ltb-true, ne_eqb, leb-true}
use lib.Dec.{eqb, ltb, leb}
use Rattle.spec.specs.Prefix.{any}
use Rattle.spec.specs.Refusal.{level_fits}
use Rattle.entry.specs.Levels.{of_levels}
use Rattle.marks.specs.Key.{key_fits, keys_fit, ascending}

-- ---- conjunctions that hold
pub and_left : (a b : Bool) → (a && b) ≡ true → a ≡ true
and_left a b e = ((and-eq-true_iff a b).0 e).0

pub and_right : (a b : Bool) → (a && b) ≡ true → b ≡ true
and_right a b e = ((and-eq-true_iff a b).0 e).1

pub level_below : (n level : ℕ) → level_fits (of_levels n) level ≡ true → (1 ≤ level) × (level ≤ suc n)
level_below n level e = (leb-true 1 level (and_left (leb 1 level) _ e), leb-true level (suc n) (and_right (leb 1 level) _ e))

module _ (n : ℕ) where
  -- a key not above the last one is none of them
  pub ascending_above : (last k : ℕ) (ks : List ℕ) → k ≤ last → ascending n last ks ≡ true → any (eqb k) ks ≡ false
  unfolding ascending
  ascending_above last k [] l e = refl
  ascending_above last k (x ∷ xs) l e =
      let f = and_left (ltb last x && key_fits n x) (ascending n x xs) e in
      let g = ltb-true last x (and_left (ltb last x) (key_fits n x) f) in
      let h = ascending_above x k xs (omega arith) (and_right (ltb last x && key_fits n x) (ascending n x xs) e) in
      rw (ne_eqb k x (λ q. omega arith), h)

  pub ascending_fits : (last : ℕ) (ks : List ℕ) → ascending n last ks ≡ true → keys_fit n ks ≡ true
  unfolding ascending keys_fit
  ascending_fits last [] e = refl
  ascending_fits last (x ∷ xs) e =
      let f = and_left (ltb last x && key_fits n x) (ascending n x xs) e in
      let r = and_right (ltb last x && key_fits n x) (ascending n x xs) e in
      rw (and_right (ltb last x) (key_fits n x) f, ascending_above x x xs (omega arith) r, ascending_fits x xs r)
