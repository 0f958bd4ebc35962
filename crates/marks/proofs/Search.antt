-- What the search for a key says: whether the table holds it, and of the place found.
use mathlib.Core.Path.{◌≡◌, refl, sym}
use mathlib.Core.Bool.{Bool, true, false, ◌||◌, cond}
use mathlib.Core.List.{List, [], ◌∷◌, map}
use Prim.Native.Nat.{ℕ, zero, suc, ◌<◌}
use native.Mathlib.Omega.{arith}
use native.Mathlib.Decide.{ℕ_discrete}
use borrow.Author.Tests.{ne_eqb, eqb-true, lt-ltb}
use lib.Dec.{eqb, ltb}
use lib.ListN.{get_or}
use Rattle.spec.specs.Prefix.{any}
use Rattle.spec.specs.Prefix.{All}
use Rattle.spec_laws.proofs.Lists.{all_map, all_append}
use Rattle.bits.specs.Bit.{bit, set_at, places}
use Rattle.marks.specs.Table.{room, keys, place_in, place_of}

-- each place of the list is below k, and set
abbrev Set : ℕ → ℕ → ℕ → Type 0
Set k x i = (i < k) × (bit x i ≡ 1)

places_set : (k x : ℕ) → All (Set k x) (places k x)
unfolding places
places_set zero x = tt
places_set (suc k) x =
    all_append (Set (suc k) x) (places k x) (set_at x k) (all_map (Set k x) (Set (suc k) x) (places k x) further (places_set k x)) here
  where
    further : (i : ℕ) → Set k x i → Set (suc k) x i
    further i s = (omega (arith, s.0), s.1)

    here : All (Set (suc k) x) (set_at x k)
    here = elim (ℕ_discrete (bit x k) 1) [ yes e ↦ rw e ((omega arith, e), tt) | no ne ↦ rw (ne_eqb _ _ ne) tt ]

module _ (place : List ℕ) (k : ℕ) where
  -- it is found exactly if the keys hold it
  known : (is : List ℕ) (x : ℕ) → All (Set room x) is → ltb (place_in place k is) room ≡ any (eqb k) (map (λ i. get_or place i 0) is)
  unfolding place_in
  known [] x a = refl
  known (i ∷ is) x a = go (eqb k (get_or place i 0)) (known is x a.1)
    where
      go : (t : Bool) → ltb (place_in place k is) room ≡ any (eqb k) (map (λ i. get_or place i 0) is)
          → ltb (cond t i (place_in place k is)) room ≡ (t || any (eqb k) (map (λ i. get_or place i 0) is))
      go true h = lt-ltb i room a.0.0
      go false h = h

  pub place_known : (x : ℕ) → ltb (place_of place x k) room ≡ any (eqb k) (keys place x)
  unfolding place_of keys
  place_known x = known (places room x) x (places_set room x)

  -- a place that is found is set, and holds the key
  abbrev Found : ℕ → ℕ → Type 0
  Found x j = (bit x j ≡ 1) × (get_or place j 0 ≡ k)

  there : (is : List ℕ) (x : ℕ) → All (Set room x) is → place_in place k is < room
      → Found x (place_in place k is)
  unfolding place_in
  there [] x a l = absurd (omega arith)
  there (i ∷ is) x a l = go (eqb k (get_or place i 0)) refl l (there is x a.1)
    where
      go : (t : Bool) → eqb k (get_or place i 0) ≡ t → cond t i (place_in place k is) < room → (place_in place k is < room → Found x (place_in place k is)) → Found x (cond t i (place_in place k is))
      go true e g h = (a.0.1, sym (eqb-true k (get_or place i 0) e))
      go false e g h = h g

  pub place_found : (x : ℕ) → place_of place x k < room → (bit x (place_of place x k) ≡ 1) × (get_or place (place_of place x k) 0 ≡ k)
  unfolding place_of
  place_found x l = there (places room x) x (places_set room x) l
