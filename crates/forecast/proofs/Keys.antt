-- A path's key says what the path says: its indexes, whether two are the same, which tables stand on its way.
use mathlib.Core.Path.{◌≡◌, refl, sym, ap, ap₂, ◌∙◌}
use mathlib.Core.Bool.{Bool, true, false, ◌&&◌, ◌||◌, cond}
use mathlib.Core.List.{List, [], ◌∷◌, map}
use Prim.Native.Nat.{ℕ, zero, suc, ◌+◌, ◌-◌, ◌*◌, ◌/◌, ◌%◌, ◌^◌, ◌<◌, ◌≤◌}
use native.Mathlib.Omega.{arith}
use borrow.Author.Tests.{ne_eqb, eqb-true, eqb-false, lt-ltb, le-ltb, ltb-true, ltb-false}
use lib.Dec.{eqb, ltb}
use lib.ListN.{length, take, set}
use lib.Seq.{take-take, length-take-le, get_or-set_same, get_or-set_other}
use Rattle.spec.specs.Config.{Config}
use Rattle.spec.specs.Entry.{page_of, indexes}
use Rattle.spec.specs.Prefix.{All, any, same, begins, propers, all_propers}
use Rattle.spec.specs.Plain.{upper}
use Rattle.spec.specs.Call.{address_indexes}
use Rattle.spec_laws.proofs.Indexes.{indexes_length, indexes_above, indexes_same, same_longer, begins_indexes}
use Rattle.spec_laws.proofs.Added.{any_append, standing, proper_of, unbroken, unbroken_standing}
use Rattle.marks.specs.Key.{low_page, key_at}
use Rattle.marks.proofs.Pages.{low_small, low_indexes}
use Rattle.marks.proofs.Reading.{shifted, parts, level_of_lem, rest_of}
use Rattle.forecast.specs.Forecast.{newest, passes, met_from}

-- the path that a key stands for, of n levels
abbrev pub key_path : ℕ → ℕ → List ℕ
key_path n k = indexes (n - k % 8) (k / 8)

-- the key of a path: its depth is at most n, and above it stand only the indexes
abbrev pub PathKey : ℕ → ℕ → Type 0
PathKey n k = (k % 8 ≤ n) × (k / 8 < 2 ^ (9 * (n - k % 8)))

-- ---- the key of a depth at an address

module _ (c : Config) (d a : ℕ) (le : d ≤ c.levels) (few : c.levels < 8) where
  depth_of_lem : key_at c.levels d a % 8 ≡ d
  depth_of_lem = level_of_lem c d (low_page c.levels a) (low_small c.levels a) (omega arith)

  number_of : key_at c.levels d a / 8 ≡ low_page c.levels a / 2 ^ (9 * d)
  number_of = rest_of c d (low_page c.levels a) (low_small c.levels a) (omega arith)

  pub key_path_lem : key_path c.levels (key_at c.levels d a) ≡ upper c d (address_indexes c a)
  key_path_lem =
      rw (depth_of_lem, number_of)
      (indexes_above c.levels d (low_page c.levels a) ∙ ap (take (c.levels - d)) (low_indexes c a))

  pub path_key : PathKey c.levels (key_at c.levels d a)
  path_key = rw (depth_of_lem, number_of) (le, shifted c.levels d (low_page c.levels a) (low_small c.levels a))

-- ---- the same path

same_keys : (n k q : ℕ) → PathKey n k → PathKey n q → same (key_path n k) (key_path n q) ≡ eqb k q
same_keys n k q h g = go (eqb (k % 8) (q % 8)) refl
  where
    go : (t : Bool) → eqb (k % 8) (q % 8) ≡ t → same (key_path n k) (key_path n q) ≡ eqb k q
    go true e =
        let z : k % 8 ≡ q % 8 = eqb-true (k % 8) (q % 8) e in
        let small : k / 8 < 2 ^ (9 * (n - q % 8)) = rw z at h.1 in
        ap (λ (l : ℕ). same (indexes (n - l) (k / 8)) (key_path n q)) z ∙ indexes_same (n - q % 8) (k / 8) (q / 8) small g.1 ∙ rw e at (parts k q)
    go false e =
        let z = eqb-false (k % 8) (q % 8) e in
        same_longer (key_path n k) (key_path n q) (rw (indexes_length (n - k % 8) (k / 8), indexes_length (n - q % 8) (q / 8)) (λ f. z (omega (arith, f, h.0, g.0))))
        ∙ sym (ne_eqb k q (λ f. z (ap (λ (y : ℕ). y % 8) f)))

pub any_keys : (n k : ℕ) (qs : List ℕ) → PathKey n k → All (PathKey n) qs → any (same (key_path n k)) (map (key_path n) qs) ≡ any (eqb k) qs
any_keys n k [] h all = refl
any_keys n k (q ∷ qs) h all = ap₂ ◌||◌ (same_keys n k q h all.0) (any_keys n k qs h all.1)

-- ---- the tables that stand

-- a table is named by the key of its level and its indexes: a path has it where it passes through it
passes_key : (n k q : ℕ) → PathKey n k → PathKey n q → any (same (key_path n k)) (propers (key_path n q)) ≡ passes (k % 8) (k / 8) q
unfolding passes
passes_key n k q h g =
    proper_of (key_path n k) (key_path n q)
    ∙ ap₂ (λ (i j : ℕ). ltb i j && begins (key_path n k) (key_path n q)) (indexes_length (n - k % 8) (k / 8)) (indexes_length (n - q % 8) (q / 8))
    ∙ go (ltb (q % 8) (k % 8)) refl
  where
    go : (t : Bool) → ltb (q % 8) (k % 8) ≡ t
        → (ltb (n - k % 8) (n - q % 8) && begins (key_path n k) (key_path n q)) ≡ (t && eqb (q / 8 / 2 ^ (9 * (k % 8 - q % 8))) (k / 8))
    go true e =
        let l : q % 8 < k % 8 = ltb-true (q % 8) (k % 8) e in
        let s : n - q % 8 ≡ n - k % 8 + (k % 8 - q % 8) = omega (arith, l, h.0, g.0) in
        let small : q / 8 < 2 ^ (9 * (n - k % 8 + (k % 8 - q % 8))) = rw s at g.1 in
        ap (λ b. b && begins (key_path n k) (key_path n q)) (lt-ltb (n - k % 8) (n - q % 8) (omega (arith, l, h.0, g.0)))
        ∙ ap (λ (i : ℕ). begins (key_path n k) (indexes i (q / 8))) s
        ∙ begins_indexes (n - k % 8) (k % 8 - q % 8) (q / 8) (k / 8) small h.1
    go false e =
        let l : k % 8 ≤ q % 8 = ltb-false (q % 8) (k % 8) e in
        ap (λ b. b && begins (key_path n k) (key_path n q)) (le-ltb (n - k % 8) (n - q % 8) (omega (arith, l, h.0, g.0)))

stands_key : (n k : ℕ) (qs : List ℕ) → PathKey n k → All (PathKey n) qs
    → any (same (key_path n k)) (all_propers (map (key_path n) qs)) ≡ any (passes (k % 8) (k / 8)) qs
stands_key n k [] h all = refl
stands_key n k (q ∷ qs) h all =
    any_append (same (key_path n k)) (propers (key_path n q)) (all_propers (map (key_path n) qs))
    ∙ ap₂ ◌||◌ (passes_key n k q h all.0) (stands_key n k qs h all.1)

module _ (c : Config) (a d : ℕ) (qs : List ℕ) (le : d ≤ c.levels) (few : c.levels < 8) (all : All (PathKey c.levels) qs) where
  -- the table of level l on the way
  stands_at : (l i : ℕ) → d ≤ l → l ≤ c.levels → i ≡ c.levels - l
      → any (same (take i (upper c d (address_indexes c a)))) (all_propers (map (key_path c.levels) qs)) ≡ any (passes l (key_at c.levels l a / 8)) qs
  stands_at l i low up e =
      let n = c.levels in
      let z : take i (upper c d (address_indexes c a)) ≡ key_path n (key_at n l a) =
      take-take i (n - d) (address_indexes c a) (omega arith) ∙ ap (λ (j : ℕ). take j (address_indexes c a)) e ∙ sym (key_path_lem c l a up few) in
      ap (λ (x : List ℕ). any (same x) (all_propers (map (key_path n) qs))) z
      ∙ stands_key n (key_at n l a) qs (path_key c l a up few) all
      ∙ ap (λ (j : ℕ). any (passes j (key_at n l a / 8)) qs) (depth_of_lem c l a up few)

  met_unbroken : (i k : ℕ) → i + k ≡ c.levels - d
      → met_from qs c.levels a d k ≡ unbroken (λ l. any (same (take l (upper c d (address_indexes c a)))) (all_propers (map (key_path c.levels) qs))) i k
  unfolding met_from unbroken
  met_unbroken i zero e = refl
  met_unbroken i (suc k) e =
      ap₂ (λ b n. cond b (suc n) 0) (sym (stands_at (d + suc k) i (omega arith) (omega arith) (omega arith))) (met_unbroken (suc i) k (omega arith))

  pub met_standing : met_from qs c.levels a d (c.levels - d) ≡ standing (upper c d (address_indexes c a)) (map (key_path c.levels) qs)
  met_standing =
      let n = c.levels in
      let f : ℕ → Bool = λ l. any (same (take l (upper c d (address_indexes c a)))) (all_propers (map (key_path n) qs)) in
      let long : length (address_indexes c a) ≡ n = indexes_length n (page_of a) in
      let z : length (upper c d (address_indexes c a)) ≡ n - d = length-take-le (n - d) (address_indexes c a) (omega (arith, long)) in
      met_unbroken 0 (n - d) (omega arith) ∙ ap (unbroken f 0) (sym z) ∙ unbroken_standing (upper c d (address_indexes c a)) (map (key_path n) qs)

-- ---- the room

newest_below : (ks : List ℕ) (n m q : ℕ) → m ≤ n → newest (set ks n q) m ≡ newest ks m
unfolding newest
newest_below ks n zero q l = refl
newest_below ks n (suc m) q l =
    ap₂ (λ (x : ℕ) (xs : List ℕ). x ∷ xs) (get_or-set_other ks n m q 0 (λ e. omega arith)) (newest_below ks n m q (omega arith))

-- a key in the next place
pub newest_set : (ks : List ℕ) (n q : ℕ) → n < length ks → newest (set ks n q) (n + 1) ≡ q ∷ newest ks n
unfolding newest
newest_set ks n q l =
    let z : n + 1 ≡ suc n = omega arith in
    ap (newest (set ks n q)) z
    ∙ ap₂ (λ (x : ℕ) (xs : List ℕ). x ∷ xs) (get_or-set_same ks n q 0 l) (newest_below ks n n q (omega arith))
