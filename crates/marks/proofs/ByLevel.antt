-- The two tables by level: a key below its level's end fits, and the page begins with the indexes of one that is wanted.
-- Each law holds for any key, damaged ones too.
use mathlib.Core.Path.{◌≡◌, refl, sym, ap, ◌∙◌}
use mathlib.Core.Bool.{Bool, true, false, ◌&&◌, cond}
use mathlib.Core.List.{List, [], ◌∷◌}
use Prim.Native.Nat.{ℕ, zero, suc, ◌+◌, ◌-◌, ◌*◌, ◌/◌, ◌%◌, ◌^◌, ◌<◌, max}
use native.Mathlib.Omega.{arith}
use native.Mathlib.Decide.{dec_le, ℕ_discrete}
use borrow.Author.Tests.{lt-ltb, le-ltb, eq-eqb, ne_eqb}
use lib.Dec.{eqb, ltb}
use lib.Bits.{bit_and}
use lib.Count.{count_trailing_zeros}
use lib.ListN.{length, get_or}
use Rattle.spec.specs.declared.Lookup.{Lookup}
use Rattle.spec.specs.Search.{nothing, more}
use Rattle.spec.specs.Refusal.{level_fits}
use Rattle.entry.specs.Levels.{of_levels}
use Rattle.marks.specs.Key.{key_of, level_at, search_of, key_fits}
use Rattle.marks.specs.ByLevel.{by_level, end_of, ends_of, wants_of, fits_by, wanted_by, wanted_from}
use Rattle.marks.specs.Table.{keys}
use Rattle.marks.proofs.Turn.{keys_turn}

at_level : (f : ℕ → ℕ) (l : ℕ) → l < 8 → get_or (by_level f) l 0 ≡ f l
at_level f zero h = refl
at_level f (suc zero) h = refl
at_level f (suc (suc zero)) h = refl
at_level f (suc (suc (suc zero))) h = refl
at_level f (suc (suc (suc (suc zero)))) h = refl
at_level f (suc (suc (suc (suc (suc zero))))) h = refl
at_level f (suc (suc (suc (suc (suc (suc zero)))))) h = refl
at_level f (suc (suc (suc (suc (suc (suc (suc zero))))))) h = refl
at_level f (suc (suc (suc (suc (suc (suc (suc (suc l)))))))) h = absurd (omega arith)

-- ---- where a level's keys end
eighth : (k m : ℕ) → ltb k (8 * m) ≡ ltb (k / 8) m
eighth k m =
    elim (dec_le (8 * m) k) [
      | yes le ↦ le-ltb k (8 * m) le ∙ sym (le-ltb (k / 8) m (omega arith))
      | no gt ↦ lt-ltb k (8 * m) (omega arith) ∙ sym (lt-ltb (k / 8) m (omega arith))
    ]

pub ends_fit : (n k : ℕ) → fits_by (ends_of n) k ≡ key_fits n k
unfolding ends_of end_of key_fits
ends_fit n k = ap (ltb k) (at_level (end_of n) (k % 8) (omega arith)) ∙ go (level_fits (of_levels n) (k % 8))
  where
    go : (t : Bool) → ltb k (cond t (8 * 2 ^ (9 * (n - k % 8))) 0) ≡ (t && ltb (k / 8) (2 ^ (9 * (n - k % 8))))
    go true = eighth k _
    go false = le-ltb k 0 (omega arith)

-- ---- the keys that a page asks for
eighths : (p k : ℕ) → eqb (key_of (k % 8) p) k ≡ eqb (p / 2 ^ (9 * (k % 8))) (k / 8)
unfolding key_of
eighths p k =
    let q = p / 2 ^ (9 * (k % 8)) in
    elim (ℕ_discrete q (k / 8)) [
      | yes e ↦ eq-eqb (q * 8 + k % 8) k (omega arith) ∙ sym (eq-eqb q (k / 8) e)
      | no ne ↦ ne_eqb (q * 8 + k % 8) k (λ e. ne (omega arith)) ∙ sym (ne_eqb q (k / 8) ne)
    ]

wants_match : (p k : ℕ) → level_at p k ≡ cond (wanted_by (wants_of p) k) (k % 8) 0
unfolding level_at wants_of
wants_match p k =
    ap (λ (t : Bool). cond t (k % 8) 0)
    (sym (ap (λ (w : ℕ). eqb w k) (at_level (λ l. key_of l p) (k % 8) (omega arith)) ∙ eighths p k))

-- the lookup f among the keys ks comes to g among xs, their end, once those before xs are read and gave the level l
abbrev pub Onward : ℕ → List ℕ → List ℕ → Lookup → Lookup → Type 0
Onward l ks xs f g = (f.depth ≡ max l g.depth) × (f.read + length xs ≡ length ks + g.read)

-- the search goes on from the first key that is wanted: those before it are read and give no level
module _ (n p : ℕ) where
  wanted_turn : (ks : List ℕ) (k : ℕ) (xs : List ℕ) → wanted_from (wants_of p) ks ≡ k ∷ xs
      → Onward (k % 8) ks xs (search_of n p ks) (cond (ltb n (k % 8)) nothing (search_of n p xs))
  unfolding search_of wanted_from
  wanted_turn [] k xs e = absurd (let z : ◌≡◌ {A = ℕ} 0 1 = cc in omega arith)
  wanted_turn (x ∷ ks) k xs e = go (wanted_by (wants_of p) x) (wants_match p x) e (wanted_turn ks k xs)
    where
      go : (t : Bool) → level_at p x ≡ cond t (x % 8) 0 → cond t (x ∷ ks) (wanted_from (wants_of p) ks) ≡ k ∷ xs
          → (wanted_from (wants_of p) ks ≡ k ∷ xs → Onward (k % 8) ks xs (search_of n p ks) (cond (ltb n (k % 8)) nothing (search_of n p xs)))
          → Onward (k % 8) (x ∷ ks) xs (more (level_at p x) (cond (ltb n (level_at p x)) nothing (search_of n p ks))) (cond (ltb n (k % 8)) nothing (search_of n p xs))
      go true m f h = let same : x ≡ k = cc in let left : ks ≡ xs = cc in rw (m, same, left) (refl, omega arith)
      go false m f h = rw (m, le-ltb n 0 (omega arith)) (omega (arith, (h f).0), omega (arith, (h f).1))

  pub wanted_end : (ks : List ℕ) → wanted_from (wants_of p) ks ≡ [] → Onward 0 ks [] (search_of n p ks) nothing
  unfolding search_of wanted_from
  wanted_end [] e = (refl, refl)
  wanted_end (x ∷ ks) e = go (wanted_by (wants_of p) x) (wants_match p x) e (wanted_end ks)
    where
      go : (t : Bool) → level_at p x ≡ cond t (x % 8) 0 → cond t (x ∷ ks) (wanted_from (wants_of p) ks) ≡ []
          → (wanted_from (wants_of p) ks ≡ [] → Onward 0 ks [] (search_of n p ks) nothing)
          → Onward 0 (x ∷ ks) [] (more (level_at p x) (cond (ltb n (level_at p x)) nothing (search_of n p ks))) nothing
      go true m f h = absurd (let z : ◌≡◌ {A = ℕ} 0 1 = cc in omega arith)
      go false m f h = rw (m, le-ltb n 0 (omega arith)) (omega (arith, (h f).0), omega (arith, (h f).1))

-- in a table: `set` are its places from the first on whose key is wanted, i and next what `lowest` and `after_lowest` yield of them
module _ (n p : ℕ) (place : List ℕ) (rest set i next : ℕ) (some : 0 < set) (word : set < 2 ^ 64) (first : i ≡ count_trailing_zeros 64 set) (others : next ≡ bit_and set (set - 1))
    (wanted : keys place set ≡ wanted_from (wants_of p) (keys place rest)) where
  pub place_wanted : let l = get_or place i 0 % 8 in Onward l (keys place rest) (keys place next) (search_of n p (keys place rest)) (cond (ltb n l) nothing (search_of n p (keys place next)))
  place_wanted = wanted_turn n p (keys place rest) (get_or place i 0) (keys place next) (sym wanted ∙ keys_turn place set i next some word first others)
