-- Keys say what marks say: level and prefix, whether they fit, whether they are alike, what a search among them finds.
-- Each law holds for any key, damaged ones too, where it does not ask that the key fits.
use mathlib.Core.Path.{◌≡◌, refl, sym, ap, ap₂, ◌∙◌}
use mathlib.Core.Bool.{Bool, true, false, not, ◌&&◌, ◌||◌, cond, and-false, and-true}
use mathlib.Core.List.{List, [], ◌∷◌, map}
use Prim.Native.Nat.{ℕ, suc, ◌+◌, ◌-◌, ◌*◌, ◌/◌, ◌%◌, ◌^◌, ◌<◌, ◌≤◌}
use native.Mathlib.Omega.{arith}
use native.Mathlib.Decide.{dec_le}
use borrow.Author.Tests.{eq-eqb, ne_eqb, eqb-true, eqb-false, lt-ltb, le-ltb, ltb-true, ltb-false, leb-true}
use lib.Dec.{eqb, leb, ltb}
use lib.Pow.{pow_mono, shr_lt}
use lib.ListN.{length}
use Rattle.spec.specs.declared.Lookup.{Lookup}
use Rattle.spec.specs.Config.{Config}
use Rattle.spec.specs.Entry.{indexes}
use Rattle.spec.specs.Prefix.{begins, same, any, All}
use Rattle.spec.specs.Book.{mark_at, same_mark, is_set, level_for}
use Rattle.spec.specs.Search.{nothing, more, search}
use Rattle.spec.specs.Refusal.{all_of, mark_fits, level_fits, no_two_alike}
use Rattle.spec_laws.proofs.Indexes.{indexes_length, indexes_small, indexes_above, indexes_same, begins_longer, same_longer, begins_indexes}
use Rattle.spec_laws.proofs.Depth.{MarkFits}
use Rattle.marks.specs.Key.{key_of, level_at, search_of, key_fits, keys_fit}
use Rattle.marks.specs.Reading.{kept, mark_of}
use Rattle.marks.proofs.Ascending.{and_left, and_right}

-- ---- the level

-- a page number of n levels, without its l lowest indexes, is below 2 ^ (9 * (n - l)), also where l is above n
pub shifted : (n l p : ℕ) → p < 2 ^ (9 * n) → p / 2 ^ (9 * l) < 2 ^ (9 * (n - l))
shifted n l p b =
    let s : 9 * n ≤ 9 * (n - l) + 9 * l = omega arith in
    shr_lt (9 * (n - l)) (9 * l) (omega (arith, pow_mono s))

-- an address begins with the prefix of a key exactly if its page number, shifted, is what the key holds
module _ (n p l q : ℕ) (b : p < 2 ^ (9 * n)) where
  begins_kept : q < 2 ^ (9 * (n - l)) → begins (indexes (n - l) q) (indexes n p) ≡ eqb (p / 2 ^ (9 * l)) q
  unfolding indexes
  begins_kept s =
      elim (dec_le l n) [
        | yes le ↦ let all : n - l + l ≡ n = omega arith in rw all at (begins_indexes (n - l) l p q (rw all b) s)
        | no gt ↦
            let none : n - l ≡ 0 = omega arith in
            let low : q < 1 = rw none at s in
            let out : p / 2 ^ (9 * l) < 1 = rw none at (shifted n l p b) in
            rw none (sym (eq-eqb (p / 2 ^ (9 * l)) q (omega arith)))
      ]

  begins_other : 2 ^ (9 * (n - l)) ≤ q → begins (indexes (suc n) q) (indexes n p) ≡ eqb (p / 2 ^ (9 * l)) q
  begins_other g =
      begins_longer (indexes (suc n) q) (indexes n p) (rw (indexes_length n p, indexes_length (suc n) q) (omega arith))
      ∙ sym (ne_eqb (p / 2 ^ (9 * l)) q (λ e. omega (arith, shifted n l p b)))

  begins_key : begins (indexes (cond (ltb q (2 ^ (9 * (n - l)))) (n - l) (suc n)) q) (indexes n p) ≡ eqb (p / 2 ^ (9 * l)) q
  begins_key = go (ltb q (2 ^ (9 * (n - l)))) refl
    where
      go : (t : Bool) → ltb q (2 ^ (9 * (n - l))) ≡ t → begins (indexes (cond t (n - l) (suc n)) q) (indexes n p) ≡ eqb (p / 2 ^ (9 * l)) q
      go true e = begins_kept (ltb-true q _ e)
      go false e = begins_other (ltb-false q _ e)

-- so a key gives a page the level that its mark gives the address
level_key : (n p k : ℕ) → p < 2 ^ (9 * n) → level_at p k ≡ level_for (mark_of n k) (indexes n p)
unfolding level_at mark_of
level_key n p k b = rw (begins_key n p (k % 8) (k / 8) b)

-- ---- whether a key fits
fits_indexes : (n l q : ℕ) (t a : Bool)
    → (a && eqb (length (indexes (cond t (n - l) (suc n)) q)) (n - l) && all_of (λ i. ltb i 512) (indexes (cond t (n - l) (suc n)) q)) ≡ (a && t)
fits_indexes n l q true a = rw (indexes_length (n - l) q, eq-eqb (n - l) _ refl, indexes_small (n - l) q, and-true a, and-true a)
fits_indexes n l q false a = rw (indexes_length (suc n) q, ne_eqb (suc n) (n - l) (λ e. omega arith), and-false a)

pub fits_key : (c : Config) (k : ℕ) → mark_fits c (mark_of c.levels k) ≡ key_fits c.levels k
unfolding mark_of key_fits
fits_key c k =
    let n = c.levels in
    fits_indexes n (k % 8) (k / 8) (ltb (k / 8) (2 ^ (9 * (n - k % 8)))) (leb 1 (k % 8) && leb (k % 8) (suc n))

-- ---- whether two are alike

-- a key is its two parts
pub parts : (k x : ℕ) → (eqb (k % 8) (x % 8) && eqb (k / 8) (x / 8)) ≡ eqb k x
parts k x = go (eqb (k % 8) (x % 8)) refl (eqb (k / 8) (x / 8)) refl
  where
    go : (s : Bool) → eqb (k % 8) (x % 8) ≡ s → (t : Bool) → eqb (k / 8) (x / 8) ≡ t → (s && t) ≡ eqb k x
    go true e true f = sym (eq-eqb k x (omega (arith, eqb-true (k % 8) (x % 8) e, eqb-true (k / 8) (x / 8) f)))
    go true e false f = sym (ne_eqb k x (λ g. eqb-false (k / 8) (x / 8) f (ap (λ (y : ℕ). y / 8) g)))
    go false e t f = sym (ne_eqb k x (λ g. eqb-false (k % 8) (x % 8) e (ap (λ (y : ℕ). y % 8) g)))

-- of a number that fits k indexes, and any other
same_kept : (n l q r : ℕ) → q < 2 ^ (9 * (n - l))
    → same (indexes (n - l) q) (indexes (cond (ltb r (2 ^ (9 * (n - l)))) (n - l) (suc n)) r) ≡ eqb q r
same_kept n l q r s = go (ltb r (2 ^ (9 * (n - l)))) refl
  where
    go : (t : Bool) → ltb r (2 ^ (9 * (n - l))) ≡ t → same (indexes (n - l) q) (indexes (cond t (n - l) (suc n)) r) ≡ eqb q r
    go true e = indexes_same (n - l) q r s (ltb-true r _ e)
    go false e =
        same_longer (indexes (n - l) q) (indexes (suc n) r) (rw (indexes_length (n - l) q, indexes_length (suc n) r) (λ f. omega arith))
        ∙ sym (ne_eqb q r (λ f. omega (arith, ltb-false r _ e)))

key_small : (n k : ℕ) → key_fits n k ≡ true → k / 8 < 2 ^ (9 * (n - k % 8))
unfolding key_fits
key_small n k e = ltb-true (k / 8) _ (and_right (leb 1 (k % 8) && leb (k % 8) (suc n)) _ e)

pub key_positive : (n k : ℕ) → key_fits n k ≡ true → 0 < k
unfolding key_fits
key_positive n k e =
    let level = and_left (leb 1 (k % 8) && leb (k % 8) (suc n)) _ e in
    omega (arith, leb-true 1 (k % 8) (and_left (leb 1 (k % 8)) (leb (k % 8) (suc n)) level))

pub alike_keys : (n k x : ℕ) → key_fits n k ≡ true → same_mark (mark_of n k) (mark_of n x) ≡ eqb k x
unfolding mark_of
alike_keys n k x e = go (eqb (k % 8) (x % 8)) refl ∙ parts k x
  where
    go : (s : Bool) → eqb (k % 8) (x % 8) ≡ s → (s && same (indexes (kept n k) (k / 8)) (indexes (kept n x) (x / 8))) ≡ (eqb (k % 8) (x % 8) && eqb (k / 8) (x / 8))
    go false f = rw f
    go true f =
        let small = key_small n k e in
        rw (f, lt-ltb _ _ small, ← eqb-true (k % 8) (x % 8) f) (same_kept n (k % 8) (k / 8) (x / 8) small)

pub set_keys : (n k : ℕ) (ks : List ℕ) → key_fits n k ≡ true → is_set (mark_of n k) (map (mark_of n) ks) ≡ any (eqb k) ks
set_keys n k [] e = refl
set_keys n k (x ∷ ks) e = ap₂ ◌||◌ (alike_keys n k x e) (set_keys n k ks e)

-- the rules of a record's marks, told by their keys: each fits, and all differ
pub fits_keys : (c : Config) (ks : List ℕ)
    → (all_of (mark_fits c) (map (mark_of c.levels) ks) && no_two_alike (map (mark_of c.levels) ks)) ≡ keys_fit c.levels ks
unfolding keys_fit
fits_keys c [] = refl
fits_keys c (k ∷ ks) =
    let n = c.levels in
    rw (fits_key c k, ← fits_keys c ks)
    (go (key_fits n k) refl (all_of (mark_fits c) (map (mark_of n) ks)) (no_two_alike (map (mark_of n) ks)))
  where
    sorted : (s a t : Bool) → (a && (not s && t)) ≡ (not s && (a && t))
    sorted true a t = and-false a
    sorted false a t = refl

    go : (f : Bool) → key_fits c.levels k ≡ f → (a t : Bool)
        → (f && a && (not (is_set (mark_of c.levels k) (map (mark_of c.levels) ks)) && t)) ≡ (f && not (any (eqb k) ks) && (a && t))
    go true e a t = rw (set_keys c.levels k ks e) (sorted (any (eqb k) ks) a t)
    go false e a t = refl

-- ---- the key of a mark
module _ (c : Config) (l p : ℕ) (b : p < 2 ^ (9 * c.levels)) (h : l < 8) where
  pub level_of_lem : key_of l p % 8 ≡ l
  unfolding key_of
  level_of_lem = omega arith

  pub rest_of : key_of l p / 8 ≡ p / 2 ^ (9 * l)
  unfolding key_of
  rest_of = omega arith

  pub mark_key : mark_of c.levels (key_of l p) ≡ mark_at c l (indexes c.levels p)
  unfolding mark_of
  mark_key =
      rw (level_of_lem, rest_of, lt-ltb (p / 2 ^ (9 * l)) (2 ^ (9 * (c.levels - l))) (shifted c.levels l p b), indexes_above c.levels l p)

  pub key_fits_lem : level_fits c l ≡ true → key_fits c.levels (key_of l p) ≡ true
  unfolding key_fits
  key_fits_lem f = rw (level_of_lem, rest_of, f) (lt-ltb (p / 2 ^ (9 * l)) (2 ^ (9 * (c.levels - l))) (shifted c.levels l p b))

-- ---- the search, among keys that fit
module _ (n k : ℕ) (e : key_fits n k ≡ true) where
  key_level : k % 8 ≤ suc n
  unfolding key_fits
  key_level =
      let level = and_left (leb 1 (k % 8) && leb (k % 8) (suc n)) _ e in
      leb-true (k % 8) (suc n) (and_right (leb 1 (k % 8)) (leb (k % 8) (suc n)) level)

  fits_mark : MarkFits n (mark_of n k)
  unfolding mark_of
  fits_mark = record {
    kept = rw (lt-ltb (k / 8) (2 ^ (9 * (n - k % 8))) (key_small n k e)) (indexes_length (n - k % 8) (k / 8));
    bound = key_level;
  }

  -- a key of level n + 1 holds no index
  pub top_bare : k % 8 ≡ suc n → k / 8 ≡ 0
  top_bare top =
      let none : n - k % 8 ≡ 0 = omega arith in
      let low : k / 8 < 1 = rw none at (key_small n k e) in
      omega arith

  -- a level above all n is that of the key of level n + 1, and that key gives it to every page
  pub ends_key : (p : ℕ) → p < 2 ^ (9 * n) → ltb n (level_at p k) ≡ eqb (k % 8) (suc n)
  unfolding level_at
  ends_key p b =
      elim (dec_le (k % 8) n) [
        | yes le ↦ low (eqb (p / 2 ^ (9 * (k % 8))) (k / 8)) le ∙ sym (ne_eqb (k % 8) (suc n) (λ q. omega arith))
        | no gt ↦
            let top : k % 8 ≡ suc n = omega (arith, key_level) in
            let none : n - k % 8 ≡ 0 = omega arith in
            let out : p / 2 ^ (9 * (k % 8)) < 1 = rw none at (shifted n (k % 8) p b) in
            rw (eq-eqb (p / 2 ^ (9 * (k % 8))) (k / 8) (omega (arith, top_bare top))) (lt-ltb n (k % 8) (omega arith) ∙ sym (eq-eqb (k % 8) (suc n) top))
      ]
    where
      low : (t : Bool) → k % 8 ≤ n → ltb n (cond t (k % 8) 0) ≡ false
      low true le = le-ltb n (k % 8) le
      low false le = le-ltb n 0 (omega arith)

-- the rule for the first key and for those after it
module _ (n k : ℕ) (ks : List ℕ) (f : keys_fit n (k ∷ ks) ≡ true) where
  pub first_fits : key_fits n k ≡ true
  unfolding keys_fit
  first_fits = and_left (key_fits n k) (not (any (eqb k) ks)) (and_left (key_fits n k && not (any (eqb k) ks)) (keys_fit n ks) f)

  pub others_fit : keys_fit n ks ≡ true
  unfolding keys_fit
  others_fit = and_right (key_fits n k && not (any (eqb k) ks)) (keys_fit n ks) f

pub fits_marks : (n : ℕ) (ks : List ℕ) → keys_fit n ks ≡ true → All (MarkFits n) (map (mark_of n) ks)
fits_marks n [] f = tt
fits_marks n (k ∷ ks) f = (fits_mark n k (first_fits n k ks f), fits_marks n ks (others_fit n k ks f))

pub search_keys : (n p : ℕ) (ks : List ℕ) → p < 2 ^ (9 * n) → keys_fit n ks ≡ true → search_of n p ks ≡ search n (map (mark_of n) ks) (indexes n p)
unfolding search_of mark_of
search_keys n p [] b f = refl
search_keys n p (k ∷ ks) b f =
    ap (λ (t : Bool). more (level_at p k) (cond t nothing (search_of n p ks))) (ends_key n k (first_fits n k ks f) p b)
    ∙ ap₂ (λ (l : ℕ) (g : Lookup). more l (cond (eqb (k % 8) (suc n)) nothing g)) (level_key n p k b) (search_keys n p ks b (others_fit n k ks f))
