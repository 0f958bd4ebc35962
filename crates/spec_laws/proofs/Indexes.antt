-- Laws of the index lists of page and frame numbers: their length, their prefixes, and that they tell numbers apart.
-- Assumes nothing.
use mathlib.Core.Path.{◌≡◌, refl, sym, ap, ap₂, ◌∙◌}
use mathlib.Core.Bool.{Bool, true, false, ◌&&◌, and-false}
use mathlib.Core.List.{List, [], ◌∷◌, ◌++◌}
use Prim.Native.Nat.{ℕ, zero, suc, ◌+◌, ◌-◌, ◌*◌, ◌/◌, ◌%◌, ◌^◌, ◌<◌}
use native.Mathlib.Nat.{suc-add, mod-lt, mod-eq_of_lt}
use native.Mathlib.Omega.{arith}
use native.Mathlib.Decide.{dec_le}
use borrow.Author.Tests.{eq-eqb, ne_eqb, eqb-true, eqb-false, lt-ltb}
use lib.Dec.{eqb, ltb}
use lib.Pow.{pow_pos, shr-shr, shr_lt, mod-pow-add, mod-mod-pow, field, high, low}
use lib.ListN.{length, take}
use lib.Seq.{take_at}
use Rattle.spec.specs.Entry.{index, indexes}
use Rattle.spec.specs.Prefix.{begins, same}
use Rattle.spec.specs.Refusal.{all_of}
use Rattle.spec.specs.Prefix.{All}

pub indexes_length : (n p : ℕ) → length (indexes n p) ≡ n
unfolding indexes
indexes_length zero p = refl
indexes_length (suc n) p = ap suc (indexes_length n p)

pub indexes_step : (k p : ℕ) → 0 < k → indexes k p ≡ index (k - 1) p ∷ indexes (k - 1) p
unfolding indexes
indexes_step zero p h = absurd (omega arith)
indexes_step (suc k) p h = let z : suc k - 1 ≡ k = omega arith in rw z

pub indexes_all : (n p : ℕ) → All (λ i. i < 512) (indexes n p)
unfolding indexes index
indexes_all zero p = tt
indexes_all (suc n) p = (omega arith, indexes_all n p)

pub indexes_small : (n p : ℕ) → all_of (λ i. ltb i 512) (indexes n p) ≡ true
unfolding indexes index
indexes_small zero p = refl
indexes_small (suc n) p = rw (lt-ltb (p / 2 ^ (9 * n) % 512) 512 (omega arith)) (indexes_small n p)

-- the first k of k + n indexes are those of the number without its n lowest
pub indexes_split : (k n p : ℕ) → indexes (k + n) p ≡ indexes k (p / 2 ^ (9 * n)) ++ indexes n p
unfolding indexes index
indexes_split zero n p = let z : 0 + n ≡ n = omega arith in rw z
indexes_split (suc k) n p =
    let s : 9 * n + 9 * k ≡ 9 * (k + n) = omega arith in
    rw (suc-add k n, indexes_split k n p, shr-shr p (9 * n) (9 * k), s)

pub indexes_take : (k n p : ℕ) → take k (indexes (k + n) p) ≡ indexes k (p / 2 ^ (9 * n))
indexes_take k n p =
    ap (take k) (indexes_split k n p) ∙ take_at (indexes k (p / 2 ^ (9 * n))) (indexes n p) k (indexes_length k (p / 2 ^ (9 * n)))

-- of n indexes those above the l lowest, also where l is above n
pub indexes_above : (n l p : ℕ) → indexes (n - l) (p / 2 ^ (9 * l)) ≡ take (n - l) (indexes n p)
unfolding indexes
indexes_above n l p = elim (dec_le l n) [
  | yes le ↦ let all : n - l + l ≡ n = omega arith in rw all at (sym (indexes_take (n - l) l p))
  | no gt ↦ let none : n - l ≡ 0 = omega arith in rw none
]

-- the n lowest indexes do not read the bits above them: j of these may be kept
indexes_cut : (n j p : ℕ) → indexes n (p % 2 ^ (j + 9 * n)) ≡ indexes n p
unfolding indexes index
indexes_cut zero j p = refl
indexes_cut (suc n) j p =
    let more : j + 9 * suc n ≡ j + 9 + 9 * n = omega arith in
    let first = ap (λ (i : ℕ). i % 512) (field p (j + 9) (9 * n)) ∙ mod-mod-pow (p / 2 ^ (9 * n)) j 9 in
    rw more (ap₂ (λ (i : ℕ) (is : List ℕ). i ∷ is) first (indexes_cut n (j + 9) p))

pub indexes_low : (n p : ℕ) → indexes n (p % 2 ^ (9 * n)) ≡ indexes n p
indexes_low n p = let z : 9 * n ≡ 0 + 9 * n = omega arith in rw z (indexes_cut n 0 p)

pub eqb_sym : (a b : ℕ) → eqb a b ≡ eqb b a
eqb_sym a b = go (eqb a b) refl
  where
    go : (t : Bool) → eqb a b ≡ t → t ≡ eqb b a
    go true e = sym (eq-eqb b a (sym (eqb-true a b e)))
    go false e = sym (ne_eqb b a (λ f. eqb-false a b e (sym f)))

pub same_sym : (p q : List ℕ) → same p q ≡ same q p
same_sym [] [] = refl
same_sym [] (y ∷ q) = refl
same_sym (x ∷ p) [] = refl
same_sym (x ∷ p) (y ∷ q) = ap₂ ◌&&◌ (eqb_sym x y) (same_sym p q)

-- two numbers of a high and a low part are equal where both parts are
both_parts : (k a b c d : ℕ) → b < 2 ^ k → d < 2 ^ k → (eqb a c && eqb b d) ≡ eqb (a * 2 ^ k + b) (c * 2 ^ k + d)
both_parts k a b c d lb ld = go (eqb a c) refl (eqb b d) refl
  where
    go : (s : Bool) → eqb a c ≡ s → (t : Bool) → eqb b d ≡ t → (s && t) ≡ eqb (a * 2 ^ k + b) (c * 2 ^ k + d)
    go true e true f = rw (eqb-true a c e, eqb-true b d f) (sym (eq-eqb (c * 2 ^ k + d) _ refl))
    go true e false f = sym (ne_eqb _ _ (λ g. eqb-false b d f (sym (low a k lb) ∙ ap (λ (x : ℕ). x % 2 ^ k) g ∙ low c k ld)))
    go false e t f = sym (ne_eqb _ _ (λ g. eqb-false a c e (sym (high a k lb) ∙ ap (λ (x : ℕ). x / 2 ^ k) g ∙ high c k ld)))

-- equal indexes are equal numbers, as far as these indexes go
same_parts : (k p q : ℕ) → same (indexes k p) (indexes k q) ≡ eqb (p % 2 ^ (9 * k)) (q % 2 ^ (9 * k))
unfolding indexes index
same_parts zero p q =
    let a : p % 1 ≡ 0 = omega arith in
    let b : q % 1 ≡ 0 = omega arith in
    rw (a, b)
same_parts (suc k) p q =
    let s : 9 * suc k ≡ 9 + 9 * k = omega arith in
    rw (s, mod-pow-add p 9 (9 * k), mod-pow-add q 9 (9 * k), same_parts k p q)
    (both_parts (9 * k) (p / 2 ^ (9 * k) % 512) (p % 2 ^ (9 * k)) (q / 2 ^ (9 * k) % 512) (q % 2 ^ (9 * k)) (mod-lt p (pow_pos (9 * k))) (mod-lt q (pow_pos (9 * k))))

pub indexes_same : (k p q : ℕ) → p < 2 ^ (9 * k) → q < 2 ^ (9 * k) → same (indexes k p) (indexes k q) ≡ eqb p q
indexes_same k p q lp lq =
    same_parts k p q ∙ ap₂ eqb (mod-eq_of_lt lp) (mod-eq_of_lt lq)

-- ---- prefixes of lists

pub begins_append : (xs ys zs : List ℕ) → length xs ≡ length ys → begins xs (ys ++ zs) ≡ same xs ys
begins_append [] [] zs e = refl
begins_append [] (y ∷ ys) zs e = absurd (omega arith)
begins_append (x ∷ xs) [] zs e = absurd (omega arith)
begins_append (x ∷ xs) (y ∷ ys) zs e = rw (begins_append xs ys zs (omega arith))

pub begins_longer : (xs ys : List ℕ) → length ys < length xs → begins xs ys ≡ false
begins_longer [] ys l = absurd (omega arith)
begins_longer (x ∷ xs) [] l = refl
begins_longer (x ∷ xs) (y ∷ ys) l = rw (begins_longer xs ys (omega arith), and-false (eqb x y))

pub same_longer : (xs ys : List ℕ) → (length xs ≡ length ys → ⊥) → same xs ys ≡ false
same_longer [] [] n = absurd (n refl)
same_longer [] (y ∷ ys) n = refl
same_longer (x ∷ xs) [] n = refl
same_longer (x ∷ xs) (y ∷ ys) n = rw (same_longer xs ys (λ e. n (ap suc e)), and-false (eqb x y))

-- an address begins with the k indexes q: what its page number is without its n lowest indexes
pub begins_indexes : (k n p q : ℕ) → p < 2 ^ (9 * (k + n)) → q < 2 ^ (9 * k)
    → begins (indexes k q) (indexes (k + n) p) ≡ eqb (p / 2 ^ (9 * n)) q
begins_indexes k n p q lp lq =
    let h = p / 2 ^ (9 * n) in
    let s : 9 * (k + n) ≡ 9 * k + 9 * n = omega arith in
    let l : h < 2 ^ (9 * k) = shr_lt (9 * k) (9 * n) (rw s at lp) in
    ap (begins (indexes k q)) (indexes_split k n p)
    ∙ begins_append (indexes k q) (indexes k h) (indexes n p) (indexes_length k q ∙ sym (indexes_length k h))
    ∙ indexes_same k q h lq l ∙ eqb_sym q h
