-- What programs use of one bit: after it is set, after it is cleared, the lowest set one, a free one, and the count.
-- Each law holds for every width k. Assumes nothing.
use mathlib.Core.Path.{◌≡◌, refl, sym, ap, ap₂, ◌∙◌, subst}
use mathlib.Core.Logic.{◌⊎◌, inl, inr, ⊎_elim}
use Prim.Native.Nat.{ℕ, zero, suc, ◌+◌, ◌-◌, ◌*◌, ◌/◌, ◌%◌, ◌^◌, ◌≤◌, ◌<◌, min}
use native.Mathlib.Nat.{pow-suc, min-zero, zero-min, mod-lt}
use native.Mathlib.Numerals.{one-add, add-one}
use native.Mathlib.Omega.{arith}
use native.Mathlib.Decide.{dec_le}
use lib.Pow.{pow_pos, shr-shr, split, field, mod-mod-pow}
use lib.Bits.{bit_and, bit_or, and_step, and_self, and_zero_r, or_disjoint}
use lib.Count.{ones, ones_step, ones_cat, ones-ones, count_trailing_zeros, under}
use Rattle.bits.specs.Bit.{bit}

-- ---- the bit by halving, as the laws of `lib.Count` go: each law is then an induction of a few clauses
digit : ℕ → ℕ → ℕ
digit x zero = x % 2
digit x (suc i) = digit (x / 2) i

bit_digit : (i x : ℕ) → bit x i ≡ digit x i
unfolding digit
bit_digit zero x = omega arith
bit_digit (suc i) x =
    ap (λ (n : ℕ). x / 2 ^ n % 2) (sym (one-add i)) ∙ ap (λ (n : ℕ). n % 2) (sym (shr-shr x 1 i)) ∙ bit_digit i (x / 2)

two : (n : ℕ) → n < 2 → (n ≡ 0) ⊎ (n ≡ 1)
two zero h = inl refl
two (suc zero) h = inr refl
two (suc (suc n)) h = absurd (omega arith)

pub parity : (x : ℕ) → (x % 2 ≡ 0) ⊎ (x % 2 ≡ 1)
parity x = two (x % 2) (omega arith)

-- ---- a clear bit is set: the number grows by 2 ^ t
grown_half : (t x : ℕ) → (x + 2 ^ suc t) / 2 ≡ x / 2 + 2 ^ t
grown_half t x = omega (arith, pow-suc 2 t)

grown_same : (t x : ℕ) → digit x t ≡ 0 → digit (x + 2 ^ t) t ≡ 1
unfolding digit
grown_same zero x h = omega arith
grown_same (suc t) x h = ap (λ (n : ℕ). digit n t) (grown_half t x) ∙ grown_same t (x / 2) h

grown_other : (t x i : ℕ) → digit x t ≡ 0 → (i ≡ t → ⊥) → digit (x + 2 ^ t) i ≡ digit x i
unfolding digit
grown_other zero x zero h n = absurd (n refl)
grown_other zero x (suc i) h n = ap (λ (y : ℕ). digit y i) (omega arith)
grown_other (suc t) x zero h n = omega (arith, pow-suc 2 t)
grown_other (suc t) x (suc i) h n =
    ap (λ (y : ℕ). digit y i) (grown_half t x) ∙ grown_other t (x / 2) i h (λ e. n (ap suc e))

grown_fits : (k t x : ℕ) → t < k → x < 2 ^ k → digit x t ≡ 0 → x + 2 ^ t < 2 ^ k
unfolding digit
grown_fits zero t x l b h = absurd (omega arith)
grown_fits (suc k) zero x l b h = omega (arith, pow-suc 2 k)
grown_fits (suc k) (suc t) x l b h =
    omega (arith, pow-suc 2 k, pow-suc 2 t, grown_fits k t (x / 2) (omega arith) (omega (arith, pow-suc 2 k)) h)

-- ---- a set bit is cleared: the number falls by 2 ^ t
fallen_le : (t x : ℕ) → digit x t ≡ 1 → 2 ^ t ≤ x
unfolding digit
fallen_le zero x h = omega arith
fallen_le (suc t) x h = omega (arith, pow-suc 2 t, fallen_le t (x / 2) h)

fallen_same : (t x : ℕ) → digit x t ≡ 1 → digit (x - 2 ^ t) t ≡ 0
unfolding digit
fallen_same zero x h = omega arith
fallen_same (suc t) x h =
    ap (λ (n : ℕ). digit n t) (omega (arith, pow-suc 2 t, fallen_le t (x / 2) h)) ∙ fallen_same t (x / 2) h

fallen_other : (t x i : ℕ) → digit x t ≡ 1 → (i ≡ t → ⊥) → digit (x - 2 ^ t) i ≡ digit x i
fallen_other t x i h n =
    sym (grown_other t (x - 2 ^ t) i (fallen_same t x h) n) ∙ ap (λ (y : ℕ). digit y i) (omega (arith, fallen_le t x h))

-- ---- the lowest set bit of x: its place is below k, it is set, and x & (x - 1) clears it
Lowest : ℕ → ℕ → ℕ → Type 0
Lowest k x t = (t < k) × (digit x t ≡ 1) × (bit_and x (x - 1) ≡ x - 2 ^ t)

lowest_even : (k x t : ℕ) → x % 2 ≡ 0 → 0 < x → Lowest k (x / 2) t → Lowest (suc k) x (suc t)
unfolding Lowest digit
lowest_even k x t e p (l, s, a) = (
  omega arith,
  s,
  and_step x (x - 1)
      ∙ ap₂ (λ (y z : ℕ). bit_and (x / 2) y * 2 + z) (omega arith) (ap (λ (z : ℕ). min z ((x - 1) % 2)) e ∙ zero-min ((x - 1) % 2))
      ∙ ap (λ (z : ℕ). z * 2 + 0) a ∙ omega (arith, pow-suc 2 t, fallen_le t (x / 2) s),
)

lowest_odd : (k x : ℕ) → x % 2 ≡ 1 → Lowest (suc k) x 0
unfolding Lowest digit
lowest_odd k x e = (
  omega arith,
  e,
  and_step x (x - 1)
      ∙ ap₂ (λ (y z : ℕ). bit_and (x / 2) y * 2 + z) (omega arith) (ap (λ (z : ℕ). min (x % 2) z) (omega arith) ∙ min-zero (x % 2))
      ∙ ap (λ (z : ℕ). z * 2 + 0) (and_self (x / 2)) ∙ omega arith,
)

lowest_of_lem : (k x : ℕ) → 0 < x → x < 2 ^ k → Lowest k x (count_trailing_zeros k x)
unfolding count_trailing_zeros
lowest_of_lem zero x p b = absurd (omega arith)
lowest_of_lem (suc k) x p b =
    ⊎_elim
    (λ e. subst (λ (n : ℕ). Lowest (suc k) x (under n (count_trailing_zeros k (x / 2)))) (sym e)
    (lowest_even k x (count_trailing_zeros k (x / 2)) e p (lowest_of_lem k (x / 2) (omega arith) (omega (arith, pow-suc 2 k)))))
    (λ e. subst (λ (n : ℕ). Lowest (suc k) x (under n (count_trailing_zeros k (x / 2)))) (sym e) (lowest_odd k x e))
    (parity x)

-- no bit below it is set
under_lowest : (k x i : ℕ) → i < count_trailing_zeros k x → digit x i ≡ 0
unfolding count_trailing_zeros digit
under_lowest zero x i l = absurd (omega arith)
under_lowest (suc k) x i l =
    ⊎_elim (λ e. halve k x i e (under_lowest k (x / 2)) (rw e at l)) (λ e. let g : i < 0 = rw e at l in absurd (omega arith)) (parity x)
  where
    halve : (k x i : ℕ) → x % 2 ≡ 0 → ((j : ℕ) → j < count_trailing_zeros k (x / 2) → digit (x / 2) j ≡ 0)
        → i < suc (count_trailing_zeros k (x / 2)) → digit x i ≡ 0
    halve k x zero e f l = e
    halve k x (suc i) e f l = f i (omega arith)

-- ---- the count
grown_ones : (t x : ℕ) → digit x t ≡ 0 → ones (x + 2 ^ t) ≡ ones x + 1
unfolding digit
grown_ones zero x h =
    let a : (x + 1) % 2 ≡ 1 = omega arith in
    let b : (x + 1) / 2 ≡ x / 2 = omega arith in
    ones_step (x + 1) ∙ ap₂ (λ (m n : ℕ). m + ones n) a b ∙ omega (arith, ones_step x)
grown_ones (suc t) x h =
    let a : (x + 2 ^ suc t) % 2 ≡ x % 2 = omega (arith, pow-suc 2 t) in
    ones_step (x + 2 ^ suc t) ∙ ap₂ (λ (m n : ℕ). m + ones n) a (grown_half t x)
    ∙ omega (arith, ones_step x, grown_ones t (x / 2) h)

-- ---- the complement in k digits
complement : (k x i : ℕ) → x < 2 ^ k → i < k → digit (2 ^ k - 1 - x) i + digit x i ≡ 1
unfolding digit
complement zero x i b l = absurd (omega arith)
complement (suc k) x zero b l = omega (arith, pow-suc 2 k)
complement (suc k) x (suc i) b l =
    ap (λ (n : ℕ). digit n i + digit (x / 2) i) (omega (arith, pow-suc 2 k))
    ∙ complement k (x / 2) i (omega (arith, pow-suc 2 k)) (omega arith)

-- ---- `|` with one bit
and_power : (t x : ℕ) → digit x t ≡ 0 → bit_and x (2 ^ t) ≡ 0
unfolding digit
and_power zero x h = and_step x 1 ∙ ap₂ (λ (y z : ℕ). y * 2 + z) (and_zero_r (x / 2)) (ap (λ (z : ℕ). min z 1) h ∙ zero-min 1)
and_power (suc t) x h =
    and_step x (2 ^ suc t)
    ∙ ap₂ (λ (y z : ℕ). bit_and (x / 2) y * 2 + min (x % 2) z) (omega (arith, pow-suc 2 t)) (omega (arith, pow-suc 2 t))
    ∙ ap₂ (λ (y z : ℕ). y * 2 + z) (and_power t (x / 2) h) (min-zero (x % 2))

-- ---- the laws, of `bit`

-- y is x but for the bit at the place t, which is v
pub record Changed (x t y v : ℕ) : Type 0 where
  pub same : bit y t ≡ v
  pub other : (i : ℕ) → (i ≡ t → ⊥) → bit y i ≡ bit x i

-- a clear bit is set
pub set_bit : (k x t : ℕ) → t < k → x < 2 ^ k → bit x t ≡ 0
    → (bit_or x (2 ^ t) ≡ x + 2 ^ t) × (x + 2 ^ t < 2 ^ k) × Changed x t (x + 2 ^ t) 1 × (ones (x + 2 ^ t) ≡ ones x + 1)
set_bit k x t l b h =
    let d : digit x t ≡ 0 = sym (bit_digit t x) ∙ h in (
      or_disjoint x (2 ^ t) (and_power t x d),
      grown_fits k t x l b d,
      record {
        same = bit_digit t (x + 2 ^ t) ∙ grown_same t x d;
        other = λ i n. bit_digit i (x + 2 ^ t) ∙ grown_other t x i d n ∙ sym (bit_digit i x);
      },
      grown_ones t x d,
    )

-- a set bit is cleared
pub clear_bit : (x t : ℕ) → bit x t ≡ 1 → (2 ^ t ≤ x) × Changed x t (x - 2 ^ t) 0 × (ones (x - 2 ^ t) + 1 ≡ ones x)
clear_bit x t h =
    let d : digit x t ≡ 1 = sym (bit_digit t x) ∙ h in
    let z : digit (x - 2 ^ t) t ≡ 0 = fallen_same t x d in (
      fallen_le t x d,
      record {
        same = bit_digit t (x - 2 ^ t) ∙ z;
        other = λ i n. bit_digit i (x - 2 ^ t) ∙ fallen_other t x i d n ∙ sym (bit_digit i x);
      },
      sym (grown_ones t (x - 2 ^ t) z) ∙ ap ones (omega (arith, fallen_le t x d)),
    )

-- the lowest set bit
pub lowest_bit : (k x : ℕ) → 0 < x → x < 2 ^ k
    → (count_trailing_zeros k x < k) × (bit x (count_trailing_zeros k x) ≡ 1) × (bit_and x (x - 1) ≡ x - 2 ^ count_trailing_zeros k x)
unfolding Lowest
lowest_bit k x p b = let l = lowest_of_lem k x p b in (l.0, bit_digit (count_trailing_zeros k x) x ∙ l.1, l.2)

pub below_lowest : (k x i : ℕ) → i < count_trailing_zeros k x → bit x i ≡ 0
below_lowest k x i l = bit_digit i x ∙ under_lowest k x i l

-- it is the same in any two widths that hold the number
pub lowest_same : (j k x : ℕ) → 0 < x → x < 2 ^ j → x < 2 ^ k → count_trailing_zeros j x ≡ count_trailing_zeros k x
lowest_same j k x p a b =
    elim (dec_le (count_trailing_zeros j x) (count_trailing_zeros k x)) [
      | yes le ↦
          elim (dec_le (count_trailing_zeros k x) (count_trailing_zeros j x)) [
            | yes ge ↦ omega arith
            | no gt ↦ absurd (omega (arith, (lowest_bit j x p a).1, below_lowest k x (count_trailing_zeros j x) (omega arith)))
          ]
      | no gt ↦ absurd (omega (arith, (lowest_bit k x p b).1, below_lowest j x (count_trailing_zeros k x) (omega arith)))
    ]

-- the lowest free place, where not all k are set
pub free_bit : (k x : ℕ) → x < 2 ^ k → (ones x ≡ k → ⊥)
    → (count_trailing_zeros k (2 ^ k - 1 - x) < k) × (bit x (count_trailing_zeros k (2 ^ k - 1 - x)) ≡ 0)
unfolding Lowest
free_bit k x b n =
    let full : x ≡ 2 ^ k - 1 → ⊥ = λ e. n (ap ones e ∙ ones-ones k) in
    let l = lowest_of_lem k (2 ^ k - 1 - x) (omega (arith, pow_pos k)) (omega (arith, pow_pos k)) in (
      l.0,
      bit_digit (count_trailing_zeros k (2 ^ k - 1 - x)) x ∙ omega (arith, l.1, complement k x (count_trailing_zeros k (2 ^ k - 1 - x)) b l.0),
    )

-- 0 has no bit set, 2 ^ n - 1 has just those below n, and what is below 2 ^ n has none from n on
digit_zero : (i : ℕ) → digit 0 i ≡ 0
unfolding digit
digit_zero zero = refl
digit_zero (suc i) = digit_zero i

pub bit_zero : (i : ℕ) → bit 0 i ≡ 0
bit_zero i = bit_digit i 0 ∙ digit_zero i

pub bit_ones : (n i : ℕ) → i < n → bit (2 ^ n - 1) i ≡ 1
bit_ones n i l =
    let none : digit 0 i ≡ 0 = digit_zero i in
    let all : digit (2 ^ n - 1 - 0) i + digit 0 i ≡ 1 = complement n 0 i (pow_pos n) l in
    let same : 2 ^ n - 1 - 0 ≡ 2 ^ n - 1 = omega arith in
    bit_digit i (2 ^ n - 1) ∙ ap (λ (x : ℕ). digit x i) (sym same) ∙ omega arith

digit_high : (n x i : ℕ) → x < 2 ^ n → n ≤ i → digit x i ≡ 0
unfolding digit
digit_high zero x i b l = let z : x ≡ 0 = omega arith in rw z (digit_zero i)
digit_high (suc n) x zero b l = absurd (omega arith)
digit_high (suc n) x (suc i) b l = digit_high n (x / 2) i (omega (arith, pow-suc 2 n)) (omega arith)

pub bit_high : (n x i : ℕ) → x < 2 ^ n → n ≤ i → bit x i ≡ 0
bit_high n x i b l = bit_digit i x ∙ digit_high n x i b l

-- the k low bits of a number: the same below k, and no more are set
digit_low : (k x i : ℕ) → i < k → digit (x % 2 ^ k) i ≡ digit x i
unfolding digit
digit_low zero x i l = absurd (omega arith)
digit_low (suc k) x zero l = rw (add-one k) at (mod-mod-pow x k 1)
digit_low (suc k) x (suc i) l =
    let half : x % 2 ^ suc k / 2 ≡ x / 2 % 2 ^ k = rw (add-one k) at (field x k 1) in
    ap (λ (n : ℕ). digit n i) half ∙ digit_low k (x / 2) i (omega arith)

pub bit_low : (k x i : ℕ) → i < k → bit (x % 2 ^ k) i ≡ bit x i
bit_low k x i l = bit_digit i (x % 2 ^ k) ∙ digit_low k x i l ∙ sym (bit_digit i x)

pub ones_low : (k x : ℕ) → ones (x % 2 ^ k) ≤ ones x
ones_low k x = omega (arith, sym (ap ones (split x k)) ∙ ones_cat k (x / 2 ^ k) (x % 2 ^ k) (mod-lt x (pow_pos k)))

-- a bit is 0 or 1, and one that is not 1 is 0
pub bit_clear : (x i : ℕ) → (bit x i ≡ 1 → ⊥) → bit x i ≡ 0
bit_clear x i n = ⊎_elim (λ z. z) (λ e. absurd (n e)) (parity (x / 2 ^ i))
