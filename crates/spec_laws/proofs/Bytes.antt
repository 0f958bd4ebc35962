-- Laws of a part of a word, for every length and every place: what is put is got, every other part stays, a whole word is its own part.
-- The widths enter by one law: each is a power of two that divides the word's eight bytes.
-- Assumes nothing.
use mathlib.Core.Path.{◌≡◌, refl, sym, ap, ap₂, ◌∙◌, subst}
use mathlib.Core.Bool.{Bool, true, false, not, ◌&&◌}
use mathlib.Core.List.{List, [], ◌∷◌}
use mathlib.Core.Logic.{◌⊎◌, inl, inr}
use Prim.Native.Nat.{ℕ, zero, suc, ◌+◌, ◌-◌, ◌*◌, ◌/◌, ◌%◌, ◌^◌, ◌<◌, ◌≤◌}
use native.Mathlib.Nat.{add-mul, mod-lt, mod-eq_of_lt, div-eq_of_lt}
use native.Mathlib.Omega.{arith}
use borrow.Author.Tests.{eqb-true, eqb-false}
use lib.Arith.{digits_lt, mod-mul, lt_of_le-ne}
use lib.Bits.{bit_and, and_mask}
use lib.Dec.{T, eqb, eqb→eq}
use lib.Pow.{pow_pos, pow_mono, pow-add, ones_lt, shl-shr, shr-shr, shr_lt, high, low, split, field, mod-mod-pow}
use Rattle.spec.specs.Prefix.{All, any}
use Rattle.spec.specs.Bytes.{part, with_part, widths, width_fits, aligned, bit_of, bytes_at, with_bytes}
use Rattle.spec_laws.proofs.Lists.{and_left, and_right, or_cases}

-- ---- a part

-- zeros stand above it
pub part_lt : (n k e : ℕ) → part n k e < 2 ^ n
unfolding part
part_lt n k e = mod-lt (e / 2 ^ k) (pow_pos n)

-- it is a part of the low bits alone
pub part_low : (w i j x y : ℕ) → x % 2 ^ w ≡ y % 2 ^ w → i + j ≤ w → part i j x ≡ part i j y
unfolding part
part_low w i j x y e l = sym (field x i j) ∙ ap (λ z. z / 2 ^ j) (cut x ∙ ap (λ z. z % 2 ^ (i + j)) e ∙ sym (cut y)) ∙ field y i j
  where
    cut : (z : ℕ) → z % 2 ^ (i + j) ≡ z % 2 ^ w % 2 ^ (i + j)
    cut z =
        let d = w - (i + j) in
        let s : d + (i + j) ≡ w = omega arith in
        sym (mod-mod-pow z d (i + j)) ∙ ap (λ u. z % 2 ^ u % 2 ^ (i + j)) s

-- a part of the bits from k on
pub part_shr : (i j k x : ℕ) → part i j (x / 2 ^ k) ≡ part i (k + j) x
unfolding part
part_shr i j k x = ap (λ z. z % 2 ^ i) (shr-shr x k j)

-- a part of a part
pub part_part : (n k i j e : ℕ) → i + j ≤ n → part i j (part n k e) ≡ part i (k + j) e
unfolding part
part_part n k i j e l = part_low n i j (part n k e) (e / 2 ^ k) (mod-eq_of_lt (part_lt n k e)) l ∙ part_shr i j k e

-- from bit 0 on
part_start : (n e : ℕ) → part n 0 e ≡ e % 2 ^ n
unfolding part
part_start n e = let s : e / 1 ≡ e = omega arith in ap (λ z. z % 2 ^ n) s

-- a whole word is its own part
pub part_whole : (n : ℕ) {e : ℕ} → e < 2 ^ n → part n 0 e ≡ e
part_whole n {e} b = part_start n e ∙ mod-eq_of_lt b

-- as shifts in a word of n + x bits: down to bit 0, up, which drops what is above the part, and down again
pub part_shifts : (n k x e : ℕ) → e / 2 ^ k * 2 ^ x % 2 ^ (n + x) / 2 ^ x ≡ part n k e
unfolding part
part_shifts n k x e = field (e / 2 ^ k * 2 ^ x) n x ∙ ap (λ z. z % 2 ^ n) (shl-shr (e / 2 ^ k) x)

-- ---- a word with another part

module _ (n k v e : ℕ) where
  abbrev x : ℕ
  x = with_part n k v e

  from : x / 2 ^ k ≡ e / 2 ^ (n + k) * 2 ^ n + v % 2 ^ n
  unfolding with_part
  from = high (e / 2 ^ (n + k) * 2 ^ n + v % 2 ^ n) k (mod-lt e (pow_pos k))

  below : x % 2 ^ k ≡ e % 2 ^ k
  unfolding with_part
  below = low (e / 2 ^ (n + k) * 2 ^ n + v % 2 ^ n) k (mod-lt e (pow_pos k))

  above : x / 2 ^ (n + k) ≡ e / 2 ^ (n + k)
  above =
      let s : k + n ≡ n + k = omega arith in
      ap (λ y. x / 2 ^ y) (sym s) ∙ sym (shr-shr x k n) ∙ ap (λ y. y / 2 ^ n) from ∙ high (e / 2 ^ (n + k)) n (mod-lt v (pow_pos n))

  -- what was put is got, and each part of it
  pub part_put : (i j : ℕ) → i + j ≤ n → part i (k + j) x ≡ part i j v
  part_put i j l =
      sym (part_shr i j k x) ∙ part_low n i j (x / 2 ^ k) v (ap (λ z. z % 2 ^ n) from ∙ low (e / 2 ^ (n + k)) n (mod-lt v (pow_pos n))) l

  -- a part below it stays, and one above it
  pub part_below : (i j : ℕ) → i + j ≤ k → part i j x ≡ part i j e
  part_below i j l = part_low k i j x e below l

  pub part_above : (i j : ℕ) → n + k ≤ j → part i j x ≡ part i j e
  part_above i j l =
      let d = j - (n + k) in
      let s : n + k + d ≡ j = omega arith in
      ap (λ z. part i z x) (sym s) ∙ sym (part_shr i d (n + k) x) ∙ ap (part i d) above ∙ part_shr i d (n + k) e ∙ ap (λ z. part i z e) s

  -- a word of w bits stays one
  pub put_lt : (w : ℕ) → n + k ≤ w → e < 2 ^ w → x < 2 ^ w
  unfolding with_part
  put_lt w l b =
      let y = w - (n + k) in
      let s : y + (n + k) ≡ w = omega arith in
      let h : e / 2 ^ (n + k) < 2 ^ y = shr_lt y (n + k) (subst (λ z. e < 2 ^ z) (sym s) b) in
      let g : e / 2 ^ (n + k) * 2 ^ n + v % 2 ^ n < 2 ^ (y + n) = subst (λ z. e / 2 ^ (n + k) * 2 ^ n + v % 2 ^ n < z) (sym (pow-add 2 y n)) (digits_lt h (mod-lt v (pow_pos n))) in
      let f : with_part n k v e < 2 ^ (y + n + k) = subst (λ z. with_part n k v e < z) (sym (pow-add 2 (y + n) k)) (digits_lt g (mod-lt e (pow_pos k))) in
      let t : y + n + k ≡ w = omega arith in
      subst (λ z. with_part n k v e < 2 ^ z) t f

-- its part is added to the rest of the word, which does not depend on the value
put_adds : (n k v e : ℕ) → with_part n k v e ≡ e / 2 ^ (n + k) * 2 ^ n * 2 ^ k + e % 2 ^ k + v % 2 ^ n * 2 ^ k
unfolding with_part
put_adds n k v e = omega (arith, add-mul (e / 2 ^ (n + k) * 2 ^ n) (v % 2 ^ n) (2 ^ k))

-- with the part that is there nothing changes
pub put_same : (n k e : ℕ) → with_part n k (part n k e) e ≡ e
unfolding part with_part
put_same n k e =
    let a : e / 2 ^ k % 2 ^ n % 2 ^ n ≡ e / 2 ^ k % 2 ^ n = mod-eq_of_lt (mod-lt (e / 2 ^ k) (pow_pos n)) in
    let s : k + n ≡ n + k = omega arith in
    let b : e / 2 ^ (n + k) ≡ e / 2 ^ k / 2 ^ n = ap (λ z. e / 2 ^ z) (sym s) ∙ sym (shr-shr e k n) in
    ap₂ (λ y z. (y * 2 ^ n + z) * 2 ^ k + e % 2 ^ k) b a ∙ ap (λ y. y * 2 ^ k + e % 2 ^ k) (split (e / 2 ^ k) n) ∙ split e k

-- as a whole word nothing that was there matters
pub put_whole : (n v : ℕ) {e : ℕ} → e < 2 ^ n → with_part n 0 v e ≡ v % 2 ^ n
unfolding with_part
put_whole n v {e} b =
    let a : n + 0 ≡ n = omega arith in
    let z : e / 2 ^ (n + 0) ≡ 0 = ap (λ x. e / 2 ^ x) a ∙ div-eq_of_lt b in
    ap (λ x. (x * 2 ^ n + v % 2 ^ n) * 1 + e % 1) z ∙ omega arith

-- in its place the part is no more than the word
pub part_le : (n k e : ℕ) → part n k e * 2 ^ k ≤ e
part_le n k e =
    let whole : e / 2 ^ (n + k) * 2 ^ n * 2 ^ k + e % 2 ^ k + part n k e % 2 ^ n * 2 ^ k ≡ e = sym (put_adds n k (part n k e) e) ∙ put_same n k e in
    let cut : part n k e % 2 ^ n * 2 ^ k ≡ part n k e * 2 ^ k = ap (λ z. z * 2 ^ k) (mod-eq_of_lt (part_lt n k e)) in
    omega (arith, whole, cut)

-- the old part is taken away and the new one put in its place
pub put_changes : (n k v e : ℕ) → with_part n k v e + part n k e * 2 ^ k ≡ e + part n 0 v * 2 ^ k
put_changes n k v e =
    let old : e / 2 ^ (n + k) * 2 ^ n * 2 ^ k + e % 2 ^ k + part n k e % 2 ^ n * 2 ^ k ≡ e = sym (put_adds n k (part n k e) e) ∙ put_same n k e in
    let cut : part n k e % 2 ^ n * 2 ^ k ≡ part n k e * 2 ^ k = ap (λ z. z * 2 ^ k) (mod-eq_of_lt (part_lt n k e)) in
    let new : part n 0 v * 2 ^ k ≡ v % 2 ^ n * 2 ^ k = ap (λ z. z * 2 ^ k) (part_start n v) in
    omega (arith, old, cut, new, put_adds n k v e)

-- ---- the widths

-- what holds of the powers of two up to the word's eight bytes holds of each width
pub of_widths : (P : ℕ → Type 0) → ((j : ℕ) → j ≤ 3 → P (2 ^ j)) → (w : ℕ) → T (width_fits w) → P w
of_widths P f w t = pick widths t (f 0 (omega arith), (f 1 (omega arith), (f 2 (omega arith), (f 3 (omega arith), tt))))
  where
    pick : (xs : List ℕ) → T (any (eqb w) xs) → All P xs → P w
    pick [] t ps = absurd t
    pick (y ∷ ys) t (p, ps) = by (or_cases (eqb w y) (any (eqb w) ys) t) (pick ys)
      where
        by : T (eqb w y) ⊎ T (any (eqb w) ys) → (T (any (eqb w) ys) → All P ys → P w) → P w
        by (inl s) rest = subst P (sym (eqb→eq w y s)) p
        by (inr s) rest = rest s ps

pub width_bounds : (w : ℕ) → T (width_fits w) → (0 < w) × (w ≤ 8)
width_bounds = of_widths (λ w. (0 < w) × (w ≤ 8)) (λ j l. (pow_pos j, pow_mono l))

pub width_none : (w : ℕ) → 8 < w → width_fits w ≡ false
width_none w l = go (width_fits w) refl
  where
    go : (b : Bool) → width_fits w ≡ b → b ≡ false
    go false q = refl
    go true q = let z = (width_bounds w (subst T (sym q) tt)).1 in absurd (omega arith)

-- a property that computes to true below n
abbrev up_to : (ℕ → Bool) → ℕ → Bool
up_to f zero = true
up_to f (suc n) = f n && up_to f n

up_to_lem : (f : ℕ → Bool) (n : ℕ) → T (up_to f n) → (w : ℕ) → w < n → T (f w)
up_to_lem f zero t w l = absurd (omega arith)
up_to_lem f (suc n) t w l = go (eqb w n) refl (up_to_lem f n (and_right (f n) (up_to f n) t) w)
  where
    go : (b : Bool) → eqb w n ≡ b → (w < n → T (f w)) → T (f w)
    go true q k = subst (λ x. T (f x)) (sym (eqb-true w n q)) (and_left (f n) (up_to f n) t)
    go false q k = let z = eqb-false w n q in k (lt_of_le-ne (omega arith) z)

abbrev same_bit : Bool → Bool → Bool
same_bit true b = b
same_bit false b = not b

same_bit_lem : (a b : Bool) → T (same_bit a b) → a ≡ b
same_bit_lem true true t = refl
same_bit_lem true false t = absurd t
same_bit_lem false true t = absurd t
same_bit_lem false false t = refl

-- of the numbers from 1 to 8 the widths are those that have no bit in common with the number below them
pub width_power : (w : ℕ) → w < 8 → eqb (bit_and (suc w) w) 0 ≡ width_fits (suc w)
width_power w l =
    same_bit_lem (eqb (bit_and (suc w) w) 0) (width_fits (suc w)) (up_to_lem (λ n. same_bit (eqb (bit_and (suc n) n) 0) (width_fits (suc n))) 8 tt w l)

-- the bits below a width say how far an address is from its multiple
pub width_mask : (a w : ℕ) → T (width_fits w) → bit_and a (w - 1) ≡ a % w
width_mask a = of_widths (λ w. bit_and a (w - 1) ≡ a % w) (λ j l. and_mask a j)

-- an access at a multiple of its width lies in one word
pub width_inside : (a w : ℕ) → T (width_fits w) → T (aligned a w) → a % 8 + w ≤ 8
width_inside a = of_widths (λ w. T (aligned a w) → a % 8 + w ≤ 8) inside
  where
    inside : (j : ℕ) → j ≤ 3 → T (aligned a (2 ^ j)) → a % 8 + 2 ^ j ≤ 8
    inside j l t =
        let q = 2 ^ (3 - j) in
        let w = 2 ^ j in
        let s : 3 - j + j ≡ 3 = omega arith in
        let whole : q * w ≡ 8 = sym (pow-add 2 (3 - j) j) ∙ ap (λ z. 2 ^ z) s in
        let offset : a % 8 ≡ a / w % q * w + a % w = ap (λ z. a % z) (sym whole) ∙ mod-mul a (pow_pos (3 - j)) (pow_pos j) in
        let last : a / w % q * w + (w - 1) < q * w = digits_lt (mod-lt (a / w) (pow_pos (3 - j))) (ones_lt j) in
        omega (arith, whole, offset, last, eqb→eq (a % w) 0 t, pow_pos j)

-- ---- the bytes of an access

-- byte j of what a load finds is byte j from its address on
pub byte_got : (a w j e : ℕ) → j < w → part 8 (8 * j) (bytes_at a w e) ≡ part 8 (8 * (a % 8 + j)) e
unfolding bytes_at
byte_got a w j e l =
    let s : bit_of a + 8 * j ≡ 8 * (a % 8 + j) = omega arith in
    part_part (8 * w) (bit_of a) 8 (8 * j) e (omega arith) ∙ ap (λ z. part 8 z e) s

-- byte j of a stored value is byte j from its address on
pub byte_put : (a w j v e : ℕ) → j < w → part 8 (8 * (a % 8 + j)) (with_bytes a w v e) ≡ part 8 (8 * j) v
unfolding with_bytes
byte_put a w j v e l =
    let s : bit_of a + 8 * j ≡ 8 * (a % 8 + j) = omega arith in
    ap (λ z. part 8 z (with_part (8 * w) (bit_of a) v e)) (sym s) ∙ part_put (8 * w) (bit_of a) v e 8 (8 * j) (omega arith)

-- and every other byte stays
pub byte_kept : (a w i v e : ℕ) → (i < a % 8) ⊎ (a % 8 + w ≤ i) → part 8 (8 * i) (with_bytes a w v e) ≡ part 8 (8 * i) e
unfolding with_bytes
byte_kept a w i v e (inl l) = part_below (8 * w) (bit_of a) v e 8 (8 * i) (omega arith)
byte_kept a w i v e (inr l) = part_above (8 * w) (bit_of a) v e 8 (8 * i) (omega arith)
