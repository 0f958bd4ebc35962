-- The set places of a number as a list: a loop over them, the list after a bit is set or cleared, their count.
-- Assumes nothing.
use mathlib.Core.Path.{◌≡◌, refl, ap, ◌∙◌}
use mathlib.Core.List.{List, [], ◌∷◌, ◌++◌, append_assoc, append-nil}
use Prim.Native.Nat.{ℕ, zero, suc, ◌-◌, ◌%◌, ◌^◌, ◌<◌, ◌≤◌}
use native.Mathlib.Nat.{mod-lt}
use native.Mathlib.Omega.{arith}
use native.Mathlib.Decide.{ℕ_discrete}
use lib.Pow.{pow_pos}
use lib.Bits.{bit_and}
use lib.Count.{ones, ones-ones, ones-le, count_trailing_zeros}
use lib.ListN.{length}
use Rattle.bits.specs.Bit.{bit, set_at, places, below}
use Rattle.bits.proofs.Laws.{Changed, bit_zero, bit_ones, bit_high, bit_low, lowest_bit, clear_bit, below_lowest}

-- it depends on the bits below k alone
pub places_same : (k x y : ℕ) → ((i : ℕ) → i < k → bit x i ≡ bit y i) → places k x ≡ places k y
unfolding places
places_same zero x y h = refl
places_same (suc k) x y h = rw (places_same k x y (λ i l. h i (omega arith)), h k (omega arith))

pub places_none : (k x : ℕ) → ((i : ℕ) → i < k → bit x i ≡ 0) → places k x ≡ []
unfolding places
places_none zero x h = refl
places_none (suc k) x h = rw (places_none k x (λ i l. h i (omega arith)), h k (omega arith))

-- the end of a loop
pub places_end : (k x : ℕ) → x ≡ 0 → places k x ≡ []
places_end k x e = places_none k x (λ i l. ap (λ (n : ℕ). bit n i) e ∙ bit_zero i)

-- x has the place t set, y is x without it: the same list but for t
pub record Split (k x t y : ℕ) : Type 0 where
  pub above : List ℕ
  pub with_it : places k x ≡ places t x ++ t ∷ above
  pub without : places k y ≡ places t x ++ above

pub places_split : (k x t y : ℕ) → t < k → bit x t ≡ 1 → Changed x t y 0 → Split k x t y
unfolding places
places_split zero x t y l s d = absurd (omega arith)
places_split (suc k) x t y l s d =
    elim (ℕ_discrete k t) [
      | yes e ↦ record {
        above = [];
        with_it = rw (e, s);
        without = rw (e, d.same, append-nil (places t y), append-nil (places t x))
            (places_same t y x (λ i g. d.other i (λ e. omega arith)));
      }
      | no ne ↦
          let r = places_split k x t y (omega arith) s d in record {
            above = r.above ++ set_at x k;
            with_it = rw (r.with_it, append_assoc (places t x) (t ∷ r.above) (set_at x k));
            without = rw (r.without, d.other k ne, append_assoc (places t x) r.above (set_at x k));
          }
    ]

-- a turn of a loop by `trailing_zeros(x)` and `x & (x - 1)`
pub places_turn : (k x : ℕ) → 0 < x → x < 2 ^ k → places k x ≡ count_trailing_zeros k x ∷ places k (bit_and x (x - 1))
places_turn k x p b =
    let t = count_trailing_zeros k x in
    let (l, s, e) = lowest_bit k x p b in
    let (h, d, o) = clear_bit x t s in
    let r = places_split k x t (x - 2 ^ t) l s d in
    let none : places t x ≡ [] = places_none t x (λ i g. below_lowest k x i g) in
    rw (e, r.with_it, r.without, none)

-- as many as there are ones
none_set : (k x : ℕ) → x < 2 ^ k → ones x ≡ 0 → x ≡ 0
none_set k zero b e = refl
none_set k (suc x) b e =
    let s = (lowest_bit k (suc x) (omega arith) b).1 in
    absurd (omega (arith, (clear_bit (suc x) (count_trailing_zeros k (suc x)) s).2))

counted : (k n x : ℕ) → x < 2 ^ k → ones x ≡ n → length (places k x) ≡ n
counted k zero x b e = ap length (places_end k x (none_set k x b e))
counted k (suc n) x b e =
    let some : x ≡ 0 → ⊥ = λ z. let o : 0 ≡ ones x = rw (z, ones-ones 0) in omega arith in
    let (l, s, c) = lowest_bit k x (omega arith) b in
    let (h, d, o) = clear_bit x (count_trailing_zeros k x) s in
    let less : bit_and x (x - 1) < 2 ^ k = omega arith in
    let fewer : ones (bit_and x (x - 1)) ≡ n = rw c (omega arith) in
    ap length (places_turn k x (omega arith) b) ∙ ap suc (counted k n (bit_and x (x - 1)) less fewer)

pub places_count : (k x : ℕ) → x < 2 ^ k → length (places k x) ≡ ones x
places_count k x b = counted k (ones x) x b refl

-- the bits from k on are no places
pub places_low : (k x : ℕ) → places k (x % 2 ^ k) ≡ places k x
places_low k x = places_same k (x % 2 ^ k) x (λ i l. bit_low k x i l)

pub places_few : (k x : ℕ) → length (places k x) ≤ k
places_few k x =
    let less = mod-lt x (pow_pos k) in
    omega (arith, ap length (places_low k x), places_count k (x % 2 ^ k) less, ones-le k (x % 2 ^ k) less)

-- the places of 2 ^ n - 1 are those below n
places_ones : (k n : ℕ) → n ≤ k → places k (2 ^ n - 1) ≡ places n (2 ^ n - 1)
unfolding places
places_ones zero n l = let z : n ≡ 0 = omega arith in rw z
places_ones (suc k) n l =
    elim (ℕ_discrete n (suc k)) [
      | yes e ↦ rw e
      | no ne ↦ rw (places_ones k n (omega arith), bit_high n (2 ^ n - 1) k (omega (arith, pow_pos n)) (omega arith), append-nil)
    ]

places_all : (n x : ℕ) → ((i : ℕ) → i < n → bit x i ≡ 1) → places n x ≡ below n
unfolding places below
places_all zero x h = refl
places_all (suc n) x h = rw (places_all n x (λ i l. h i (omega arith)), h n (omega arith))

pub places_below : (k n : ℕ) → n ≤ k → places k (2 ^ n - 1) ≡ below n
places_below k n l = places_ones k n l ∙ places_all n (2 ^ n - 1) (λ i g. bit_ones n i g)
