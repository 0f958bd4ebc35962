-- Laws of entries: what makes one malformed, that only the levels of a configuration are read, ranges.
-- Assumes nothing.
use Rattle.std.proofs.Common.{◌≡◌, ℕ, suc, ◌+◌, ◌-◌, ◌*◌, ◌/◌, ◌%◌, ◌^◌, ◌<◌, ◌≤◌, Bool, true, false, not, ◌&&◌, ◌||◌, eqb, ltb, sym, refl, ap, ◌∙◌, ap₂, mul-le-mul_right, mod-lt, suc-mul, zero-add, zero-mul, arith, pow_pos, pow-add, shr-shr, shr_lt, ltb-false, le-ltb, lt-ltb, ne_eqb, eqb-true}
use borrow.Author.Tests.{eqb-false}
use lib.Pow.{mod-pow-add, field, split}
use Rattle.spec.specs.Config.{Config, frame_bits}
use Rattle.spec.specs.Entry.{bit_set, frame_of, large, frames_below, malformed, index, word_of}
use Rattle.entry.specs.Levels.{of_levels}

pub malformed_levels : (c : Config) (level e : ℕ) → malformed c level e ≡ malformed (of_levels c.levels) level e
unfolding malformed
malformed_levels c level e = refl

-- the frame bits from b on, cut off at the top and then shifted down
high_bits : (b e : ℕ) → b ≤ 40 → e % 2 ^ 52 / 2 ^ (12 + b) ≡ e / 2 ^ (12 + b) % 2 ^ (40 - b)
high_bits b e l = let all : 40 - b + (12 + b) ≡ 52 = omega arith in rw all at (field e (40 - b) (12 + b))

-- an entry is malformed by its frame number, or else by bit 7
module _ (c : Config) (level e : ℕ) where
  -- what bit 7 makes of it
  abbrev misplaced : Bool
  misplaced = (ltb 3 level && bit_set 7 e) || (large level e && not (eqb (frame_of e % frames_below level) 0))

  malformed_clear : e % 2 ^ 52 / 2 ^ (12 + frame_bits c) ≡ 0 → malformed c level e ≡ misplaced
  unfolding malformed
  malformed_clear z =
      let none = sym (high_bits (frame_bits c) e (omega arith)) ∙ z in
      ap (λ (x : ℕ). not (eqb x 0) || misplaced) none

  pub malformed_high : (e % 2 ^ 52 / 2 ^ (12 + frame_bits c) ≡ 0 → ⊥) → malformed c level e ≡ true
  unfolding malformed
  malformed_high n =
      let some = ne_eqb (e / 2 ^ (12 + frame_bits c) % 2 ^ (40 - frame_bits c)) 0 (λ z. n (high_bits (frame_bits c) e (omega arith) ∙ z)) in
      ap (λ (x : Bool). not x || misplaced) some

  -- at level 1 it means nothing
  pub malformed_low : e % 2 ^ 52 / 2 ^ (12 + frame_bits c) ≡ 0 → level ≤ 1 → malformed c level e ≡ false
  unfolding large
  malformed_low z l =
      malformed_clear z
      ∙ ap₂ (λ x y. (x && bit_set 7 e) || ((y && (ltb level 4 && bit_set 7 e)) && not (eqb (frame_of e % frames_below level) 0))) (le-ltb 3 level (omega arith)) (le-ltb 1 level l)

  pub malformed_off : e % 2 ^ 52 / 2 ^ (12 + frame_bits c) ≡ 0 → bit_set 7 e ≡ false → malformed c level e ≡ false
  unfolding large
  malformed_off z b =
      malformed_clear z
      ∙ ap (λ x. (ltb 3 level && x) || ((ltb 1 level && (ltb level 4 && x)) && not (eqb (frame_of e % frames_below level) 0))) b ∙ go (ltb 3 level) (ltb 1 level) (ltb level 4)
    where
      go : (x y z : Bool) → ((x && false) || ((y && (z && false)) && not (eqb (frame_of e % frames_below level) 0))) ≡ false
      go true true true = refl
      go true true false = refl
      go true false z = refl
      go false true true = refl
      go false true false = refl
      go false false z = refl

  pub malformed_on : e % 2 ^ 52 / 2 ^ (12 + frame_bits c) ≡ 0 → 1 < level → bit_set 7 e ≡ true
      → malformed c level e ≡ (ltb 3 level || not (eqb (frame_of e % frames_below level) 0))
  unfolding large
  malformed_on z l b =
      malformed_clear z
      ∙ ap₂ (λ x y. (ltb 3 level && x) || ((y && (ltb level 4 && x)) && not (eqb (frame_of e % frames_below level) 0))) b (lt-ltb 1 level l) ∙ go (ltb 3 level) refl
    where
      go : (x : Bool) → ltb 3 level ≡ x → ((x && true) || ((ltb level 4 && true) && not (eqb (frame_of e % frames_below level) 0))) ≡ (x || not (eqb (frame_of e % frames_below level) 0))
      go true k = refl
      go false k = ap (λ y. (y && true) && not (eqb (frame_of e % frames_below level) 0)) (lt-ltb level 4 (omega (arith, ltb-false 3 level k)))

-- the room for a bit that is not set: what lies below it does not reach it, and above it the words end at an even number
pub bit_room : (k e : ℕ) → k < 64 → e < 2 ^ 64 → e / 2 ^ k % 2 ≡ 0 → e + 2 ^ k < 2 ^ 64
bit_room k e few word none =
    let above = e / 2 ^ (k + 1) in
    let whole : 63 - k + (k + 1) ≡ 64 = omega arith in
    let double : 2 ^ (k + 1) ≡ 2 ^ k + 2 ^ k = let two : 2 ^ k * 2 ^ 1 ≡ 2 ^ k + 2 ^ k = omega arith in pow-add 2 k 1 ∙ two in
    let half : e / 2 ^ k / 2 ≡ above = shr-shr e k 1 in
    let low : e % 2 ^ (k + 1) ≡ e / 2 ^ k % 2 * 2 ^ k + e % 2 ^ k = rw (comm k) (mod-pow-add e 1 k) in
    let clear : e / 2 ^ k % 2 * 2 ^ k ≡ 0 = ap (λ (x : ℕ). x * 2 ^ k) none ∙ zero-mul (2 ^ k) in
    let fits : above < 2 ^ (63 - k) = shr_lt (63 - k) (k + 1) (rw whole word) in
    let end : suc above * 2 ^ (k + 1) ≤ 2 ^ (63 - k) * 2 ^ (k + 1) = mul-le-mul_right (2 ^ (k + 1)) (omega (arith, fits)) in
    let all : 2 ^ (63 - k) * 2 ^ (k + 1) ≡ 2 ^ 64 = sym (pow-add 2 (63 - k) (k + 1)) ∙ ap (λ (n : ℕ). 2 ^ n) whole in
    omega (arith, split e (k + 1), low, clear, mod-lt e (pow_pos k), end, all, suc-mul above (2 ^ (k + 1)), double)
  where
    comm : (k : ℕ) → k + 1 ≡ 1 + k
    comm k = omega arith

-- ---- ranges
pub frame_fits_lem : (e : ℕ) → frame_of e < 2 ^ 40
unfolding frame_of
frame_fits_lem e = omega arith

pub index_fits : (k p : ℕ) → index k p < 512
unfolding index
index_fits k p = omega arith

pub word_fits : (a : ℕ) → word_of a < 512
unfolding word_of
word_fits a = omega arith

-- ---- a number fits k bits where a shift by k leaves nothing
pub shift_out : (a k : ℕ) → eqb (a / 2 ^ k) 0 ≡ ltb a (2 ^ k)
shift_out a k = go (eqb (a / 2 ^ k) 0) refl
  where
    go : (t : Bool) → eqb (a / 2 ^ k) 0 ≡ t → t ≡ ltb a (2 ^ k)
    go true e =
        let none : a / 2 ^ k * 2 ^ k ≡ 0 = ap (λ (x : ℕ). x * 2 ^ k) (eqb-true _ _ e) ∙ zero-mul (2 ^ k) in
        sym (lt-ltb a (2 ^ k) (omega (arith, split a k, mod-lt a (pow_pos k))))
    go false e =
        let big : a < 2 ^ k → ⊥ = λ l. eqb-false (a / 2 ^ k) 0 e (omega (arith, shr_lt {n = a} 0 k (rw (zero-add k) l))) in
        sym (le-ltb a (2 ^ k) (omega arith))
