-- Both halves of the addresses, judged by one comparison: a word's bits from k up are all alike where the word, moved up by 2 ^ k and
-- cut to 64 bits, is below 2 ^ (k + 1). Assumes nothing.
use Rattle.std.proofs.Common.{◌≡◌, ℕ, suc, ◌+◌, ◌-◌, ◌*◌, ◌/◌, ◌%◌, ◌^◌, ◌<◌, ◌≤◌, Bool, true, false, ◌||◌, eqb, ltb, sym, refl, ap, ◌∙◌, mul-le-mul_right, mod-lt, mod-eq_of_lt, suc-mul, one-mul, zero-mul, arith, pow_pos, pow-add, shr_lt, le-ltb, lt-ltb, eqb-true}
use borrow.Author.Tests.{eqb-false}
use lib.Pow.{pow-lt, split, high_ones}
use Rattle.spec.specs.Refusal.{alike_from, address_fits}
use Rattle.entry.specs.Levels.{of_levels}
use Rattle.entry.proofs.Entries.{shift_out}

module _ (k a : ℕ) (small : k < 63) (word : a < 2 ^ 64) where
  -- the bits from k up, and how many numbers they can be
  abbrev top : ℕ
  top = a / 2 ^ k

  abbrev tops : ℕ
  tops = 2 ^ (64 - k)

  abbrev moved : ℕ
  moved = (a + 2 ^ k) % 2 ^ 64

  all : 64 - k + k ≡ 64
  all = omega arith

  -- the last of the tops begins 2 ^ k below the end of the words
  last : (tops - 1) * 2 ^ k ≡ 2 ^ 64 - 2 ^ k
  last = sym (high_ones (64 - k) k) ∙ ap (λ (n : ℕ). 2 ^ n - 2 ^ k) all

  double : 2 ^ (1 + k) ≡ 2 ^ k + 2 ^ k
  double = let sum : 2 ^ 1 * 2 ^ k ≡ 2 ^ k + 2 ^ k = omega arith in pow-add 2 1 k ∙ sum

  room : 2 ^ (1 + k) < 2 ^ 64
  room = pow-lt {j = 64} (omega arith)

  -- all clear: moved up by 2 ^ k, the word stays below twice that
  lower : top ≡ 0 → moved < 2 ^ (1 + k)
  lower e =
      let none : top * 2 ^ k ≡ 0 = ap (λ (x : ℕ). x * 2 ^ k) e ∙ zero-mul (2 ^ k) in
      let kept : moved ≡ a + 2 ^ k = mod-eq_of_lt (omega (arith, split a k, mod-lt a (pow_pos k), double, room)) in
      omega (arith, kept, split a k, mod-lt a (pow_pos k), double)

  -- all set: it passes the end of the words, and begins again at 0
  upper : top ≡ tops - 1 → moved < 2 ^ (1 + k)
  upper e =
      let begins : top * 2 ^ k ≡ 2 ^ 64 - 2 ^ k = ap (λ (x : ℕ). x * 2 ^ k) e ∙ last in
      let wraps : a + 2 ^ k ≡ 2 ^ 64 + a % 2 ^ k = omega (arith, split a k, double, room) in
      let cut : moved ≡ a % 2 ^ k = ap (λ (x : ℕ). x % 2 ^ 64) wraps ∙ omega (arith, mod-lt a (pow_pos k), double, room) in
      omega (arith, cut, mod-lt a (pow_pos k), double)

  -- neither: it is 2 ^ k at least, and does not pass the end
  between : (top ≡ 0 → ⊥) → (top ≡ tops - 1 → ⊥) → 2 ^ (1 + k) ≤ moved
  between n m =
      let below : top < tops = shr_lt (64 - k) k (rw all word) in
      let least : 1 * 2 ^ k ≤ top * 2 ^ k = mul-le-mul_right (2 ^ k) (omega arith) in
      let most : suc top * 2 ^ k ≤ (tops - 1) * 2 ^ k = mul-le-mul_right (2 ^ k) (omega arith) in
      let one = one-mul (2 ^ k) in
      let next = suc-mul top (2 ^ k) in
      let kept : moved ≡ a + 2 ^ k = mod-eq_of_lt (omega (arith, split a k, mod-lt a (pow_pos k), most, last, next)) in
      omega (arith, kept, split a k, double, least, one)

  alike_moved : eqb (moved / 2 ^ (1 + k)) 0 ≡ alike_from k a
  unfolding alike_from
  alike_moved = shift_out moved (1 + k) ∙ go (eqb top 0) refl (eqb top (tops - 1)) refl
    where
      go : (s : Bool) → eqb top 0 ≡ s → (t : Bool) → eqb top (tops - 1) ≡ t → ltb moved (2 ^ (1 + k)) ≡ (s || t)
      go true e t f = lt-ltb moved (2 ^ (1 + k)) (lower (eqb-true top 0 e))
      go false e true f = lt-ltb moved (2 ^ (1 + k)) (upper (eqb-true top (tops - 1) f))
      go false e false f = le-ltb moved (2 ^ (1 + k)) (between (eqb-false top 0 e) (eqb-false top (tops - 1) f))

-- with n levels the sign bit is 11 + 9 * n
pub fits_moved : (n a : ℕ) → n < 6 → a < 2 ^ 64 → eqb ((a + 2 ^ (11 + 9 * n)) % 2 ^ 64 / 2 ^ (12 + 9 * n)) 0 ≡ address_fits (of_levels n) a
fits_moved n a few word =
    let next : 12 + 9 * n ≡ 1 + (11 + 9 * n) = omega arith in
    rw next (alike_moved (11 + 9 * n) a (omega arith) word)
