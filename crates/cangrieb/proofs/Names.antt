-- A mark that is handed out is named by its address and its level: the address is legal, and at that level it has the mark's key.
use mathlib.Core.Path.{◌≡◌, refl, sym, ap, subst, ◌∙◌}
use mathlib.Core.Bool.{Bool, true, false, ◌&&◌, or-true}
use Prim.Native.Nat.{ℕ, suc, ◌+◌, ◌-◌, ◌*◌, ◌/◌, ◌%◌, ◌^◌, ◌<◌, ◌≤◌}
use native.Mathlib.Nat.{mod-lt, mod-eq_of_lt, div-eq_of_lt}
use native.Mathlib.Omega.{arith}
use borrow.Author.Tests.{lt-ltb, eq-eqb, ltb-true, ltb-false}
use lib.Dec.{eqb, leb, ltb}
use lib.Pow.{pow_pos, pow-lt, pow-add, shl_lt, shl-shr, shr-shr, high, low, field, high_ones}
use Rattle.spec.specs.Entry.{page_of}
use Rattle.spec.specs.Refusal.{alike_from, address_fits}
use Rattle.entry.specs.Levels.{of_levels}
use Rattle.marks.specs.Key.{low_page, key_of, key_at, key_fits}
use Rattle.marks.proofs.Ascending.{and_right}
use Rattle.cangrieb.specs.Flat.{legal_of, lowest_of}

-- the indexes that a mark of level l keeps, above those below it
pub prefix_small : (n l x : ℕ) → l < n → x < 2 ^ (9 * (n - l)) → x * 2 ^ (12 + 9 * l) < 2 ^ (12 + 9 * n)
prefix_small n l x below few =
    let all : 9 * (n - l) + (12 + 9 * l) ≡ 12 + 9 * n = omega arith in
    subst (λ (i : ℕ). x * 2 ^ (12 + 9 * l) < 2 ^ i) all (shl_lt (9 * (n - l)) (12 + 9 * l) few)

pub lowest_small : (n k : ℕ) → k % 8 < n → k / 8 % 2 ^ (9 * (n - k % 8)) * 2 ^ (12 + 9 * (k % 8)) < 2 ^ (12 + 9 * n)
lowest_small n k below = prefix_small n (k % 8) _ below (mod-lt (k / 8) (pow_pos (9 * (n - k % 8))))

module _ (n p : ℕ) (few : n < 6) (small : p < 2 ^ (12 + 9 * n)) where
  abbrev sign : ℕ
  sign = 11 + 9 * n

  double : 2 ^ (12 + 9 * n) ≡ 2 ^ sign + 2 ^ sign
  double =
      let next : 12 + 9 * n ≡ 1 + sign = omega arith in
      let sum : 2 ^ 1 * 2 ^ sign ≡ 2 ^ sign + 2 ^ sign = omega arith in
      ap (λ (i : ℕ). 2 ^ i) next ∙ pow-add 2 1 sign ∙ sum

  room : 2 ^ (12 + 9 * n) < 2 ^ 64
  room = pow-lt {j = 64} (omega arith)

  -- the bits from k up, all set
  ones : (k : ℕ) → k < 64 → (2 ^ (64 - k) - 1) * 2 ^ k ≡ 2 ^ 64 - 2 ^ k
  ones k word =
      let all : 64 - k + k ≡ 64 = omega arith in
      sym (high_ones (64 - k) k) ∙ ap (λ (i : ℕ). 2 ^ i - 2 ^ k) all

  -- the low bits are those given
  legal_low : legal_of n p % 2 ^ (12 + 9 * n) ≡ p
  unfolding legal_of
  legal_low = go (ltb p (2 ^ sign)) refl
    where
      go : (b : Bool) → ltb p (2 ^ sign) ≡ b → legal_of n p % 2 ^ (12 + 9 * n) ≡ p
      go true e = rw e (mod-eq_of_lt small)
      go false e = rw (e, sym (ones (12 + 9 * n) (omega arith))) (low (2 ^ (64 - (12 + 9 * n)) - 1) (12 + 9 * n) small)

  pub legal_page : low_page n (legal_of n p) ≡ p / 4096
  unfolding low_page page_of
  legal_page =
      let all : 9 * n + 12 ≡ 12 + 9 * n = omega arith in
      sym (field (legal_of n p) (9 * n) 12) ∙ ap (λ (i : ℕ). legal_of n p % 2 ^ i / 4096) all ∙ ap (λ (x : ℕ). x / 4096) legal_low

  pub legal_fits : address_fits (of_levels n) (legal_of n p) ≡ true
  unfolding legal_of alike_from
  legal_fits = go (ltb p (2 ^ sign)) refl
    where
      go : (b : Bool) → ltb p (2 ^ sign) ≡ b → address_fits (of_levels n) (legal_of n p) ≡ true
      go true e = rw (e, div-eq_of_lt (ltb-true p (2 ^ sign) e))
      go false e =
          let least : 2 ^ sign ≤ p = ltb-false p (2 ^ sign) e in
          let rest : p - 2 ^ sign < 2 ^ sign = omega (arith, double, small, least) in
          let upper : 2 ^ 64 - 2 ^ (12 + 9 * n) + p ≡ (2 ^ (64 - sign) - 1) * 2 ^ sign + (p - 2 ^ sign) =
          rw (ones sign (omega arith)) (omega (arith, double, small, least, room)) in
          let top : (2 ^ 64 - 2 ^ (12 + 9 * n) + p) / 2 ^ sign ≡ 2 ^ (64 - sign) - 1 = ap (λ (x : ℕ). x / 2 ^ sign) upper ∙ high (2 ^ (64 - sign) - 1) sign rest in
          rw (e, top, eq-eqb (2 ^ (64 - sign) - 1) (2 ^ (64 - sign) - 1) refl) (or-true (eqb (2 ^ (64 - sign) - 1) 0))

-- a key has no more indexes than its level keeps
kept : (n k : ℕ) → key_fits n k ≡ true → k / 8 < 2 ^ (9 * (n - k % 8))
unfolding key_fits
kept n k fits =
    let end : ℕ = 2 ^ (9 * (n - k % 8)) in
    ltb-true (k / 8) end (and_right (leb 1 (k % 8) && leb (k % 8) (suc n)) (ltb (k / 8) end) fits)

-- the key of a mark, from its address and its level
pub key_again : (n k : ℕ) → n < 6 → key_fits n k ≡ true → key_at n (k % 8) (lowest_of n k) ≡ k
unfolding lowest_of key_of low_page page_of
key_again n k few fits = go (ltb (k % 8) n) refl
  where
    go : (b : Bool) → ltb (k % 8) n ≡ b → key_at n (k % 8) (lowest_of n k) ≡ k
    go true e =
        let all : k / 8 % 2 ^ (9 * (n - k % 8)) ≡ k / 8 = mod-eq_of_lt (kept n k fits) in
        let inside = prefix_small n (k % 8) (k / 8) (ltb-true (k % 8) n e) (kept n k fits) in
        let above : k / 8 * 2 ^ (12 + 9 * (k % 8)) / 4096 / 2 ^ (9 * (k % 8)) ≡ k / 8 =
        shr-shr (k / 8 * 2 ^ (12 + 9 * (k % 8))) 12 (9 * (k % 8)) ∙ shl-shr (k / 8) (12 + 9 * (k % 8)) in
        rw (lt-ltb n 6 few, e, all, legal_page n (k / 8 * 2 ^ (12 + 9 * (k % 8))) few inside, above) (omega arith)
    go false e =
        let none : 9 * (n - k % 8) ≡ 0 = omega (arith, ltb-false (k % 8) n e) in
        let first : k / 8 < 1 = rw none at (kept n k fits) in
        rw (lt-ltb n 6 few, e, mod-eq_of_lt (pow_pos (9 * n)), div-eq_of_lt (pow_pos (9 * (k % 8)))) (omega (arith, first))

-- which is legal
pub lowest_fits : (n k : ℕ) → n < 6 → address_fits (of_levels n) (lowest_of n k) ≡ true
unfolding lowest_of alike_from
lowest_fits n k few = go (ltb (k % 8) n) refl
  where
    go : (b : Bool) → ltb (k % 8) n ≡ b → address_fits (of_levels n) (lowest_of n k) ≡ true
    go true e = rw (lt-ltb n 6 few, e) (legal_fits n _ few (lowest_small n k (ltb-true (k % 8) n e)))
    go false e = rw (lt-ltb n 6 few, e, div-eq_of_lt (pow_pos (11 + 9 * n)))
