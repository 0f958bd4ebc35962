-- A number digit by digit: in decimal as std writes it, in hexadecimal from the last digit on.
use Rattle.std.proofs.Common.{ℕ, zero, suc, ◌+◌, ◌-◌, ◌/◌, ◌%◌, ◌^◌, ◌<◌, ◌≤◌, ◌≡◌, refl, sym, List, [], ◌∷◌, ◌++◌, arith, lt-ltb, le-ltb}
use Rattle.std.proofs.Common.{decimal as written}
use Rattle.std.proofs.lemmas.Fmt.{AppendsLastDigit, decimal_from_appends, length-decimal-le}
use Rattle.job_lines.specs.Text.{digit, decimal, hexadecimal}

digit_small : (d : ℕ) → d < 10 → digit d ≡ 48 + d
digit_small d h = rw (lt-ltb d 10 h)

-- at most so many digits
digits : ℕ → ℕ → List ℕ
digits zero n = []
digits (suc k) n = decimal k n

appends : AppendsLastDigit digits
unfolding digits decimal
appends = record { one = one; more = more }
  where
    one : (k n : ℕ) → n < 10 → decimal k n ≡ (48 + n) ∷ []
    one zero n h = let e : n % 10 ≡ n = omega arith in rw (e, digit_small n h)
    one (suc k) n h = let e : n % 10 ≡ n = omega arith in rw (lt-ltb n 10 h, e, digit_small n h)

    more : (k n : ℕ) → 10 ≤ n → decimal k n ≡ digits k (n / 10) ++ ((48 + n % 10) ∷ [])
    more zero n h = rw (digit_small (n % 10) (omega arith))
    more (suc k) n h = rw (le-ltb n 10 h, digit_small (n % 10) (omega arith))

pub decimal_text : (n : ℕ) → n < 2 ^ 64 → written n ≡ decimal 19 n
unfolding digits
decimal_text n h = sym (decimal_from_appends digits appends 20 n h (length-decimal-le 20 n (omega arith) (omega arith) h))

pub decimal_zero : (k n : ℕ) → k ≡ 0 → decimal k n ≡ digit (n % 10) ∷ []
unfolding decimal
decimal_zero k n e = rw e

pub decimal_one : (k n : ℕ) → n < 10 → decimal k n ≡ digit (n % 10) ∷ []
unfolding decimal
decimal_one zero n h = refl
decimal_one (suc k) n h = rw (lt-ltb n 10 h)

pub decimal_more : (k n : ℕ) → (k ≡ 0 → ⊥) → 10 ≤ n → decimal k n ≡ decimal (k - 1) (n / 10) ++ (digit (n % 10) ∷ [])
unfolding decimal
decimal_more zero n z h = absurd (z refl)
decimal_more (suc k) n z h =
    let e : suc k - 1 ≡ k = omega arith in
    rw (le-ltb n 10 h, e)

pub hex_zero : (k n : ℕ) → k ≡ 0 → hexadecimal k n ≡ []
unfolding hexadecimal
hex_zero k n e = rw e

pub hex_more : (k n : ℕ) → 0 < k → hexadecimal k n ≡ hexadecimal (k - 1) (n / 16) ++ (digit (n % 16) ∷ [])
unfolding hexadecimal
hex_more zero n z = absurd (omega arith)
hex_more (suc k) n z =
    let e : suc k - 1 ≡ k = omega arith in
    rw e
