-- The bytes of a number, and of a call's body, as the definition of a record has them.
use Rattle.std.proofs.Common.{ℕ, Bool, true, false, cond, ◌/◌, ◌%◌, ◌≡◌, refl, sym, ap, ◌∙◌, [], ◌∷◌, length, shr-shr}
use Rattle.std.specs.Int.{w16, w64, to_le_bytes}
use Rattle.job_records.specs.declared.Call.{Call}
use Rattle.job_records.specs.declared.Call.TheVariants as call
use Rattle.job_records.specs.Records.{kind_in, size_in}
use Rattle.job_records.specs.Encoded.{bytes_of, body_bytes}

pub two_bytes : (n : ℕ) → to_le_bytes w16 n ≡ bytes_of 2 n
two_bytes n = refl

pub eight_bytes : (n : ℕ) → to_le_bytes w64 n ≡ bytes_of 8 n
eight_bytes n =
    let e2 : n / 65536 ≡ n / 256 / 256 = sym (shr-shr n 8 8) in
    let e3 : n / 16777216 ≡ n / 256 / 256 / 256 = sym (shr-shr n 16 8) ∙ ap (λ (m : ℕ). m / 256) e2 in
    let e4 : n / 4294967296 ≡ n / 256 / 256 / 256 / 256 = sym (shr-shr n 24 8) ∙ ap (λ (m : ℕ). m / 256) e3 in
    let e5 : n / 1099511627776 ≡ n / 256 / 256 / 256 / 256 / 256 = sym (shr-shr n 32 8) ∙ ap (λ (m : ℕ). m / 256) e4 in
    let e6 : n / 281474976710656 ≡ n / 256 / 256 / 256 / 256 / 256 / 256 = sym (shr-shr n 40 8) ∙ ap (λ (m : ℕ). m / 256) e5 in
    let e7 : n / 72057594037927936 ≡ n / 256 / 256 / 256 / 256 / 256 / 256 / 256 = sym (shr-shr n 48 8) ∙ ap (λ (m : ℕ). m / 256) e6 in
    λ i. (n % 256) ∷ (n / 256 % 256) ∷ (e2 i % 256) ∷ (e3 i % 256) ∷ (e4 i % 256) ∷ (e5 i % 256) ∷ (e6 i % 256) ∷ (e7 i % 256) ∷ []

pub bool_byte : (w : Bool) → cond w 1 0 % 256 ≡ cond w 1 0
bool_byte true = refl
bool_byte false = refl

pub body_size : (x : Call) → length (body_bytes x) ≡ size_in (kind_in x)
body_size (call.Root g) = refl
body_size (call.Map g f w) = refl
body_size (call.Unmap g) = refl
body_size (call.SetMark a n) = refl
body_size (call.ClearMark a n) = refl
body_size (call.Load a) = refl
body_size (call.Store a v) = refl
body_size (call.Device a v) = refl
