-- There and back: what is written as a record is read as the call that it was, whatever follows it.
-- Assumes nothing.
use Rattle.std.proofs.Common.{ℕ, zero, suc, ◌+◌, ◌*◌, ◌/◌, ◌%◌, ◌≤◌, ◌<◌, arith, Some, None, ◌≡◌, refl, ap, ap₂, ◌∙◌, Bool, true, false, not, cond, List, [], ◌∷◌, ◌++◌, map, le-leb, eqb, leb, length, drop, length-append}
use Rattle.spec.specs.Prefix.{All}
use Rattle.job_records.specs.declared.Call.{Call}
use Rattle.job_records.specs.declared.Call.TheVariants as call
use Rattle.job_records.specs.declared.Job.TheVariants as job
use Rattle.job_records.specs.Records.{Wanted, job_of}
use Rattle.job_records.specs.Encoded.{open_bytes, body_bytes, call_bytes}
use Rattle.job_claims.specs.Job.{length_of, asks_of, until_bad, records_from}
use Rattle.load_spec.specs.Load.{bytes_all}
use Rattle.load_claims.specs.Load.{asked_for, Fits}

-- ---- a number

-- what its bytes add up to
abbrev sum : ℕ → ℕ → ℕ
sum zero n = 0
sum (suc w) n = n % 256 + 256 * sum w (n / 256)

-- how many numbers have w bytes
abbrev power : ℕ → ℕ
power zero = 1
power (suc w) = 256 * power w

sum_is : (w n : ℕ) → n < power w → sum w n ≡ n
sum_is zero n h = omega arith
sum_is (suc w) n h = let e : sum w (n / 256) ≡ n / 256 = sum_is w (n / 256) (omega arith) in omega (arith, e)

-- ---- a record

byte_is : (n : ℕ) → n < 256 → n % 256 ≡ n
byte_is n h = omega arith

byte_back : (w : Bool) → not (eqb (cond w 1 0 % 256) 0) ≡ w
byte_back true = refl
byte_back false = refl

-- a record is as long as its first bytes say
whole : (x s : List ℕ) (j k : Wanted) → j ≡ k → cond (leb (length x) (length (x ++ s))) j None ≡ k
whole x s j k e = ap (λ (t : Bool). cond t j None) (le-leb (length x) (length (x ++ s)) (omega (arith, length-append x s))) ∙ e

call_back : (x : Call) → Fits x → (s : List ℕ) → asks_of (call_bytes x ++ s) ≡ Some (job.Call x)
unfolding call_bytes job_of
call_back (call.Root g) h s = whole (call_bytes (call.Root g)) s _ _ (ap (λ (n : ℕ). Some (job.Call (call.Root n))) (sum_is 8 g h))
call_back (call.Map g f w) h s =
    whole (call_bytes (call.Map g f w)) s _ _ (λ i. Some (job.Call (call.Map (sum_is 8 g h.0 i) (sum_is 8 f h.1 i) (byte_back w i))))
call_back (call.Unmap g) h s = whole (call_bytes (call.Unmap g)) s _ _ (ap (λ (n : ℕ). Some (job.Call (call.Unmap n))) (sum_is 8 g h))
call_back (call.SetMark a n) h s =
    whole (call_bytes (call.SetMark a n)) s _ _ (ap₂ (λ (x y : ℕ). Some (job.Call (call.SetMark x y))) (sum_is 8 a h.0) (byte_is n h.1))
call_back (call.ClearMark a n) h s =
    whole (call_bytes (call.ClearMark a n)) s _ _ (ap₂ (λ (x y : ℕ). Some (job.Call (call.ClearMark x y))) (sum_is 8 a h.0) (byte_is n h.1))
call_back (call.Load a) h s = whole (call_bytes (call.Load a)) s _ _ (ap (λ (n : ℕ). Some (job.Call (call.Load n))) (sum_is 8 a h))
call_back (call.Store a v) h s =
    whole (call_bytes (call.Store a v)) s _ _ (ap₂ (λ (x y : ℕ). Some (job.Call (call.Store x y))) (sum_is 8 a h.0) (sum_is 8 v h.1))
call_back (call.Device a v) h s =
    whole (call_bytes (call.Device a v)) s _ _ (ap₂ (λ (x y : ℕ). Some (job.Call (call.Device x y))) (sum_is 8 a h.0) (sum_is 8 v h.1))

open_back : (s : List ℕ) → asks_of (open_bytes 4 4 ++ s) ≡ Some (job.Open 4 4)
unfolding job_of
open_back s = whole (open_bytes 4 4) s (Some (job.Open 4 4)) (Some (job.Open 4 4)) refl

-- and the next record starts right behind it
call_behind : (x : Call) (s : List ℕ) → drop (2 + length_of (call_bytes x ++ s)) (call_bytes x ++ s) ≡ s
unfolding call_bytes
call_behind (call.Root g) s = refl
call_behind (call.Map g f w) s = refl
call_behind (call.Unmap g) s = refl
call_behind (call.SetMark a n) s = refl
call_behind (call.ClearMark a n) s = refl
call_behind (call.Load a) s = refl
call_behind (call.Store a v) s = refl
call_behind (call.Device a v) s = refl

-- ---- records

pub records_open : (k : ℕ) (s : List ℕ) → records_from (suc k) (open_bytes 4 4 ++ s) ≡ Some (job.Open 4 4) ∷ records_from k s
unfolding records_from
records_open k s = ap (λ (j : Wanted). until_bad j (records_from k s)) (open_back s)

records_call : (k : ℕ) (x : Call) (s : List ℕ) → Fits x → records_from (suc k) (call_bytes x ++ s) ≡ Some (job.Call x) ∷ records_from k s
unfolding records_from call_bytes
records_call k x s h = ap₂ (λ (j : Wanted) (t : List ℕ). until_bad j (records_from k t)) (call_back x h s) (call_behind x s)

pub records_calls : (k : ℕ) (xs : List Call) → All Fits xs → length xs ≤ k → records_from k (bytes_all xs) ≡ map asked_for xs
unfolding records_from bytes_all
records_calls zero [] h l = refl
records_calls (suc k) [] h l = refl
records_calls zero (x ∷ xs) h l = absurd (omega arith)
records_calls (suc k) (x ∷ xs) h l =
    records_call k x (bytes_all xs) h.0 ∙ ap (λ (js : List Wanted). Some (job.Call x) ∷ js) (records_calls k xs h.1 (omega arith))

-- a record is not empty
pub calls_long : (xs : List Call) → length xs ≤ length (bytes_all xs)
unfolding bytes_all call_bytes
calls_long [] = omega arith
calls_long (x ∷ xs) =
    let l : length (call_bytes x) ≡ suc (suc (suc (suc (length (body_bytes x))))) = refl in
    omega (arith, l, length-append (call_bytes x) (bytes_all xs), calls_long xs)
