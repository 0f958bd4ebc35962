-- A load is read back as the calls that were drawn, and the job program says to them what machine and book say.
-- Assumes nothing.
use Rattle.std.proofs.Common.{Some, None, ℕ, zero, suc, ◌+◌, ◌≤◌, ◌<◌, arith, ◌≡◌, refl, sym, ap, subst, ◌∙◌, Bool, true, false, cond, List, [], ◌∷◌, ◌++◌, map, ltb-true, ltb-false, eqb, ltb, length, length-append}
use Rattle.std.proofs.Math.Option.{none}
use Rattle.spec.specs.Prefix.{All}
use Rattle.spec_laws.proofs.Lists.{all_any}
use Rattle.job_records.specs.declared.Call.{Call}
use Rattle.job_records.specs.declared.Call.TheVariants as call
use Rattle.job_records.specs.declared.Job.TheVariants as job
use Rattle.job_records.specs.Records.{Wanted, number}
use Rattle.job_records.specs.Encoded.{open_bytes}
use Rattle.job_stream.specs.Whole.{wrote}
use Rattle.job_claims.specs.Job.{records_from, records_of, said_all, bytes_from}
use Rattle.job_claims.specs.Tables.{tables_of}
use Rattle.job_claims.proofs.Bytes.{job_bytes}
use Rattle.load_spec.specs.declared.Drawn.{Drawn}
use Rattle.load_spec.specs.Load.{states, next, kind_by, drawn_as, drawn_by, calls_from, bytes_all, most, load_of, load_by}
use Rattle.load_records.specs.Laws.{either, load_is, load_seed, load_count}
use Rattle.load_claims.specs.Load.{asked_for, jobs_of, FromTwoToNine, Read, Reads, Fits}
use Rattle.load_claims.proofs.Back.{records_open, records_calls, calls_long}

-- ---- the calls that are drawn

-- what a draw picks is a remainder, so it fits
as_fits : (k d e f : ℕ) → Fits (drawn_as k d e f).call
as_fits k d e f =
    either (λ (x : Drawn). Fits x.call) (eqb k 2) _ _ (omega arith)
    (either (λ (x : Drawn). Fits x.call) (eqb k 3) _ _ (omega arith, omega arith)
    (either (λ (x : Drawn). Fits x.call) (eqb k 4) _ _ (omega arith)
    (either (λ (x : Drawn). Fits x.call) (eqb k 5) _ _ (omega arith, omega arith)
    (either (λ (x : Drawn). Fits x.call) (eqb k 6) _ _ (omega arith, omega arith)
    (either (λ (x : Drawn). Fits x.call) (eqb k 7) _ _ (omega arith)
    (either (λ (x : Drawn). Fits x.call) (eqb k 8) _ _ (omega arith, omega arith) (omega arith, omega arith)))))))

calls_fit : (n s : ℕ) → All Fits (calls_from n s)
unfolding calls_from drawn_by
calls_fit zero s = tt
calls_fit (suc n) s = (as_fits (kind_by (next s)) (next (next s)) (next (next (next s))) (next (next (next (next s)))), calls_fit n (drawn_by s).state)

calls_many : (n s : ℕ) → length (calls_from n s) ≡ n
unfolding calls_from
calls_many zero s = refl
calls_many (suc n) s = ap suc (calls_many n (drawn_by s).state)

kind_of_call : (x : Call) → FromTwoToNine x
kind_of_call (call.Root g) = (omega arith, omega arith)
kind_of_call (call.Map g f w) = (omega arith, omega arith)
kind_of_call (call.Unmap g) = (omega arith, omega arith)
kind_of_call (call.SetMark a n) = (omega arith, omega arith)
kind_of_call (call.ClearMark a n) = (omega arith, omega arith)
kind_of_call (call.Load a) = (omega arith, omega arith)
kind_of_call (call.Store a v) = (omega arith, omega arith)
kind_of_call (call.Device a v) = (omega arith, omega arith)

-- ---- no record is bad

open_read : (h s : ℕ) → Read (Some (job.Open h s))
open_read h s e = let z : ◌≡◌ {A = ℕ} 0 1 = cc in absurd (omega arith)

call_read : (x : Call) → Read (asked_for x)
call_read x e = let z : ◌≡◌ {A = ℕ} 0 1 = cc in absurd (omega arith)

calls_read : (xs : List Call) → All Read (map asked_for xs)
calls_read [] = tt
calls_read (x ∷ xs) = (call_read x, calls_read xs)

-- ---- the load

load_found : (seed count : ℕ) → seed < states → count ≤ most → records_of (load_of seed count) ≡ jobs_of seed count
load_found seed count h k =
    let xs = calls_from count seed in
    let b = bytes_all xs in
    let l : length (open_bytes 4 4 ++ b) ≡ suc (7 + length b) = omega (arith, length-append (open_bytes 4 4) b) in
    ap records_of (load_is seed count h k)
    ∙ ap (λ (n : ℕ). records_from n (open_bytes 4 4 ++ b)) l
    ∙ records_open (7 + length b) b
    ∙ ap (λ (js : List Wanted). Some (job.Open 4 4) ∷ js) (records_calls (7 + length b) xs (calls_fit count seed) (omega (arith, calls_long xs)))

-- For every seed below 2^31 and every count up to 65,535: decoding the bytes gives an open 4 4 and then so many records, those that were drawn, each of
-- a kind from 2 to 9, and none that is bad
pub load_reads : (seed count : ℕ) → seed < states → count ≤ most → Reads (records_of (load_of seed count)) count (calls_from count seed)
load_reads seed count h k = record {
  found = load_found seed count h k;
  many = calls_many count seed;
  kinds = all_any FromTwoToNine (calls_from count seed) kind_of_call;
  whole = subst (All Read) (sym (load_found seed count h k)) (open_read 4 4, calls_read (calls_from count seed));
}

-- The job program's lines on them, by the definitions that its functions are proved equal to, are those of machine and book to the calls that were drawn
pub load_lines_lem : (seed count : ℕ) → seed < states → count ≤ most → (m : List ℕ)
    → wrote (load_of seed count) 0 None m ≡ bytes_from 1 (said_all (jobs_of seed count) (tables_of (jobs_of seed count) None m) m none)
load_lines_lem seed count h k m =
    job_bytes (load_of seed count) m ∙ ap (λ (js : List Wanted). bytes_from 1 (said_all js (tables_of js None m) m none)) (load_found seed count h k)

-- ---- whatever the program is given

any_read : (seed count : ℕ) → All Read (records_of (load_of seed count))
unfolding records_from
any_read seed count = go (ltb seed states) (ltb most count) refl refl
  where
    go : (t u : Bool) → ltb seed states ≡ t → ltb most count ≡ u → All Read (records_of (load_of seed count))
    go false u p q = subst (λ (s : List ℕ). All Read (records_of s)) (sym (load_seed seed count (ltb-false seed states p))) tt
    go true true p q = subst (λ (s : List ℕ). All Read (records_of s)) (sym (load_count seed count (ltb-true seed states p) (ltb-true most count q))) tt
    go true false p q = (load_reads seed count (ltb-true seed states p) (ltb-false most count q)).whole

-- 13 is never said to what the load program writes, whatever its input
pub input_read : (input : List ℕ) → All Read (records_of (load_by input))
unfolding load_by records_from
input_read input = go (ltb (length input) 16)
  where
    go : (t : Bool) → All Read (records_of (cond t [] (load_of (number 8 input 0) (number 8 input 8))))
    go true = tt
    go false = any_read (number 8 input 0) (number 8 input 8)
