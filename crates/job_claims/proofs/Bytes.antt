-- From the bytes of the input to the bytes of the output: what the job program writes is what machine and book say.
-- Assumes nothing.
use Rattle.std.proofs.Common.{◌≡◌, refl, sym, ap, ap₂, ◌∙◌, ◌⊎◌, inl, inr, Bool, true, false, cond, List, [], ◌∷◌, ◌++◌, ℕ, zero, suc, ◌+◌, arith, length, drop, Some, None}
use Rattle.std.proofs.Math.Option.{Option, none}
use Rattle.spec.specs.declared.Answer.{Answer}
use Rattle.spec.specs.Answer.{line}
use Rattle.spec.specs.Run.{State}
use Rattle.words.specs.After.{After}
use Rattle.calls.specs.Calls.{open_call}
use Rattle.job_records.specs.declared.Call.{Call}
use Rattle.job_records.specs.Records.{Wanted}
use Rattle.job_records.specs.declared.Job.TheVariants as job
use Rattle.job_run.specs.declared.Ran.{Ran}
use Rattle.job_run.specs.Run.{Used, is_ok, run_of}
use Rattle.job_lines.specs.Text.{line_of}
use Rattle.job_stream.specs.declared.Flow.{Flow}
use Rattle.job_stream.specs.Whole.{behind, wrote_from, wrote}
use Rattle.job_stream.specs.Turns.{first as start, Looped}
use Rattle.job_stream.proofs.Pieces.{looped_writes}
use Rattle.job_claims.specs.Job.{length_of, asks_of, until_bad, records_from, records_of, said, said_all, line_bytes, bytes_from, output_of}
use Rattle.job_claims.specs.Tables.{tables_of}
use Rattle.job_claims.proofs.Lines.{Stands, met, alike}
use Rattle.job_claims.proofs.Decodes.{first_same}

-- the bytes of a line are those of what it says
line_bytes_lem : (n : ℕ) (x : Answer) → line_of n x ≡ line_bytes n (line x)
unfolding line_of
line_bytes_lem n x = refl

-- ---- the unit's job goes on after every record but a bad one

more_both : (t : Bool) (x y : After Ran) → x.result.more ≡ true → y.result.more ≡ true → (cond t x y).result.more ≡ true
more_both true x y p q = p
more_both false x y p q = q

open_more : (h s : ℕ) (r : Used) (m : List ℕ) → (run_of r m (Some (job.Open h s))).result.more ≡ true
unfolding run_of
open_more h s r m = more_both (is_ok (open_call m h s false false).result.answer) _ _ refl refl

call_more : (x : Call) (r : Used) (m : List ℕ) → (run_of r m (Some (job.Call x))).result.more ≡ true
unfolding run_of
call_more x (Some u) m = refl
call_more x None m = refl

-- ---- one record, and those behind it

module _ (m₀ : List ℕ) where
  step_bytes : (j : Wanted) (js : List Wanted) (n : ℕ) (k : Option State) (r : Used) (m l : List ℕ) → Stands m₀ k r m
      → let a = run_of r m j in
      l ≡ bytes_from (n + 1) (said_all js (tables_of js a.result.unit a.memory) m₀ (said j m k).1)
      → line_of n a.result.answer ++ l ≡ bytes_from n (said_all (j ∷ js) (tables_of (j ∷ js) r m) m₀ k)
  unfolding said_all tables_of bytes_from
  step_bytes j js n k r m l i e =
      let a : After Ran = run_of r m j in
      let same = sym (met m₀ k r m i) in
      ap₂ (λ (x y : List ℕ). x ++ y)
      (line_bytes_lem n a.result.answer ∙ ap (line_bytes n) ((alike m₀ j k r m i).says ∙ ap (λ (x : List ℕ). (said j x k).0) same))
      (e ∙ ap (λ (x : List ℕ). bytes_from (n + 1) (said_all js (tables_of js a.result.unit a.memory) m₀ (said j x k).1)) same)

  -- what the unit writes for at most k records is what is said to them
  abbrev Same : ℕ → List ℕ → Type 0
  Same k s =
      (n : ℕ) (q : Option State) (r : Used) (m : List ℕ) → Stands m₀ q r m
      → wrote_from k s n r m ≡ bytes_from (n + 1) (said_all (records_from k s) (tables_of (records_from k s) r m) m₀ q)

  -- after a record that goes on
  goes_on : (j : Wanted) (k : ℕ) (s : List ℕ) → Same k s → (n : ℕ) (q : Option State) (r : Used) (m : List ℕ) → Stands m₀ q r m
      → let a = run_of r m j in
      a.result.more ≡ true
      → line_of (n + 1) a.result.answer ++ cond a.result.more (wrote_from k s (n + 1) a.result.unit a.memory) []
      ≡ bytes_from (n + 1) (said_all (j ∷ records_from k s) (tables_of (j ∷ records_from k s) r m) m₀ q)
  goes_on j k s f n q r m i e =
      let a : After Ran = run_of r m j in
      let l = wrote_from k s (n + 1) a.result.unit a.memory in
      ap (λ (t : Bool). line_of (n + 1) a.result.answer ++ cond t l []) e
      ∙ step_bytes j (records_from k s) (n + 1) q r m l i (f (n + 1) (said j m q).1 a.result.unit a.memory (alike m₀ j q r m i).stands)

  -- a bad record is the last
  ends_there : (n : ℕ) (q : Option State) (r : Used) (m x : List ℕ) → Stands m₀ q r m
      → let a = run_of r m None in
      line_of (n + 1) a.result.answer ++ cond a.result.more x [] ≡ bytes_from (n + 1) (said_all (None ∷ []) (tables_of (None ∷ []) r m) m₀ q)
  unfolding run_of said_all bytes_from
  ends_there n q r m x i = step_bytes None [] (n + 1) q r m [] i refl

  next_record : (k : ℕ) (s : List ℕ) → Same k (drop (2 + length_of s) s) → (n : ℕ) (q : Option State) (r : Used) (m : List ℕ) → Stands m₀ q r m → (j : Wanted) → asks_of s ≡ j
      → let a = run_of r m j in
      let rest = records_from k (drop (2 + length_of s) s) in
      line_of (n + 1) a.result.answer ++ cond a.result.more (wrote_from k (behind s) (n + 1) a.result.unit a.memory) []
      ≡ bytes_from (n + 1) (said_all (until_bad j rest) (tables_of (until_bad j rest) r m) m₀ q)
  next_record k s f n q r m i j e = go j e (first_same s).ends
    where
      moved : (j : Wanted) → behind s ≡ drop (2 + length_of s) s → let a = run_of r m j in
          line_of (n + 1) a.result.answer ++ cond a.result.more (wrote_from k (behind s) (n + 1) a.result.unit a.memory) []
          ≡ line_of (n + 1) a.result.answer ++ cond a.result.more (wrote_from k (drop (2 + length_of s) s) (n + 1) a.result.unit a.memory) []
      moved j b =
          let a : After Ran = run_of r m j in
          ap (λ (x : List ℕ). line_of (n + 1) a.result.answer ++ cond a.result.more (wrote_from k x (n + 1) a.result.unit a.memory) []) b

      go : (j : Wanted) → asks_of s ≡ j → (asks_of s ≡ None) ⊎ (behind s ≡ drop (2 + length_of s) s)
          → let a = run_of r m j in
          let rest = records_from k (drop (2 + length_of s) s) in
          line_of (n + 1) a.result.answer ++ cond a.result.more (wrote_from k (behind s) (n + 1) a.result.unit a.memory) []
          ≡ bytes_from (n + 1) (said_all (until_bad j rest) (tables_of (until_bad j rest) r m) m₀ q)
      go None e d = ends_there n q r m _ i
      go (Some (job.Open h t)) e (inl d) = let z : ◌≡◌ {A = ℕ} 0 1 = cc in absurd (omega arith)
      go (Some (job.Open h t)) e (inr d) = moved (Some (job.Open h t)) d ∙ goes_on (Some (job.Open h t)) k (drop (2 + length_of s) s) f n q r m i (open_more h t r m)
      go (Some (job.Call x)) e (inl d) = let z : ◌≡◌ {A = ℕ} 0 1 = cc in absurd (omega arith)
      go (Some (job.Call x)) e (inr d) = moved (Some (job.Call x)) d ∙ goes_on (Some (job.Call x)) k (drop (2 + length_of s) s) f n q r m i (call_more x r m)

  same : (k : ℕ) (s : List ℕ) → Same k s
  unfolding wrote_from records_from said_all bytes_from
  same zero s n q r m i = refl
  same (suc k) [] n q r m i = refl
  same (suc k) (x ∷ s) n q r m i =
      let p = x ∷ s in
      ap (λ (j : Wanted). let a : After Ran = run_of r m j in
      line_of (n + 1) a.result.answer ++ cond a.result.more (wrote_from k (behind p) (n + 1) a.result.unit a.memory) []) (first_same p).asks
      ∙ next_record k p (same k (drop (2 + length_of p) p)) n q r m i (asks_of p) refl

-- From bytes to bytes. For every input and every memory, no open granted before: what the job program writes, by the definitions that its
-- functions are proved equal to, is what document 01's machine and book say of these bytes. Of the unit's run only the words of its table frames count,
-- where an opening follows a granted one
pub job_bytes : (s m : List ℕ) → wrote s 0 None m ≡ output_of s (tables_of (records_of s) None m) m
job_bytes s m = same m (length s) s 0 none None m (refl, refl)

-- The program's loop, on any memory and buffer, whatever pieces its input comes in: once its job is over, what it has handed over to be written is what
-- machine and book say of the bytes that it has read
pub job_loop : (m b : List ℕ) (g : Flow) (n c : List ℕ) (l : Looped start m b g n c) → g.more ≡ false → l.output ≡ output_of l.input (tables_of (records_of l.input) None m) m
job_loop m b g n c l e = looped_writes m b g n c l e ∙ job_bytes l.input m
