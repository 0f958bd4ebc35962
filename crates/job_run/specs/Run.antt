-- What a record does, over the definitions that the unit's calls are proved equal to.
-- Assumes nothing.
use Rattle.std.specs.Prelude.{ℕ, Bool, true, false, cond, List, Option, Some, None}
use Rattle.spec.specs.declared.Answer.{Answer}
use Rattle.spec.specs.declared.Answer.TheVariants as answer
use Rattle.record.specs.declared.Record.{Record}
use Rattle.calls.specs.Calls.{open_call, call_of}
use Rattle.job_records.specs.declared.Job.TheVariants as job
use Rattle.job_records.specs.Records.{asked, Wanted}
use Rattle.job_run.specs.declared.Ran.{Ran}
use Rattle.words.specs.After.{After, yields}
use Rattle.calls.specs.declared.Reply.{Reply}

-- the record in use, once an open was granted
abbrev pub Used : Type 0
Used = Option Record

-- what a record leaves
abbrev pub ran : Used → Answer → Bool → List ℕ → After Ran
ran u x more m = yields (record { unit = u; answer = x; more = more }) m

abbrev pub is_ok : Answer → Bool
is_ok answer.Ok = true
is_ok (answer.Value v r e) = false
is_ok (answer.Done r e) = false
is_ok (answer.Faulted x r e) = false
is_ok (answer.Refused n) = false
is_ok (answer.Figures r e t) = false

-- a refused opening leaves the earlier record in use
abbrev pub opened_by : Used → After Reply → After Ran
opened_by u e =
    cond (is_ok e.result.answer) (ran (Some e.result.unit) e.result.answer true e.memory)
    (ran u e.result.answer true e.memory)

abbrev pub called_by : After Reply → After Ran
called_by e = ran (Some e.result.unit) e.result.answer true e.memory

-- what runs on the record in use; before any granted opening it is 3, and the job goes on
abbrev pub once_opened : Used → List ℕ → (Record → After Ran) → After Ran
once_opened (Some r) m f = f r
once_opened None m f = ran None (answer.Refused 3) true m

-- a bad record is 13 and ends the job. A job opens without accessed and dirty bits, and without the automatic choice
unfoldable pub run_of : Used → List ℕ → Wanted → After Ran
run_of u m (Some (job.Open h s)) = opened_by u (open_call m h s false false)
run_of u m (Some (job.Call x)) = once_opened u m (λ r. called_by (call_of (asked x) r m))
run_of u m None = ran u (answer.Refused 13) false m
