-- What a job writes for a whole input, by the definitions that records, unit and lines are proved equal to.
-- Assumes nothing.
use Rattle.std.specs.Prelude.{ℕ, zero, suc, ◌+◌, cond, List, [], ◌∷◌, ◌++◌, length, drop}
use Rattle.words.specs.After.{After}
use Rattle.job_records.specs.Records.{cut_at, next_of, job_at}
use Rattle.job_run.specs.declared.Ran.{Ran}
use Rattle.job_run.specs.Run.{Used, run_of}
use Rattle.job_lines.specs.Text.{line_of}

-- what is behind the first record
abbrev pub behind : List ℕ → List ℕ
behind s = drop (next_of 0 (cut_at s 0)) s

-- the lines of at most k records of the input s, n having run before: the first record is split off and run, its line comes first, then
-- those of what is behind it. A rest that is no whole record is one that is cut. The job goes on as the unit's own definition says.
unfoldable pub wrote_from : ℕ → List ℕ → ℕ → Used → List ℕ → List ℕ
wrote_from zero s n r m = []
wrote_from (suc k) [] n r m = []
wrote_from (suc k) (x ∷ s) n r m =
    let a : After Ran = run_of r m (job_at (x ∷ s) 0) in
    line_of (n + 1) a.result.answer
    ++ cond a.result.more (wrote_from k (behind (x ∷ s)) (n + 1) a.result.unit a.memory) []

-- all of them: no input has more records than bytes
abbrev pub wrote : List ℕ → ℕ → Used → List ℕ → List ℕ
wrote s n r m = wrote_from (length s) s n r m
