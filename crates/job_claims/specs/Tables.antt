-- What the unit's tables hold while a job runs. Of the unit's run, the claim about a job takes this and nothing else.
-- Assumes nothing.
use Rattle.std.specs.Prelude.{◌*◌, ℕ, List, [], ◌∷◌, take, Some, None}
use Rattle.spec.specs.Config.{guest_base}
use Rattle.record.specs.Record.{config_of}
use Rattle.job_records.specs.Records.{Wanted}
use Rattle.job_run.specs.declared.Ran.{Ran}
use Rattle.job_run.specs.Run.{Used, run_of}
use Rattle.words.specs.After.{After}

-- the words of the host and shadow frames, once an open was granted
abbrev pub tables_in : Used → List ℕ → List ℕ
tables_in (Some r) m = take (512 * guest_base (config_of r)) m
tables_in None m = []

-- those at each record of a list
unfoldable pub tables_of : List Wanted → Used → List ℕ → List (List ℕ)
tables_of [] r m = []
tables_of (j ∷ js) r m =
    let a : After Ran = run_of r m j in
    tables_in r m ∷ tables_of js a.result.unit a.memory
