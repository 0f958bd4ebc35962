-- What a load is to the one who runs it. Document 02, request 10.
-- Assumes nothing.
use Rattle.std.specs.Prelude.{ℕ, ◌^◌, ◌≤◌, ◌<◌, ◌≡◌, List, ◌∷◌, map, length, Some, None}
use Rattle.spec.specs.Prefix.{All}
use Rattle.job_records.specs.declared.Call.{Call}
use Rattle.job_records.specs.declared.Call.TheVariants as call
use Rattle.job_records.specs.declared.Job.TheVariants as job
use Rattle.job_records.specs.Records.{Wanted}
use Rattle.job_records.specs.Encoded.{kind_of}
use Rattle.load_spec.specs.Load.{calls_from}

-- a record that asks for a call
abbrev pub asked_for : Call → Wanted
asked_for x = Some (job.Call x)

-- the records of the load of a seed and a count
abbrev pub jobs_of : ℕ → ℕ → List Wanted
jobs_of seed count = Some (job.Open 4 4) ∷ map asked_for (calls_from count seed)

abbrev pub FromTwoToNine : Call → Type 0
FromTwoToNine x = (2 ≤ kind_of x) × (kind_of x ≤ 9)

-- 13 is said to a bad record only
abbrev pub Read : Wanted → Type 0
Read j = j ≡ None → ⊥

-- what decoding finds in the bytes of a load: an open 4 4, then so many records, each of a kind from 2 to 9, and none that is bad
pub record Reads (records : List Wanted) (count : ℕ) (calls : List Call) : Type 0 where
  pub found : records ≡ Some (job.Open 4 4) ∷ map asked_for calls
  pub many : length calls ≡ count
  pub kinds : All FromTwoToNine calls
  pub whole : All Read records

-- how many numbers have eight bytes
abbrev pub word : ℕ
word = 2 ^ 64

-- the numbers of a call fit the bytes of its record
abbrev pub Fits : Call → Type 0
Fits (call.Root g) = g < word
Fits (call.Map g f w) = (g < word) × (f < word)
Fits (call.Unmap g) = g < word
Fits (call.SetMark a n) = (a < word) × (n < 256)
Fits (call.ClearMark a n) = (a < word) × (n < 256)
Fits (call.Load a) = a < word
Fits (call.Store a v) = (a < word) × (v < word)
Fits (call.Device a v) = (a < word) × (v < word)
