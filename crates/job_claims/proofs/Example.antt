-- Document 01's example of a job, computed from its bytes to its lines by the specification.
-- Assumes nothing.
use Rattle.std.proofs.Common.{◌≡◌, refl, List, [], ◌∷◌, ℕ, replicate}
use Rattle.spec.specs.Computing.{specifying}
use Rattle.job_lines.specs.Text.{decimal, hexadecimal}
use Rattle.job_records.specs.Records.{job_of}
use Rattle.job_claims.specs.Job.{records_from, said_all, bytes_from, output_of}

abbrev pub input : List ℕ
input = 6 ∷ 0 ∷ 1 ∷ 0 ∷ 4 ∷ 0 ∷ 4 ∷ 0 ∷ 19 ∷ 0 ∷ 3 ∷ 0 ∷ 0 ∷ 0 ∷ 0 ∷ 0 ∷ 0 ∷ 0 ∷ 0 ∷ 0 ∷ 8 ∷ 0 ∷ 0 ∷ 0 ∷ 0 ∷ 0 ∷ 0 ∷ 0 ∷ 1 ∷ 10 ∷ 0 ∷ 2 ∷ 0 ∷ 0 ∷ 0 ∷ 0 ∷ 0 ∷ 0 ∷ 0 ∷ 0 ∷ 0 ∷ 18 ∷ 0 ∷ 9 ∷ 0 ∷ 0 ∷ 0 ∷ 0 ∷ 0 ∷ 0 ∷ 0 ∷ 0 ∷ 0 ∷ 3 ∷ 16 ∷ 0 ∷ 0 ∷ 0 ∷ 0 ∷ 0 ∷ 0 ∷ 10 ∷ 0 ∷ 7 ∷ 0 ∷ 0 ∷ 0 ∷ 0 ∷ 0 ∷ 0 ∷ 0 ∷ 0 ∷ 0 ∷ 10 ∷ 0 ∷ 7 ∷ 0 ∷ 4 ∷ 0 ∷ 0 ∷ 0 ∷ 0 ∷ 0 ∷ 0 ∷ 0 ∷ []

abbrev pub output : List ℕ
output = 49 ∷ 32 ∷ 111 ∷ 107 ∷ 10 ∷ 50 ∷ 32 ∷ 111 ∷ 107 ∷ 10 ∷ 51 ∷ 32 ∷ 111 ∷ 107 ∷ 10 ∷ 52 ∷ 32 ∷ 100 ∷ 111 ∷ 110 ∷ 101 ∷ 32 ∷ 52 ∷ 32 ∷ 48 ∷ 10 ∷ 53 ∷ 32 ∷ 102 ∷ 97 ∷ 117 ∷ 108 ∷ 116 ∷ 32 ∷ 72 ∷ 32 ∷ 48 ∷ 32 ∷ 49 ∷ 32 ∷ 57 ∷ 32 ∷ 49 ∷ 10 ∷ 54 ∷ 32 ∷ 110 ∷ 111 ∷ 32 ∷ 52 ∷ 10 ∷ []

-- open 4 4; map 0 8 1; root 0; device store 0, 0x1003; load 0; load 4
pub example : output_of input [] (replicate 8192 0) ≡ output
unfolding records_from said_all bytes_from job_of decimal hexadecimal specifying
example = refl
