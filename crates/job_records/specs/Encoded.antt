-- The bytes that a record is written in. Document 01, "Job program".
-- Assumes nothing.
use Rattle.std.specs.Prelude.{ℕ, zero, suc, ◌+◌, ◌/◌, ◌%◌, cond, List, [], ◌∷◌, ◌++◌, length}
use Rattle.job_records.specs.declared.Call.{Call}
use Rattle.job_records.specs.declared.Call.TheVariants as call
use Rattle.job_records.specs.Records.{number_in, kind_in}

-- a number in w bytes, its lowest byte first
abbrev pub bytes_of : ℕ → ℕ → List ℕ
bytes_of zero n = []
bytes_of (suc w) n = (n % 256) ∷ bytes_of w (n / 256)

-- a record: the length of kind and body in two bytes, the kind in two, and the body
abbrev pub record_bytes : ℕ → List ℕ → List ℕ
record_bytes k b = (bytes_of 2 (2 + length b) ++ bytes_of 2 k) ++ b

-- an open with H and S
abbrev pub open_bytes : ℕ → ℕ → List ℕ
open_bytes h s = record_bytes 1 (bytes_of 2 h ++ bytes_of 2 s)

-- the number of a call's kind
abbrev pub kind_of : Call → ℕ
kind_of x = number_in (kind_in x)

abbrev pub body_bytes : Call → List ℕ
body_bytes (call.Root g) = bytes_of 8 g
body_bytes (call.Map g f w) = (bytes_of 8 g ++ bytes_of 8 f) ++ bytes_of 1 (cond w 1 0)
body_bytes (call.Unmap g) = bytes_of 8 g
body_bytes (call.SetMark a n) = bytes_of 8 a ++ bytes_of 1 n
body_bytes (call.ClearMark a n) = bytes_of 8 a ++ bytes_of 1 n
body_bytes (call.Load a) = bytes_of 8 a
body_bytes (call.Store a v) = bytes_of 8 a ++ bytes_of 8 v
body_bytes (call.Device a v) = bytes_of 8 a ++ bytes_of 8 v

-- the record of a call
unfoldable pub call_bytes : Call → List ℕ
call_bytes x = record_bytes (kind_of x) (body_bytes x)
