-- A load that anyone can repeat: the records that a seed and a count stand for. Document 02, request 10.
-- Assumes nothing.
use Rattle.std.specs.Prelude.{ℕ, zero, suc, ◌+◌, ◌*◌, ◌/◌, ◌%◌, Bool, not, cond, List, [], ◌∷◌, ◌++◌, eqb, ltb, length}
use Rattle.job_records.specs.declared.Call.{Call}
use Rattle.job_records.specs.declared.Call.TheVariants as call
use Rattle.job_records.specs.Records.{number}
use Rattle.job_records.specs.Encoded.{open_bytes, call_bytes}
use Rattle.load_spec.specs.declared.Drawn.{Drawn}

-- ---- draws

-- a state, and a draw, is below 2^31
abbrev pub states : ℕ
states = 2147483648

-- the draw after a state; it is the next state
abbrev pub next : ℕ → ℕ
next s = (1103515245 * s + 12345) % states

-- what is used of a draw: its low bits repeat too soon
abbrev pub high : ℕ → ℕ
high d = d / 65536

-- ---- what a draw picks

abbrev pub kind_by : ℕ → ℕ
kind_by d = 2 + high d % 8

-- a root too
abbrev pub guest_by : ℕ → ℕ
guest_by d = high d % 16

abbrev pub host_by : ℕ → ℕ
host_by d = 8 + high d % 8

abbrev pub address_by : ℕ → ℕ
address_by d = 8 * (high d % 4096)

abbrev pub level_by : ℕ → ℕ
level_by d = 1 + high d % 5

abbrev pub writable_by : ℕ → Bool
writable_by d = not (eqb (high d % 2) 0)

abbrev pub value_by : ℕ → ℕ
value_by d = 4096 * (high d % 16) + 3

-- ---- a call

abbrev drawn : Call → ℕ → Drawn
drawn x s = record { call = x; state = s }

-- a call of kind k; d, e and f are the draws for its body, in the order of the body, and the last that it needs is the state after it
abbrev pub drawn_as : ℕ → ℕ → ℕ → ℕ → Drawn
drawn_as k d e f =
    cond (eqb k 2) (drawn (call.Root (guest_by d)) d)
    (cond (eqb k 3) (drawn (call.Map (guest_by d) (host_by e) (writable_by f)) f)
    (cond (eqb k 4) (drawn (call.Unmap (guest_by d)) d)
    (cond (eqb k 5) (drawn (call.SetMark (address_by d) (level_by e)) e)
    (cond (eqb k 6) (drawn (call.ClearMark (address_by d) (level_by e)) e)
    (cond (eqb k 7) (drawn (call.Load (address_by d)) d)
    (cond (eqb k 8) (drawn (call.Store (address_by d) (value_by e)) e)
    (drawn (call.Device (address_by d) (value_by e)) e)))))))

-- the call after a state: one draw for its kind, then those for its body
unfoldable pub drawn_by : ℕ → Drawn
drawn_by s = drawn_as (kind_by (next s)) (next (next s)) (next (next (next s))) (next (next (next (next s))))

-- n calls after a state
unfoldable pub calls_from : ℕ → ℕ → List Call
calls_from zero s = []
calls_from (suc n) s = (drawn_by s).call ∷ calls_from n (drawn_by s).state

-- ---- their bytes

unfoldable pub bytes_all : List Call → List ℕ
bytes_all [] = []
bytes_all (x ∷ xs) = call_bytes x ++ bytes_all xs

-- the most records
abbrev pub most : ℕ
most = 65535

-- the bytes of the longest load: the open, and each record a map
abbrev pub longest : ℕ
longest = 8 + 21 * most

-- the load of a seed and a count: an open 4 4, which is not counted, and the calls; nothing where one is out of range
unfoldable pub load_of : ℕ → ℕ → List ℕ
load_of seed count = cond (ltb seed states) (cond (ltb most count) [] (open_bytes 4 4 ++ bytes_all (calls_from count seed))) []

-- the load that an input asks for: seed and count in eight bytes each; nothing where it is cut
unfoldable pub load_by : List ℕ → List ℕ
load_by input = cond (ltb (length input) 16) [] (load_of (number 8 input 0) (number 8 input 8))
