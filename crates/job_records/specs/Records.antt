-- The records of a job, as definitions over the bytes of the input. Document 01, "Job program".
-- Assumes nothing.
use Rattle.std.specs.Prelude.{ℕ, zero, suc, ◌+◌, ◌-◌, ◌*◌, not, cond, List, [], eqb, ltb, leb, length, get_or, take, drop, Option, Some, None}
use Rattle.job_records.specs.declared.Cut.{Cut}
use Rattle.job_records.specs.declared.Cut.TheVariants.{Body, Short, Wrong}
use Rattle.spec.specs.Call as asks
use Rattle.job_records.specs.declared.Call.{Call}
use Rattle.job_records.specs.declared.Call.TheVariants as call
use Rattle.job_records.specs.declared.Kind.{Kind}
use Rattle.job_records.specs.declared.Kind.TheVariants as kind
use Rattle.job_records.specs.declared.Job.{Job}
use Rattle.job_records.specs.declared.Job.TheVariants as job

-- the number of w bytes that starts at a position, its lowest byte first
abbrev pub number : ℕ → List ℕ → ℕ → ℕ
number zero s at = 0
number (suc w) s at = get_or s at 0 + 256 * number w s (at + 1)

-- ---- a record has its length in two bytes, its kind in two, and its body

-- a record whose length is n; no kind has a length below 2 or above 19
abbrev pub cut_by : List ℕ → ℕ → ℕ → Cut
cut_by s at n =
    cond (ltb n 2) Wrong
    (cond (ltb 19 n) Wrong
    (cond (ltb (length s - (at + 2)) n) Short (Body (number 2 s (at + 2)) (at + 4) (n - 2))))

-- the record that starts at a position; its length is that of kind and body together, without its own two bytes
abbrev pub cut_at : List ℕ → ℕ → Cut
cut_at s at = cond (leb (at + 2) (length s)) (cut_by s at (number 2 s at)) Short

-- its body
abbrev pub body_of : List ℕ → Cut → List ℕ
body_of s (Body k b n) = take n (drop b s)
body_of s Short = []
body_of s Wrong = []

-- where it ends
abbrev pub next_of : ℕ → Cut → ℕ
next_of at (Body k b n) = b + n
next_of at Short = at
next_of at Wrong = at

-- ---- what a record of a kind with a body asks for

-- a job's call, as machine and unit know it
abbrev pub asked : Call → asks.Call
asked (call.Root g) = asks.root g
asked (call.Map g f w) = asks.map g f w
asked (call.Unmap g) = asks.unmap g
asked (call.SetMark a n) = asks.set_mark a n
asked (call.ClearMark a n) = asks.clear_mark a n
asked (call.Load a) = asks.load_word a
asked (call.Store a v) = asks.store_word a v
asked (call.Device a v) = asks.device_word a v

-- the kind with a number; one that is none of 1 to 9 is 13
abbrev pub kind_at : ℕ → Option Kind
kind_at n =
    cond (eqb n 1) (Some kind.Open)
    (cond (eqb n 2) (Some kind.Root)
    (cond (eqb n 3) (Some kind.Map)
    (cond (eqb n 4) (Some kind.Unmap)
    (cond (eqb n 5) (Some kind.SetMark)
    (cond (eqb n 6) (Some kind.ClearMark)
    (cond (eqb n 7) (Some kind.Load)
    (cond (eqb n 8) (Some kind.Store)
    (cond (eqb n 9) (Some kind.Device)
    None))))))))

abbrev pub number_in : Kind → ℕ
number_in kind.Open = 1
number_in kind.Root = 2
number_in kind.Map = 3
number_in kind.Unmap = 4
number_in kind.SetMark = 5
number_in kind.ClearMark = 6
number_in kind.Load = 7
number_in kind.Store = 8
number_in kind.Device = 9

-- the kind of a call's record
abbrev pub kind_in : Call → Kind
kind_in (call.Root g) = kind.Root
kind_in (call.Map g f w) = kind.Map
kind_in (call.Unmap g) = kind.Unmap
kind_in (call.SetMark a n) = kind.SetMark
kind_in (call.ClearMark a n) = kind.ClearMark
kind_in (call.Load a) = kind.Load
kind_in (call.Store a v) = kind.Store
kind_in (call.Device a v) = kind.Device

-- how many bytes a body of the kind has
abbrev pub size_in : Kind → ℕ
size_in kind.Open = 4
size_in kind.Root = 8
size_in kind.Map = 17
size_in kind.Unmap = 8
size_in kind.SetMark = 9
size_in kind.ClearMark = 9
size_in kind.Load = 8
size_in kind.Store = 16
size_in kind.Device = 16

-- what a body b of that size asks for. Open: H and S in two bytes each. Map: the guest frame and the host frame in eight bytes each, and a byte
-- that is 0 for read-only. Root, unmap and load: a guest frame or an address in eight bytes. A mark: the address in eight bytes, the level in one.
-- Both stores: the address and the value in eight bytes each
abbrev pub job_in : Kind → List ℕ → Job
job_in kind.Open b = job.Open (number 2 b 0) (number 2 b 2)
job_in kind.Root b = job.Call (call.Root (number 8 b 0))
job_in kind.Map b = job.Call (call.Map (number 8 b 0) (number 8 b 8) (not (eqb (get_or b 16 0) 0)))
job_in kind.Unmap b = job.Call (call.Unmap (number 8 b 0))
job_in kind.SetMark b = job.Call (call.SetMark (number 8 b 0) (get_or b 8 0))
job_in kind.ClearMark b = job.Call (call.ClearMark (number 8 b 0) (get_or b 8 0))
job_in kind.Load b = job.Call (call.Load (number 8 b 0))
job_in kind.Store b = job.Call (call.Store (number 8 b 0) (number 8 b 8))
job_in kind.Device b = job.Call (call.Device (number 8 b 0) (number 8 b 8))

-- what a record asks for; none where it is 13
abbrev pub Wanted : Type 0
Wanted = Option Job

-- a body of another length than its kind's is 13
abbrev pub job_by_kind : Option Kind → List ℕ → Wanted
job_by_kind (Some k) b = cond (eqb (length b) (size_in k)) (Some (job_in k b)) None
job_by_kind None b = None

-- what a body b of a kind with the number n asks for
unfoldable pub job_of : ℕ → List ℕ → Wanted
job_of n b = job_by_kind (kind_at n) b

-- a record that the input cuts off, or whose length no kind has, is 13 too
abbrev pub job_by : List ℕ → Cut → Wanted
job_by s (Body k b n) = job_of k (take n (drop b s))
job_by s Short = None
job_by s Wrong = None

-- what the record that starts at a position asks for
unfoldable pub job_at : List ℕ → ℕ → Wanted
job_at s at = job_by s (cut_at s at)
