-- A job as document 01 has it: what its bytes ask for, and what machine and book say to each record. Document 01, "Job program".
-- No definition here knows the unit, its record or its tables.
-- Assumes nothing.
use Rattle.std.specs.Prelude.{ℕ, zero, suc, ◌+◌, ◌-◌, ◌/◌, false, cond, List, [], ◌∷◌, ◌++◌, leb, length, take, drop, Some, None}
use Rattle.std.proofs.Math.Option.{Option, none, some}
use Rattle.spec.specs.Answer as say
use Rattle.spec.specs.Answer.{Line}
use Rattle.spec.specs.Call.{Call}
use Rattle.spec.specs.Run.{State, step, opening}
use Rattle.spec.specs.Config.{Config}
use Rattle.job_records.specs.declared.Job.TheVariants as job
use Rattle.job_records.specs.Records.{Wanted, number, job_of, asked}
use Rattle.job_lines.specs.Text.{decimal, text_of}

-- ---- the input

-- a record's length, in its first two bytes: that of kind and body
abbrev pub length_of : List ℕ → ℕ
length_of s = number 2 s 0

-- what the first record asks for: its kind is in the two bytes after the length, its body is the rest of it. A record that is shorter than its
-- kind, or longer than the input, is 13, as one is whose length is not its kind's or whose kind is unknown
abbrev pub asks_of : List ℕ → Wanted
asks_of s =
    cond (leb 2 (length_of s))
    (cond (leb (2 + length_of s) (length s)) (job_of (number 2 s 2) (take (length_of s - 2) (drop 4 s))) None)
    None

-- after 13 nothing is read
abbrev pub until_bad : Wanted → List Wanted → List Wanted
until_bad (Some j) js = Some j ∷ js
until_bad None js = None ∷ []

-- at most k records of the input
unfoldable pub records_from : ℕ → List ℕ → List Wanted
records_from zero s = []
records_from (suc k) [] = []
records_from (suc k) (x ∷ s) = until_bad (asks_of (x ∷ s)) (records_from k (drop (2 + length_of (x ∷ s)) (x ∷ s)))

-- the records of the input: it has no more of them than bytes
abbrev pub records_of : List ℕ → List Wanted
records_of s = records_from (length s) s

-- ---- machine and book

-- what an opening with H and S fixes on a memory of so many words; a job's has no accessed and dirty bits and no automatic choice (document 02, 6 and 7)
abbrev pub sizes : ℕ → ℕ → ℕ → Config
sizes words h s = record { levels = 4; mark_room = 64; hosts = h; shadows = s; frames = words / 512; bits = false }

-- a refused opening leaves the earlier state in use
abbrev pub opened_by : Option State → Option State → Option State
opened_by (some s) before = some s
opened_by none before = before

-- a call before any granted opening is 3
abbrev pub called : Option State → Call → Line × Option State
called none x = (say.no 3, none)
called (some s) x =
    let u : Line × State = step x s in
    (u.0, some u.1)

-- what is said to one record; m is the memory that an opening meets
abbrev pub said : Wanted → List ℕ → Option State → Line × Option State
said (Some (job.Open h s)) m o =
    let u : Line × Option State = opening (sizes (length m) h s) false m in
    (u.0, opened_by u.1 o)
said (Some (job.Call x)) m o = called o (asked x)
said None m o = (say.no 13, o)

-- the memory that an opening meets: that of the start before any granted opening. After one, the guest words are the machine's, and t stands
-- in the frames of the tables: which words those are is open
abbrev pub meets : List ℕ → List ℕ → Option State → List ℕ
meets m t none = m
meets m t (some s) = t ++ s.machine.area

-- the words that stand in the table frames at each record, one list for each
abbrev pub first : List (List ℕ) → List ℕ
first [] = []
first (t ∷ ts) = t

abbrev pub others : List (List ℕ) → List (List ℕ)
others [] = []
others (t ∷ ts) = ts

-- the lines of a list of records on a memory
unfoldable pub said_all : List Wanted → List (List ℕ) → List ℕ → Option State → List Line
said_all [] ts m k = []
said_all (j ∷ js) ts m k =
    let u : Line × Option State = said j (meets m (first ts) k) k in
    u.0 ∷ said_all js (others ts) m u.1

-- ---- the output

-- a line: the record's number, what is said, and a newline
abbrev pub line_bytes : ℕ → Line → List ℕ
line_bytes n x = (decimal 19 n ++ text_of x) ++ (10 ∷ [])

-- lines one after the other, the first with the number n
unfoldable pub bytes_from : ℕ → List Line → List ℕ
bytes_from n [] = []
bytes_from n (x ∷ xs) = line_bytes n x ++ bytes_from (n + 1) xs

-- the whole output: the bytes s on the memory m, no open granted before
abbrev pub output_of : List ℕ → List (List ℕ) → List ℕ → List ℕ
output_of s ts m = bytes_from 1 (said_all (records_of s) ts m none)
