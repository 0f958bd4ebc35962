-- A turn of the job's loop: one record is run, or one read puts more bytes behind those that are not run yet.
-- Assumes nothing.
use Rattle.std.specs.Prelude.{ℕ, ◌+◌, ◌≤◌, ◌≡◌, Bool, true, false, cond, List, [], ◌++◌, eqb, length, take, drop, None}
use Rattle.words.specs.After.{After, yields}
use Rattle.job_records.specs.declared.Cut.{Cut}
use Rattle.job_records.specs.declared.Cut.TheVariants.{Body, Short, Wrong}
use Rattle.job_records.specs.Records.{cut_at, next_of, job_at}
use Rattle.job_run.specs.declared.Ran.{Ran}
use Rattle.job_run.specs.Run.{run_of}
use Rattle.job_lines.specs.Text.{line_of}
use Rattle.job_stream.specs.declared.Flow.{Flow}

-- a job that starts: no open was granted, nothing ran, nothing is read
abbrev pub first : Flow
first = record { unit = None; number = 0; at = 0; len = 0; more = true; taken = true }

-- what a turn leaves, and the bytes that it hands over to be written
pub record Turned : Type 0 where
  pub after : After Flow
  pub said : List ℕ

-- the bytes in the buffer that are not run yet
abbrev pub unread : Flow → List ℕ → List ℕ
unread f b = drop f.at (take f.len b)

-- the record at the position in s is run: the unit's call, the next number, the position behind the record. Whether the line was taken is given
abbrev pub ran_of : Flow → List ℕ → List ℕ → Bool → Turned
ran_of f m s t =
    let a : After Ran = run_of f.unit m (job_at s f.at) in
    record {
      after = yields (record {
        unit = a.result.unit;
        number = f.number + 1;
        at = next_of f.at (cut_at s f.at);
        len = f.len;
        more = a.result.more;
        taken = t;
      }) a.memory;
      said = line_of (f.number + 1) a.result.answer;
    }

-- the flow at the front of a buffer of so many bytes
abbrev pub front : Flow → ℕ → Flow
front f n = record { unit = f.unit; number = f.number; at = 0; len = n; more = f.more; taken = f.taken }

-- a job that has nothing left to run
abbrev pub stopped : Flow → Flow
stopped f = record { unit = f.unit; number = f.number; at = 0; len = 0; more = false; taken = f.taken }

-- at the end of the input the rest u is a record that is cut; no rest, and the job is over
abbrev pub ended_of : Flow → List ℕ → List ℕ → Bool → Turned
ended_of f m u t = cond (eqb (length u) 0) (record { after = yields (stopped f) m; said = [] }) (ran_of (front f (length u)) m u t)

-- a read: the buffer then holds l bytes, those that were not run yet first. No more than before: the input has ended
abbrev pub refilled_of : Flow → List ℕ → List ℕ → ℕ → Bool → Turned
refilled_of f m u l t = cond (eqb l (length u)) (ended_of f m u t) (record { after = yields (front f l) m; said = [] })

-- a record that is whole, or has a length that no kind has, is run; else more is read
abbrev pub turn_by : Flow → List ℕ → List ℕ → ℕ → Bool → Cut → Turned
turn_by f m b l t (Body k s n) = ran_of f m (take f.len b) t
turn_by f m b l t Wrong = ran_of f m (take f.len b) t
turn_by f m b l t Short = refilled_of f m (unread f b) l t

-- the record at the position in the buffer
abbrev pub cut_of : Flow → List ℕ → Cut
cut_of f b = cut_at (take f.len b) f.at

-- a turn on the buffer b, after which the flow has l bytes, and t says whether the last line was taken
unfoldable pub turn_of : Flow → List ℕ → List ℕ → ℕ → Bool → Turned
turn_of f m b l t = turn_by f m b l t (cut_of f b)

-- the buffer after a read: what was not run yet stands at the front
abbrev pub Refilled : List ℕ → ℕ → List ℕ → Type 0
Refilled u l b = (take (length u) b ≡ u) × (length u ≤ l) × (l ≤ length b)

-- the buffer after a turn: a record that is run changes no byte
abbrev pub BufferBy : Flow → List ℕ → ℕ → List ℕ → Cut → Type 0
BufferBy f b l c (Body k s n) = c ≡ b
BufferBy f b l c Wrong = c ≡ b
BufferBy f b l c Short = Refilled (unread f b) l c

-- one turn, as its contract has it: flow, memory and buffer before and after
pub record Turn (f : Flow) (m b : List ℕ) (g : Flow) (n c : List ℕ) : Type 0 where
  pub leaves : yields g n ≡ (turn_of f m b g.len g.taken).after
  pub buffer : BufferBy f b g.len c (cut_of f b)

-- the bytes that a turn has read
abbrev pub read_by : Flow → List ℕ → ℕ → List ℕ → Cut → List ℕ
read_by f b l c (Body k s n) = []
read_by f b l c Wrong = []
read_by f b l c Short = drop (length (unread f b)) (take l c)

-- a run of so many turns: i are the bytes that it has read, o those that it has handed over to be written
pub data Runs (f : Flow) (m b : List ℕ) : ℕ → List ℕ → List ℕ → Flow → List ℕ → List ℕ → Type 0 where
  start : Runs f m b 0 [] [] f m b
  then : {k : ℕ} {i o : List ℕ} {x : Flow} {y z : List ℕ} (g : Flow) (n c : List ℕ) → Runs f m b k i o x y z → x.more ≡ true → Turn x y z g n c
      → Runs f m b (k + 1) (i ++ read_by x z g.len c (cut_of x z)) (o ++ (turn_of x y z g.len g.taken).said) g n c

-- how many turns the loop has
abbrev pub most : ℕ
most = 18446744073709551615

-- the loop: a run that ends where the job is over, a line was not taken, or the turns are used up
pub record Looped (f : Flow) (m b : List ℕ) (g : Flow) (n c : List ℕ) : Type 0 where
  pub turns : ℕ
  pub input : List ℕ
  pub output : List ℕ
  pub runs : Runs f m b turns input output g n c
  pub ended : g.more ≡ true → g.taken ≡ true → turns ≡ most
