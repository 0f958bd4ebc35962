-- What a call may change, by its answer: demand 1.
-- Assumes nothing.
use Rattle.std.specs.Prelude.{◌≡◌, ◌≢◌, ◌⊎◌, ℕ, ◌+◌, ◌*◌, ◌<◌, Bool, true, List, [], ◌∷◌, T, eqb, length, drop, set, get_or}
use Rattle.spec.specs.declared.Answer.{Answer}
use Rattle.spec.specs.declared.Answer.TheVariants as answer
use Rattle.spec.specs.Prefix.{any}
use Rattle.spec.specs.Bits.{with_bits}
use Rattle.record.specs.declared.Record.{Record}
use Rattle.record.specs.Record.{config_of, zeros}
use Rattle.claims.specs.Run.{guest_area}
use Rattle.words.specs.After.{After}
use Rattle.calls.specs.declared.Reply.{Reply}

-- no guest word: the memory is as long as m and has its guest area, so that only host and shadow frames differ; the record
-- places the areas as before
pub record GuestKept (r : Record) (m : List ℕ) (e : After Reply) : Type 0 where
  pub layout : config_of e.result.unit ≡ config_of r
  pub long : length e.memory ≡ length m
  pub area : guest_area r e.memory ≡ guest_area r m

-- the word f is e, or with bits on e with its accessed bit set, or its accessed and dirty bit
abbrev pub Bitted : Bool → ℕ → ℕ → Type 0
Bitted on e f = (f ≡ e) ⊎ ((on ≡ true) × (b : Bool) × (f ≡ with_bits b e))

-- each word of b is that of a, but for such bits
abbrev pub BitsOnly : Bool → List ℕ → List ℕ → Type 0
BitsOnly on a b = (length b ≡ length a) × ((k : ℕ) → Bitted on (get_or a k 0) (get_or b k 0))

-- of the guest words such bits alone: what a granted load may change
pub record BitsKept (r : Record) (m : List ℕ) (e : After Reply) : Type 0 where
  pub layout : config_of e.result.unit ≡ config_of r
  pub long : length e.memory ≡ length m
  pub area : BitsOnly (config_of r).bits (guest_area r m) (guest_area r e.memory)

-- one guest word, after such bits: what a granted store may change
pub record OneWord (r : Record) (m : List ℕ) (e : After Reply) : Type 0 where
  pub layout : config_of e.result.unit ≡ config_of r
  pub long : length e.memory ≡ length m
  pub bitted : List ℕ
  pub bits : BitsOnly (config_of r).bits (guest_area r m) bitted
  pub place : ℕ
  pub word : ℕ
  pub inside : place < length (guest_area r m)
  pub area : guest_area r e.memory ≡ set bitted place word

-- the numbers of the refusals of later calls; 1 and 2 are an opening's, 13 is a job's
abbrev pub refusals : List ℕ
refusals = 3 ∷ 4 ∷ 5 ∷ 6 ∷ 7 ∷ 8 ∷ 9 ∷ 10 ∷ 11 ∷ 12 ∷ 14 ∷ 15 ∷ 16 ∷ []

abbrev pub Numbered : ℕ → Type 0
Numbered n = T (any (eqb n) refusals)

-- a refusal keeps the record and all of the memory, but that 11, for damaged tables, may alter host and shadow frames
pub record RefusalKept (r : Record) (m : List ℕ) (e : After Reply) (n : ℕ) : Type 0 where
  pub numbered : Numbered n
  pub unit : e.result.unit ≡ r
  pub guest : GuestKept r m e
  pub whole : n ≢ 11 → e.memory ≡ m

-- record and memory are handed back as they were
pub record Untouched (r : Record) (m : List ℕ) (e : After Reply) : Type 0 where
  pub unit : e.result.unit ≡ r
  pub memory : e.memory ≡ m

-- what a forecast may say: figures, or one of its four refusals
abbrev pub Foretells : Answer → Type 0
Foretells answer.Ok = ⊥
Foretells (answer.Value v n x) = ⊥
Foretells (answer.Done n x) = ⊥
Foretells (answer.Faulted y n x) = ⊥
Foretells (answer.Refused n) = (n ≡ 3) ⊎ ((n ≡ 16) ⊎ ((n ≡ 14) ⊎ (n ≡ 11)))
Foretells (answer.Figures n x t) = Unit {0}

-- a granted store changes one guest word, and with bits on a granted load or store sets bits of others; a fault, a refusal and a call without
-- a value change no guest word; figures change nothing
abbrev pub Keeps : Record → List ℕ → After Reply → Answer → Type 0
Keeps r m e answer.Ok = GuestKept r m e
Keeps r m e (answer.Value v n x) = BitsKept r m e
Keeps r m e (answer.Done n x) = OneWord r m e
Keeps r m e (answer.Faulted y n x) = GuestKept r m e
Keeps r m e (answer.Refused n) = RefusalKept r m e n
Keeps r m e (answer.Figures n x t) = Untouched r m e

-- an opening: granted, it keeps the guest words; refused, it returns a record of zeros and leaves the memory
abbrev pub OpenKeeps : List ℕ → ℕ → ℕ → After Reply → Answer → Type 0
OpenKeeps m h s e answer.Ok = (length e.memory ≡ length m) × (drop (512 * (h + s)) e.memory ≡ drop (512 * (h + s)) m)
OpenKeeps m h s e (answer.Value v n x) = ⊥
OpenKeeps m h s e (answer.Done n x) = ⊥
OpenKeeps m h s e (answer.Faulted y n x) = ⊥
OpenKeeps m h s e (answer.Refused n) = ((n ≡ 1) ⊎ (n ≡ 2)) × (e.result.unit ≡ zeros) × (e.memory ≡ m)
OpenKeeps m h s e (answer.Figures n x t) = ⊥
