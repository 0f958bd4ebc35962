-- What demand 2 says of a load or a store: granted at the bytes of the plain two-level walk, or with its fault; and how many words it read.
-- Assumes nothing.
use Rattle.std.specs.Prelude.{◌≡◌, ℕ, suc, ◌+◌, ◌*◌, ◌≤◌, Bool, true, false, List, length, set}
use Rattle.std.proofs.Math.Option.{Option, none, some}
use Rattle.spec.specs.declared.Fault.{Fault}
use Rattle.spec.specs.declared.Fault.TheVariants.{HostReadOnly}
use Rattle.spec.specs.declared.Answer.{Answer}
use Rattle.spec.specs.declared.Answer.TheVariants as answer
use Rattle.spec.specs.Answer as say
use Rattle.spec.specs.Answer.{Line, line, fault_line}
use Rattle.spec.specs.Entry.{word_of}
use Rattle.spec.specs.Bytes.{bytes_at, with_bytes}
use Rattle.spec.specs.Walk.{trace}
use Rattle.spec.specs.Bits.{owes}
use Rattle.spec.specs.Config.{Config}
use Rattle.spec.specs.Machine.{place}
use Rattle.spec.specs.Call.{Call, load, store, plain}
use Rattle.words.specs.Words as words
use Rattle.walk.specs.declared.Walked.{Walked}
use Rattle.walk.specs.declared.Walked.TheVariants as walked
use Rattle.walk.specs.Memory.{memory_world, walked_of}
use Rattle.translate.specs.Translate.{whole}
use Rattle.request.specs.Access.{settled_of}
use Rattle.record.specs.declared.Record.{Record}
use Rattle.record.specs.Record.{config_of}
use Rattle.calls.specs.Calls.{host_top, root_of, request_depth}
use Rattle.spec.specs.Count as count
use Rattle.spec.specs.Count.{granted_reads}
use Rattle.spec.specs.Run.{State}
use Rattle.claims.specs.Run.{guest_area}
use Rattle.words.specs.After.{After}
use Rattle.calls.specs.declared.Reply.{Reply}

-- ---- a load of w bytes, or a store of the low w bytes of a value
abbrev pub is_store : Option ℕ → Bool
is_store none = false
is_store (some v) = true

abbrev pub request_at : ℕ → ℕ → Option ℕ → Call
request_at a w none = load a w
request_at a w (some v) = store a w v

-- what it says with n references and x exits where it is granted and its bytes lie in the word e
abbrev pub granted_line : ℕ → ℕ → Option ℕ → ℕ → ℕ → ℕ → Line
granted_line a w none e n x = say.value (bytes_at a w e) n x
granted_line a w (some v) e n x = say.done n x

-- what it makes of the guest area, in the word e at a place of it
abbrev pub touched : ℕ → ℕ → Option ℕ → ℕ → List ℕ → ℕ → List ℕ
touched a w none e area k = area
touched a w (some v) e area k = set area k (with_bytes a w v e)

-- W for a bit that is owed comes after every other check of the walk
abbrev pub judged_walk : Option (ℕ × ℕ) → Walked → Walked
judged_walk none x = x
judged_walk (some o) (walked.Arrived y t n) = walked.Faulted (HostReadOnly o.1) n
judged_walk (some o) (walked.Faulted x n) = walked.Faulted x n
judged_walk (some o) walked.Damaged = walked.Damaged

-- the plain two-level walk of a over the guest's and the host's tables as they stand in the memory
abbrev pub plain_walk : Record → List ℕ → Bool → ℕ → Walked
plain_walk r m st a =
    let c = config_of r in
    let w = memory_world c (host_top r) m in
    judged_walk (owes c w st (trace w (whole c st (root_of r) a))) (walked_of c (host_top r) m 0 (whole c st (root_of r) a))

-- the memory with the bits of that walk, where bits are on
abbrev pub with_own : Record → List ℕ → Bool → ℕ → List ℕ
with_own r m st a = settled_of (config_of r) (host_top r) (root_of r) st a (config_of r).bits m

-- the words that it reads where it is granted, by its depth and the guest entries on its way: with four levels 4 + 4·d where there is no large page
abbrev pub reads_of : Record → List ℕ → Bool → ℕ → ℕ
reads_of r m st a =
    granted_reads (config_of r) (request_depth r m a) (length (trace (memory_world (config_of r) (host_top r) m) (whole (config_of r) st (root_of r) a)).reads)

-- the same on machine and book
abbrev pub reads_on : Config → State → Bool → ℕ → ℕ
reads_on c s st a = granted_reads c (count.request_depth c s.machine s.book a) (length (plain c s.machine st a).reads)

-- e is what a request leaves that is granted at its bytes of host frame t, on the memory with its own bits. It read at most 24 words with four
-- levels
pub record Granted (r : Record) (m : List ℕ) (a w : ℕ) (v : Option ℕ) (e : After Reply) (t : ℕ) : Type 0 where
  pub exits : ℕ
  pub says : line e.result.answer ≡ granted_line a w v (words.word_in (with_own r m (is_store v) a) t (word_of a)) (reads_of r m (is_store v) a) exits
  pub most : reads_of r m (is_store v) a ≤ (config_of r).levels + (config_of r).levels * suc (config_of r).levels
  pub area : guest_area r e.memory ≡ touched a w v (words.word_in (with_own r m (is_store v) a) t (word_of a)) (guest_area r (with_own r m (is_store v) a)) (place (config_of r) t (word_of a))

-- and one that meets the fault y
pub record Faulted (r : Record) (m : List ℕ) (e : After Reply) (y : Fault) : Type 0 where
  pub references : ℕ
  pub exits : ℕ
  pub says : line e.result.answer ≡ fault_line y references exits
  pub area : guest_area r e.memory ≡ guest_area r m

-- by what the plain walk came to
abbrev pub AsWalked : Record → List ℕ → ℕ → ℕ → Option ℕ → After Reply → Walked → Type 0
AsWalked r m a w v e (walked.Arrived y t n) = Granted r m a w v e t.0
AsWalked r m a w v e (walked.Faulted y n) = Faulted r m e y
AsWalked r m a w v e walked.Damaged = ⊥

abbrev pub Unrefused : Answer → Type 0
Unrefused answer.Ok = Unit {0}
Unrefused (answer.Value v n x) = Unit {0}
Unrefused (answer.Done n x) = Unit {0}
Unrefused (answer.Faulted y n x) = Unit {0}
Unrefused (answer.Refused n) = ⊥
Unrefused (answer.Figures n x t) = Unit {0}

-- ---- words read

-- a request is granted
abbrev pub Grants : Answer → Type 0
Grants answer.Ok = ⊥
Grants (answer.Value w n x) = Unit {0}
Grants (answer.Done n x) = Unit {0}
Grants (answer.Faulted y n x) = ⊥
Grants (answer.Refused n) = ⊥
Grants (answer.Figures n x t) = ⊥

-- a request is granted, and n table words were read
abbrev pub GrantedWith : ℕ → Answer → Type 0
GrantedWith n answer.Ok = ⊥
GrantedWith n (answer.Value w k x) = k ≡ n
GrantedWith n (answer.Done k x) = k ≡ n
GrantedWith n (answer.Faulted y k x) = ⊥
GrantedWith n (answer.Refused k) = ⊥
GrantedWith n (answer.Figures k x t) = ⊥
