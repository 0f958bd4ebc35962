-- What a unit is to the claims, and the claims as demands on any unit. Cangrieb is one such unit; specs/Wrong.antt has others.
-- Assumes nothing.
use Rattle.std.specs.Prelude.{◌≡◌, ℕ, Bool, true, false, List, [], ◌∷◌, T, length}
use Rattle.std.proofs.Math.Option.{Option}
use Rattle.spec.specs.declared.Lookup.{Lookup}
use Rattle.spec.specs.Answer.{Line, line}
use Rattle.spec.specs.Call.{Call, load}
use Rattle.spec.specs.Run.{State, run, after, opened}
use Rattle.spec.specs.Serving.{exits_paid, all_paid}
use Rattle.spec.specs.Quiet.{quiet, quiet_exits}
use Rattle.words.specs.After.{After}
use Rattle.record.specs.declared.Record.{Record}
use Rattle.record.specs.Record.{config_by}
use Rattle.record.specs.Open.{refusal_of}
use Rattle.calls.specs.declared.Reply.{Reply}
use Rattle.calls.specs.Calls.{open_call, call_of}
use Rattle.claims.specs.Run.{guest_area, machine_run, heard_unit}
use Rattle.claims.specs.Plain.{request_at, is_store, plain_walk, AsWalked, Unrefused}
use Rattle.claims.specs.Lookups.{LooksUp}
use Rattle.claims.specs.Counted.{SameWords, HeldOrPlain, SetsNone, counted_of, touched_of}

-- ---- any unit

-- how it is opened on a memory with H host and S shadow frames, a choice of bits and the automatic choice on or off, what it says to a call, and which words the guest has then
pub record MemoryUnit : Type 1 where
  pub Inner : Type 0
  pub opens : List ℕ → ℕ → ℕ → Bool → Bool → Inner
  pub call : Call → Inner → Line × Inner
  pub area : Inner → List ℕ

-- what a unit says at each call of a list, with the guest area after it
unfoldable pub run_by : (u : MemoryUnit) → List Call → u.Inner → List (Line × List ℕ)
run_by u [] s = []
run_by u (x ∷ xs) s = let o : Line × u.Inner = u.call x s in (o.0, u.area o.1) ∷ run_by u xs o.1

-- where it is after them
unfoldable pub after_by : (u : MemoryUnit) → List Call → u.Inner → u.Inner
after_by u [] s = s
after_by u (x ∷ xs) s = after_by u xs (u.call x s).1

-- the specification's state after an opening and a list of calls
abbrev pub specified : List ℕ → ℕ → ℕ → Bool → Bool → List Call → State
specified m h s bits on xs = after xs (opened (config_by (length m) h s bits) on m)

-- demand 3: after every granted opening, on any memory, each line and the guest words after it are those of machine and book
unfoldable pub Demand-3 : MemoryUnit → Type 0
Demand-3 u =
    (m : List ℕ) (h s : ℕ) (bits on : Bool) (xs : List Call) → refusal_of (length m) h s bits ≡ 0
    → run_by u xs (u.opens m h s bits on) ≡ machine_run (run xs (opened (config_by (length m) h s bits) on m))

-- a quiet stretch (document 02, 5): with bits off, after any run its exits add up to the figure
unfoldable pub QuietDay : MemoryUnit → Type 0
QuietDay u =
    (m : List ℕ) (h s : ℕ) (on : Bool) (xs ys : List Call) → refusal_of (length m) h s false ≡ 0 → T (quiet ys (specified m h s false on xs))
    → all_paid exits_paid (run_by u ys (after_by u xs (u.opens m h s false on))) ≡ quiet_exits ys (specified m h s false on xs)

-- the automatic choice is not seen (document 02, 7): after two granted openings that differ in it alone, the same calls are heard alike: each
-- line but for references, exits and a forecast's figures, and the guest words after it
unfoldable pub ChoiceUnseen : MemoryUnit → Type 0
ChoiceUnseen u =
    (m : List ℕ) (h s : ℕ) (bits : Bool) (xs : List Call) → refusal_of (length m) h s bits ≡ 0
    → heard_unit (run_by u xs (u.opens m h s bits true)) ≡ heard_unit (run_by u xs (u.opens m h s bits false))

-- ---- units that have our record and our tables

-- what each call leaves
abbrev pub Calls : Type 0
Calls = Call → Record → List ℕ → After Reply

-- a line, and the record with its memory
abbrev pub told : After Reply → Line × (Record × List ℕ)
told e = (line e.result.answer, (e.result.unit, e.memory))

-- the unit that opens as ours does and answers by that table of calls
abbrev pub unit_by : Calls → MemoryUnit
unit_by f = record {
  Inner = Record × List ℕ;
  opens = λ m h s bits on. (told (open_call m h s bits on)).1;
  call = λ x s. told (f x s.0 s.1);
  area = λ s. guest_area s.0 s.1;
}

-- ours
abbrev pub cangrieb : MemoryUnit
cangrieb = unit_by call_of

-- demand 2: after any run, a load or a store that is not refused comes to what the plain two-level walk over that very memory comes to,
-- the same bytes or the same fault
unfoldable pub Demand-2 : Calls → Type 0
Demand-2 f =
    (m : List ℕ) (h s : ℕ) (bits on : Bool) (xs : List Call) → refusal_of (length m) h s bits ≡ 0 → (a w : ℕ) (v : Option ℕ)
    → let e : Record × List ℕ = after_by (unit_by f) xs ((unit_by f).opens m h s bits on) in
    Unrefused (f (request_at a w v) e.0 e.1).result.answer → AsWalked e.0 e.1 a w v (f (request_at a w v) e.0 e.1) (plain_walk e.0 e.1 (is_store v) a)

-- words counted: after any run, a load whose path is held or whose depth is N + 1, and which on a held path sets no bit, says the same on
-- any memory that has the words which it counts and the word around the bytes that it loads, whatever the others are
unfoldable pub WordsCounted : Calls → Type 0
WordsCounted f =
    (m : List ℕ) (h s : ℕ) (bits on : Bool) (xs : List Call) → refusal_of (length m) h s bits ≡ 0 → (a w : ℕ)
    → let e : Record × List ℕ = after_by (unit_by f) xs ((unit_by f).opens m h s bits on) in
    HeldOrPlain (specified m h s bits on xs).config (specified m h s bits on xs).machine (specified m h s bits on xs).book false a → SetsNone e.0 e.1 false a
    → (n : List ℕ) → length n ≡ length e.1 → SameWords e.1 n (counted_of e.0 e.1 false a) → SameWords e.1 n (touched_of e.0 e.1 false a)
    → line (f (load a w) e.0 n).result.answer ≡ line (f (load a w) e.0 e.1).result.answer

-- ---- the search among the marks

-- what it finds for an address in a record
abbrev pub Searches : Type 0
Searches = Record → ℕ → Lookup

-- lookups: in the record after any run it finds the depth by the book's marks, and reads what it should
unfoldable pub Lookups : Searches → Type 0
Lookups f =
    (m : List ℕ) (h s : ℕ) (bits on : Bool) (xs : List Call) → refusal_of (length m) h s bits ≡ 0 → (a : ℕ)
    → let r : Record = (after_by cangrieb xs (cangrieb.opens m h s bits on)).0 in
    LooksUp (config_by (length m) h s bits) (specified m h s bits on xs).book r a (f r a)
