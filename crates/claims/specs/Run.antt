-- A run of the unit: an opening and a list of calls, by the very definitions that the unit's contracts cite.
-- Assumes nothing.
use Rattle.std.specs.Prelude.{◌≢◌, ℕ, ◌*◌, max, Bool, List, [], ◌∷◌, drop}
use Rattle.spec.specs.Config.{guest_base}
use Rattle.spec.specs.Answer as say
use Rattle.spec.specs.Answer.{Line, line}
use Rattle.spec.specs.Call.{Call}
use Rattle.spec.specs.Run.{State}
use Rattle.spec.specs.Heard.{bare}
use Rattle.record.specs.declared.Record.{Record}
use Rattle.record.specs.Record.{config_of}
use Rattle.calls.specs.Calls.{open_call, call_of}
use Rattle.words.specs.After.{After}
use Rattle.calls.specs.declared.Reply.{Reply}

-- the guest area of a memory
abbrev pub guest_area : Record → List ℕ → List ℕ
guest_area r m = drop (512 * guest_base (config_of r)) m

-- what the unit says at each call of a list, with the guest area after it
unfoldable pub unit_run : List Call → Record → List ℕ → List (Line × List ℕ)
unit_run [] r m = []
unit_run (x ∷ xs) r m =
    let e : After Reply = call_of x r m in
    (line e.result.answer, guest_area e.result.unit e.memory) ∷ unit_run xs e.result.unit e.memory

-- the record and the memory after a list of calls
unfoldable pub unit_after : List Call → Record → List ℕ → After Reply → After Reply
unit_after [] r m e = e
unit_after (x ∷ xs) r m e = unit_after xs (call_of x r m).result.unit (call_of x r m).memory (call_of x r m)

-- the greatest number of shadow tables in use, by the record's own count: before a list of calls and after each
unfoldable pub tables_run : List Call → Record → List ℕ → ℕ
tables_run [] r m = r.pools.shadow.used
tables_run (x ∷ xs) r m = max r.pools.shadow.used (tables_run xs (call_of x r m).result.unit (call_of x r m).memory)

-- after an opening, with its choice of bits and the automatic one, and a list of calls
abbrev pub run_of : List ℕ → ℕ → ℕ → Bool → Bool → List Call → After Reply
run_of m h s bits on xs = let e : After Reply = open_call m h s bits on in unit_after xs e.result.unit e.memory e

-- the specification's run as it is compared: each line with the machine's guest area after it
abbrev pub machine_run : List (Line × State) → List (Line × List ℕ)
machine_run [] = []
machine_run (o ∷ os) = (o.0, o.1.machine.area) ∷ machine_run os

-- what is heard of such a run: each line but for references, exits and a forecast's figures
abbrev pub heard_unit : List (Line × List ℕ) → List (Line × List ℕ)
heard_unit [] = []
heard_unit (o ∷ os) = (bare o.0, o.1) ∷ heard_unit os

-- ---- refusals of a run

abbrev pub Neither : ℕ → Type 0
Neither n = (n ≢ 3) × (n ≢ 11)

-- not refused with 3 or 11
abbrev pub Covered : Line → Type 0
Covered say.ok = Unit {0}
Covered (say.value v r e) = Unit {0}
Covered (say.done r e) = Unit {0}
Covered (say.fault x l g r e) = Unit {0}
Covered (say.no n) = Neither n
Covered (say.figures r e t) = Unit {0}
