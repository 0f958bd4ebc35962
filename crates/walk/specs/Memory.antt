-- The plain walk over the words of the lent memory, damaged memory too: the specification's own walk, answered by memory.
-- Assumes nothing.
use Rattle.std.specs.Prelude.{ℕ, pred, ◌+◌, Bool, true, not, ◌&&◌, ◌||◌, cond, List, [], ◌∷◌, set, replicate}
use Rattle.std.proofs.Math.Option.{Option, none, some}
use Rattle.spec.specs.declared.Fault.{Fault}
use Rattle.spec.specs.declared.Fault.TheVariants.{Absent, Malformed, Protected, HostAbsent, HostReadOnly}
use Rattle.spec.specs.Config.{Config}
use Rattle.spec.specs.Entry.{present, writable, malformed}
use Rattle.spec.specs.Walk.{Walk, World, Result, granted, failed, trace}
use Rattle.spec.specs.Plain.{Place, Lead, to, into, span, is_span, hosted, entry_lead, span_lead, turn, levels, walk}
use Rattle.entry.specs.declared.HostPhysical.{HostPhysical}
use Rattle.words.specs.Words.{word_in}
use Rattle.layout.specs.declared.HostWalk.{HostWalk}
use Rattle.layout.specs.declared.HostWalk.TheVariants as host
use Rattle.layout.specs.Layout.{page}
use Rattle.host.specs.Walk.{host_walk_of}
use Rattle.walk.specs.declared.Led.{Led}
use Rattle.walk.specs.declared.Led.TheVariants as led
use Rattle.walk.specs.declared.Trail.{Trail}
use Rattle.walk.specs.declared.Walked.{Walked}
use Rattle.walk.specs.declared.Walked.TheVariants as walked

-- ---- ranges

-- the guest frames that a span can begin with, whatever the memory says, and the numbers of places
abbrev pub span_room : ℕ
span_room = 1125899906842624

abbrev pub place_room : ℕ
place_room = 562949953421312

-- ---- memory answers

abbrev pub place_of : HostWalk → Option Place
place_of (host.Found p w) = some (p.0, w)
place_of (host.Absent n) = none
place_of host.Damaged = none

abbrev pub reads_of : Config → HostWalk → ℕ
reads_of c (host.Found p w) = c.levels
reads_of c (host.Absent n) = n
reads_of c host.Damaged = 0

-- host walks by the host tables, from the entry of the top one, and the words as they stand. A host walk that meets damage ends the walk as one that finds
-- nothing does; which of the two it was, `walked_by` tells
unfoldable pub memory_world : Config → ℕ → List ℕ → World
memory_world c top m = record {
  host_at = λ g. place_of (host_walk_of c top m g);
  host_cost = λ g. reads_of c (host_walk_of c top m g);
  word_at = word_in m;
}

-- ---- what the code answers

abbrev pub absent_by : HostWalk → Walked → Walked
absent_by (host.Found p w) r = r
absent_by (host.Absent n) r = r
absent_by host.Damaged r = walked.Damaged

-- a result with n words read
abbrev pub walked_by : Config → ℕ → List ℕ → Result Fault Place → ℕ → Walked
walked_by c top m (granted p) n = walked.Arrived p.1 (page p.0) n
walked_by c top m (failed (Absent l)) n = walked.Faulted (Absent l) n
walked_by c top m (failed (Malformed l)) n = walked.Faulted (Malformed l) n
walked_by c top m (failed (Protected l)) n = walked.Faulted (Protected l) n
walked_by c top m (failed (HostAbsent g)) n = absent_by (host_walk_of c top m g) (walked.Faulted (HostAbsent g) n)
walked_by c top m (failed (HostReadOnly g)) n = walked.Faulted (HostReadOnly g) n

-- a walk over memory, after n words read
unfoldable pub walked_of : Config → ℕ → List ℕ → ℕ → Walk Fault Place → Walked
walked_of c top m n p = walked_by c top m (trace (memory_world c top m) p).result (n + (trace (memory_world c top m) p).count)

-- into a large page, to the part that begins with guest frame g
unfoldable pub into_of : Config → Bool → ℕ → ℕ → Bool → ℕ → Walked
into_of c st level g right n = cond (not st || right) (walked.Arrived right (page (span c g)) n) (walked.Faulted (Protected level) n)

-- a page is found: a store meets W unless the page is mapped writable
unfoldable pub found_of : Bool → ℕ → HostPhysical → Bool → Bool → ℕ → Walked
found_of st g p writable right n =
    cond (not st || writable) (walked.Arrived (right && writable) p n) (walked.Faulted (HostReadOnly g) n)

-- where a level leads, with the right and the words read by then
abbrev pub led_by : Bool → ℕ → Lead → Led
led_by right n (to g) = led.To right (record { 0 = g }) n
led_by right n (into g) = led.Into right (record { 0 = g }) n

-- by the entry e of a table
unfoldable pub led_by_entry : Config → ℕ → Bool → ℕ → ℕ → Led
led_by_entry c level right n e =
    cond (present e)
    (cond (malformed c level e) (led.Stopped (Malformed level) n) (led_by (right && writable e) n (entry_lead level e)))
    (led.Stopped (Absent level) n)

-- by index i of the table or of the span t, after n words read
unfoldable pub led_of : Config → List ℕ → ℕ → ℕ → ℕ → Bool → ℕ → Led
led_of c m level t i right n =
    cond (is_span c t) (led_by right n (span_lead c level t i)) (led_by_entry c level right (n + 1) (word_in m t i))

-- ---- the tables that a walk came through

-- frames written into a list from place d on
unfoldable pub noted : List ℕ → ℕ → List ℕ → List ℕ
noted ts d [] = ts
noted ts d (f ∷ fs) = noted (set ts d f) (d + 1) fs

abbrev pub passed_by : Result Fault Place → (Place → List ℕ) → List ℕ
passed_by (granted r) f = f r
passed_by (failed x) f = []

-- the places that a walk of guest tables goes through, one for each index as far as it comes: host frames of guest tables, then spans
unfoldable pub passed : Config → ℕ → List ℕ → Bool → ℕ → ℕ → Bool → List ℕ → List ℕ
passed c top m st n t w [] = []
passed c top m st n t w (i ∷ is) =
    t ∷ passed_by (trace (memory_world c top m) (turn c st n t i w)).result (λ r. passed c top m st (pred n) r.0 r.1 is)

-- the same from the root
unfoldable pub passed_root : Config → ℕ → List ℕ → Bool → ℕ → List ℕ → List ℕ
passed_root c top m st root is = passed_by (trace (memory_world c top m) (hosted root)).result (λ r. passed c top m st c.levels r.0 true is)

-- what the code hands out, after k words read: where the walk came to, and those places beside the d that ts holds
unfoldable pub trail_from : Config → ℕ → List ℕ → List ℕ → ℕ → ℕ → Bool → ℕ → ℕ → Bool → List ℕ → Trail
trail_from c top m ts d k st n t w is = record { walked = walked_of c top m k (levels c st n t w is); tables = noted ts d (passed c top m st n t w is) }

-- a whole walk's: none before it
abbrev pub trail_of : Config → ℕ → List ℕ → ℕ → Bool → ℕ → ℕ → Bool → List ℕ → Trail
trail_of c top m k st n t w is = trail_from c top m (replicate 8 0) 0 k st n t w is

unfoldable pub root_trail : Config → ℕ → List ℕ → Bool → ℕ → List ℕ → Trail
root_trail c top m st root is = record { walked = walked_of c top m 0 (walk c st root is); tables = noted (replicate 8 0) 0 (passed_root c top m st root is) }
