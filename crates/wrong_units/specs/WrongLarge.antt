-- Units that misread large pages (document 02, 8). Three say what a load or a store comes to by a walk with one change in a level; one takes
-- the depth of a load from one level too low; one keeps what it learned of a large page for the whole of it.
-- Assumes nothing.
use Rattle.std.specs.Prelude.{ℕ, pred, ◌+◌, ◌-◌, ◌%◌, Bool, true, false, not, ◌&&◌, cond, List, [], ◌∷◌, eqb, ltb, length}
use Rattle.std.proofs.Math.Option.{Option, none, some}
use Rattle.spec.specs.declared.Fault.{Fault}
use Rattle.spec.specs.declared.Fault.TheVariants.{Absent, Malformed}
use Rattle.spec.specs.Answer as say
use Rattle.spec.specs.Answer.{Line}
use Rattle.spec.specs.Config.{Config}
use Rattle.spec.specs.Entry.{bit_set, present, writable, frame_of, large, frames_below, malformed, page_of, word_of}
use Rattle.spec.specs.Bytes.{bytes_at}
use Rattle.spec.specs.Prefix.{same}
use Rattle.spec.specs.Walk.{Walk, done, word, ◌>>=◌, ◌>>◌, Trace, Result, granted, failed, trace}
use Rattle.spec.specs.Plain.{Place, Lead, to, into, span, is_span, first_frame, must, hosted, next, entry_lead, span_lead, onward, upper, shadow_part}
use Rattle.spec.specs.Bits.{owes, judged, bits_set}
use Rattle.spec.specs.Machine.{Machine, world, word_in}
use Rattle.spec.specs.Book.{depth}
use Rattle.spec.specs.Call.{Call, load, map, unmap, address_indexes, plain, Outcome, access}
use Rattle.spec.specs.Count.{depth_by, request, windowed, book_step}
use Rattle.spec.specs.Refusal.{refusal}
use Rattle.spec.specs.Run.{State, line_of, step, opened}
use Rattle.record.specs.Record.{config_by}
use Rattle.wrong_units.specs.Unit.{MemoryUnit}
use Rattle.wrong_units.specs.Changed.{on_loads, on_stores, on_maps, on_unmaps}
use Rattle.wrong_units.specs.WrongChoice.{keeping}

-- ---- machine and book, and what is said changed

abbrev pub Says : Type 0
Says = Call → State → Line → Line

unfoldable pub say_step : Says → Call → State → Line × State
say_step says x s = let o : Line × State = step x s in (says x s o.0, o.1)

abbrev pub saying : Says → MemoryUnit
saying says = record {
  Inner = State;
  opens = λ m h s bits on. opened (config_by (length m) h s bits) on m;
  call = say_step says;
  area = λ s. s.machine.area;
}

-- another outcome with the counts of that line
abbrev pub retold : Outcome → Line → Line
retold o say.ok = say.ok
retold o (say.value v n x) = line_of o n x
retold o (say.done n x) = line_of o n x
retold o (say.fault k l g n x) = line_of o n x
retold o (say.no n) = say.no n
retold o (say.figures n x t) = say.figures n x t

-- ---- walks, with a level's parts as arguments: which entries are malformed, where one leads, and how the walk goes on from there

abbrev pub Turns : Type 0
Turns = Config → Bool → ℕ → ℕ → ℕ → Bool → Walk Fault Place

abbrev pub entry_by : (Config → ℕ → ℕ → Bool) → Config → ℕ → ℕ → ℕ → Walk Fault ℕ
entry_by bad c level t i = word t i λ e. do
  must (present e) (Absent level)
  must (not (bad c level e)) (Malformed level)
  done e

abbrev pub turn_by : (Config → ℕ → ℕ → Bool) → (ℕ → ℕ → Lead) → (Config → Bool → ℕ → Lead → Bool → Walk Fault Place) → Turns
turn_by bad lead on c store level t i w =
    cond (is_span c t)
    (on c store level (span_lead c level t i) w)
    (entry_by bad c level t i >>= λ e. on c store level (lead level e) (w && writable e))

unfoldable pub levels_by : Turns → Config → Bool → ℕ → ℕ → Bool → List ℕ → Walk Fault Place
levels_by turns c store level t w [] = done (t, w)
levels_by turns c store level t w (i ∷ is) = do
  r ← turns c store level t i w
  levels_by turns c store (pred level) r.0 r.1 is

unfoldable pub walk_by : Turns → Config → Bool → ℕ → List ℕ → Walk Fault Place
walk_by turns c store root is = do
  r ← hosted root
  levels_by turns c store c.levels r.0 true is

abbrev pub asked_by : Turns → Config → Machine → Bool → ℕ → ℕ → Option ℕ → Outcome
asked_by turns c m store a w v =
    let x : Trace Fault Place = trace (world c m) (walk_by turns c store m.root (address_indexes c a)) in
    (access c m (bits_set c store m x) a w v (judged (owes c (world c m) store x) x.result)).0

abbrev pub walking : Turns → MemoryUnit
walking turns = saying (on_loads (λ a w s l. retold (asked_by turns s.config s.machine false a w none) l)
    (on_stores (λ a w v s l. retold (asked_by turns s.config s.machine true a w (some v)) l) (λ x s l. l)))

-- bit 7 ends the walk at level 4 too
abbrev pub large_to4 : ℕ → ℕ → Bool
large_to4 level e = ltb 1 level && bit_set 7 e

unfoldable pub ends_at_four : MemoryUnit
ends_at_four = walking (turn_by
    (λ c level e. cond (large_to4 level e) (not (eqb (frame_of e % frames_below level) 0)) (malformed c level e))
    (λ level e. cond (large_to4 level e) (into (frame_of e)) (to (frame_of e)))
    onward)

-- frame bits below the page size are ignored
unfoldable pub low_bits_ignored : MemoryUnit
low_bits_ignored = walking (turn_by
    (λ c level e. cond (large level e) false (malformed c level e))
    (λ level e. cond (large level e) (into (frame_of e - frame_of e % frames_below level)) (to (frame_of e)))
    onward)

-- P is judged at level 1, also for a large page
unfoldable pub protected_at_one : MemoryUnit
protected_at_one = walking (turn_by malformed entry_lead late)
  where
    late : Config → Bool → ℕ → Lead → Bool → Walk Fault Place
    late c store level (to g) w = next store (eqb level 1) g w
    late c store level (into g) w = done (span c g, w)

-- ---- the depth of a load: that of the marks, or 0 where its walk is in a large page after one index more than their level leaves. A large
-- page under a mark of its own level then has depth 0

unfoldable pub shallow : MemoryUnit
shallow = keeping (λ c. on_loads (λ a w m b.
    let d : ℕ = depth b.marks (address_indexes c a) in
    windowed c none (request c m b false a (depth_by c d (trace (world c m) (shadow_part c false (pred d) m.root (address_indexes c a))).result))) (book_step c)) refusal

-- ---- the first load of a 2 MiB page fills an entry for the whole page, as if its host frames stood in a row; it goes with the mapping by which
-- it was filled, and by any call but a load, a map or an unmap

pub record Whole : Type 0 where
  pub path : List ℕ
  pub guest : ℕ
  pub first : ℕ

abbrev last_index : ℕ → ℕ
last_index a = page_of a % 512

abbrev filled_by : Config → Machine → ℕ → Result Fault Place → Result Fault Place → Option Whole
filled_by c m a (granted p) (granted q) =
    cond (is_span c p.0)
    (some (record { path = upper c 1 (address_indexes c a); guest = first_frame c p.0 + last_index a; first = q.0 - last_index a }))
    none
filled_by c m a (granted p) (failed x) = none
filled_by c m a (failed x) y = none

abbrev whole_of : State → ℕ → Option Whole
whole_of s a =
    let c : Config = s.config in
    let m : Machine = s.machine in
    filled_by c m a (trace (world c m) (shadow_part c false 1 m.root (address_indexes c a))).result (plain c m false a).result

abbrev value_in : ℕ → Line → Line
value_in u say.ok = say.ok
value_in u (say.value v n x) = say.value u n x
value_in u (say.done n x) = say.done n x
value_in u (say.fault k l g n x) = say.fault k l g n x
value_in u (say.no n) = say.no n
value_in u (say.figures n x t) = say.figures n x t

abbrev load_whole : ℕ → ℕ → State → Option Whole → Line × (State × Option Whole)
load_whole a w s none = let o : Line × State = step (load a w) s in (o.0, (o.1, whole_of s a))
load_whole a w s (some x) =
    let o : Line × State = step (load a w) s in
    let u : ℕ = bytes_at a w (word_in s.config s.machine (x.first + last_index a) (word_of a)) in
    (cond (same x.path (upper s.config 1 (address_indexes s.config a))) (value_in u o.0) o.0, (o.1, some x))

abbrev without : ℕ → Option Whole → Option Whole
without g none = none
without g (some x) = cond (eqb g x.guest) none (some x)

unfoldable pub whole_step : Call → State × Option Whole → Line × (State × Option Whole)
whole_step = on_loads (λ a w s. load_whole a w s.0 s.1)
    (on_maps (λ g f w s. let o : Line × State = step (map g f w) s.0 in (o.0, (o.1, without g s.1)))
    (on_unmaps (λ g s. let o : Line × State = step (unmap g) s.0 in (o.0, (o.1, without g s.1)))
    (λ x s. let o : Line × State = step x s.0 in (o.0, (o.1, none)))))

abbrev pub whole_page : MemoryUnit
whole_page = record {
  Inner = State × Option Whole;
  opens = λ m h s bits on. (opened (config_by (length m) h s bits) on m, none);
  call = whole_step;
  area = λ s. s.0.machine.area;
}
