-- Units that misread accessed and dirty bits (document 02, 6). As in specs/Wrong.antt each is ours with one change.
-- Assumes nothing.
use Rattle.std.specs.Prelude.{ℕ, suc, Bool, true, false, ◌&&◌, ◌||◌, cond, List, [], ◌∷◌, eqb, leb, ltb, length, replicate}
use Rattle.std.proofs.Math.Option.{Option, none, some}
use Rattle.spec.specs.declared.Fault.{Fault}
use Rattle.spec.specs.declared.Fault.TheVariants.{HostReadOnly}
use Rattle.spec.specs.declared.Answer.{Answer}
use Rattle.spec.specs.declared.Answer.TheVariants as answer
use Rattle.spec.specs.Config.{Config}
use Rattle.spec.specs.Entry.{word_of}
use Rattle.spec.specs.Bytes.{bytes_at}
use Rattle.spec.specs.Walk.{World, Trace, trace}
use Rattle.spec.specs.Plain.{Place, is_span}
use Rattle.spec.specs.Bits.{has_bits, with_bits, is_last, may_write, owes}
use Rattle.spec.specs.Refusal.{forecast_room}
use Rattle.spec.specs.Call.{load, store, forecast}
use Rattle.words.specs.After.{After, yields}
use Rattle.words.specs.Words.{word_in, set_in}
use Rattle.layout.specs.declared.HostWalk.{HostWalk}
use Rattle.layout.specs.declared.HostWalk.TheVariants as host
use Rattle.pool.specs.declared.Pool.{Pool}
use Rattle.walk.specs.declared.Walked.{Walked}
use Rattle.walk.specs.declared.Walked.TheVariants as walked
use Rattle.walk.specs.declared.Trail.{Trail}
use Rattle.walk.specs.Memory.{memory_world, walked_of, root_trail}
use Rattle.accessed.specs.Entries.{bits_in}
use Rattle.record.specs.declared.Record.{Record}
use Rattle.record.specs.Record.{config_of}
use Rattle.translate.specs.declared.Held.{Held}
use Rattle.translate.specs.declared.Translated.{Translated}
use Rattle.translate.specs.declared.Verdict.{Verdict}
use Rattle.translate.specs.declared.Verdict.TheVariants as verdict
use Rattle.translate.specs.Translate.{path_indexes, whole, translation, damaged, direct_of, through_of, unshadowed_of, serves_of, found_of, verdict_of, ruled_by}
use Rattle.request.specs.declared.Put.{Put}
use Rattle.request.specs.declared.Served.{Served}
use Rattle.request.specs.Access as access
use Rattle.request.specs.Access.{serving, settled_of, put}
use Rattle.calls.specs.declared.Reply.{Reply}
use Rattle.calls.specs.Calls.{host_top, held_of, root_of, with_held, ended, refused, judged, placed, windowed_by, request_depth, address_ok, translated_of, call_of}
use Rattle.forecast.specs.Forecast.{start}
use Rattle.wrong_units.specs.Unit.{Calls}
use Rattle.wrong_units.specs.Changed.{Does, on_loads, on_stores, on_forecasts}
use Rattle.wrong_units.specs.Wrong.{saying, store_doing, our_step, our_end, list_with}

-- memory as the walks of a record see it
abbrev pub world_of : Record → List ℕ → World
world_of r m = memory_world (config_of r) (host_top r) m

-- the plain walk of a request, whatever it comes to
abbrev pub walk_of : Record → List ℕ → Bool → ℕ → Trace Fault Place
walk_of r m st a = trace (world_of r m) (whole (config_of r) st (root_of r) a)

-- ---- which bits are set. Loads and stores are ours with that as an argument

-- the memory with a request's bits: record, whether it is a store, address, whether bits are to be set, memory
abbrev pub Sets : Type 0
Sets = Record → Bool → ℕ → Bool → List ℕ → List ℕ

abbrev pub our_sets : Sets
our_sets r st a sets m = settled_of (config_of r) (host_top r) (root_of r) st a sets m

unfoldable pub load_setting : Sets → ℕ → ℕ → Does
load_setting set a w r m =
    let o : After Translated = translated_of r m false a in
    placed r m w (address_ok false (config_of r) a w) (windowed_by r (access.load_by (held_of r) a w (set r false a o.result.sets) o o.result.walked))

abbrev pub done_setting : Sets → Record → ℕ → ℕ → ℕ → After Translated → After Served
done_setting set r a w v o = access.store_by (config_of r) (held_of r) a w v (set r true a o.result.sets) o o.result.walked

unfoldable pub store_setting : Sets → ℕ → ℕ → ℕ → Does
store_setting set = store_doing (done_setting set)

abbrev pub setting : Sets → Calls
setting set = on_loads (load_setting set) (on_stores (store_setting set) call_of)

-- none is set
unfoldable pub never_sets : Calls
never_sets = setting (λ r st a sets m. m)

-- they are set though the opening chose none
unfoldable pub always_sets : Calls
always_sets = setting (λ r st a sets m. our_sets r st a true m)

-- a load sets bit 6 too
unfoldable pub dirty_by_loads : Calls
dirty_by_loads = setting (λ r st a sets m. cond sets (bits_in true m (walk_of r m st a).reads) m)

-- a store sets bit 6 at all levels
abbrev pub dirty_in : Bool → List ℕ → List (ℕ × ℕ) → List ℕ
dirty_in st m [] = m
dirty_in st m (x ∷ xs) = dirty_in st (set_in m x.0 x.1 (with_bits st (word_in m x.0 x.1))) xs

unfoldable pub dirty_at_all : Calls
dirty_at_all = setting (λ r st a sets m. cond sets (dirty_in st m (walk_of r m st a).reads) m)

-- only the entry where the walk ends gets its bits
abbrev pub last_in : Bool → List ℕ → List (ℕ × ℕ) → List ℕ
last_in st m [] = m
last_in st m (x ∷ xs) = cond (is_last xs) (set_in m x.0 x.1 (with_bits st (word_in m x.0 x.1))) (last_in st m xs)

unfoldable pub last_only : Calls
last_only = setting (λ r st a sets m. cond sets (last_in st m (walk_of r m st a).reads) m)

-- ---- when they are set

-- a fault sets those of the entries that its walk read
abbrev pub on_fault : Answer → List ℕ → List ℕ → List ℕ
on_fault answer.Ok set m = m
on_fault (answer.Value v n e) set m = m
on_fault (answer.Done n e) set m = m
on_fault (answer.Faulted x n e) set m = set
on_fault (answer.Refused n) set m = m
on_fault (answer.Figures n e t) set m = m

abbrev pub load_faulting : ℕ → ℕ → Does
load_faulting a w r m =
    let e : After Reply = call_of (load a w) r m in
    ended e.result.unit e.result.answer (on_fault e.result.answer (bits_in false e.memory (walk_of r m false a).reads) e.memory)

unfoldable pub sets_on_fault : Calls
sets_on_fault = on_loads load_faulting call_of

-- the word is loaded before the bits are set
abbrev pub late_by : Held → ℕ → ℕ → (List ℕ → List ℕ) → After Translated → Walked → After Served
late_by h a w set o (walked.Arrived y t n) =
    serving o.result.held (answer.Value (bytes_at a w (word_in o.memory t.0 (word_of a))) n o.result.exits) (set o.memory)
late_by h a w set o (walked.Faulted x n) = serving o.result.held (answer.Faulted x n o.result.exits) o.memory
late_by h a w set o walked.Damaged = access.refused h 11 o.memory

abbrev pub load_late : ℕ → ℕ → Does
load_late a w r m =
    let o : After Translated = translated_of r m false a in
    placed r m w (address_ok false (config_of r) a w) (windowed_by r (late_by (held_of r) a w (our_sets r false a o.result.sets) o o.result.walked))

unfoldable pub sets_after : Calls
sets_after = on_loads load_late call_of

-- ---- held paths

-- a load's own bit writes drop what a store to the word would drop. m: the memory before it, k: after it
abbrev pub drop_changed : Config → List ℕ → List ℕ → Pool → List (ℕ × ℕ) → After Put
drop_changed c m k p [] = put p 0 true k
drop_changed c m k p (x ∷ xs) =
    let s : After Put = access.dropped_of c k p x.0 x.1 in
    cond (eqb (word_in m x.0 x.1) (word_in k x.0 x.1)) (drop_changed c m k p xs) (drop_changed c m s.memory s.result.pool xs)

abbrev pub own_dropped : Record → List ℕ → ℕ → After Reply → After Reply
own_dropped r m a e =
    let s : After Put = drop_changed (config_of r) m e.memory e.result.unit.pools.shadow (walk_of r m false a).reads in
    ended (with_held e.result.unit (record { pool = s.result.pool; frame = e.result.unit.guest.held })) e.result.answer s.memory

unfoldable pub bits_drop : Calls
bits_drop = on_loads (λ a w r m. own_dropped r m a (call_of (load a w) r m)) call_of

-- a translation is ours with what a request does past its shadow part as an argument
abbrev pub Arrives : Type 0
Arrives = Config → ℕ → List ℕ → Held → ℕ → List ℕ → Bool → ℕ → ℕ → ℕ → ℕ → Bool → After Translated

abbrev pub missed_as : Arrives → Config → ℕ → List ℕ → Held → ℕ → Bool → ℕ → ℕ → List ℕ → Walked → After Translated
missed_as arrives c ht m h root st a d gs (walked.Arrived w t n) = cond (is_span c t.0) (damaged h m) (arrives c ht m h root gs st a d n t.0 w)
missed_as arrives c ht m h root st a d gs (walked.Faulted x n) = yields (translation h 1 (walked.Faulted x n) false) m
missed_as arrives c ht m h root st a d gs walked.Damaged = damaged h m

abbrev pub missed_with : Arrives → Config → ℕ → List ℕ → Held → ℕ → Bool → ℕ → ℕ → After Translated
missed_with arrives c ht m h root st a d =
    let r : Trail = root_trail c ht m st root (path_indexes c d a) in
    missed_as arrives c ht m h root st a d r.tables r.walked

abbrev pub found_as : Arrives → Config → ℕ → List ℕ → Held → ℕ → Bool → ℕ → ℕ → HostWalk → After Translated
found_as arrives c ht m h root st a d (host.Found t w) =
    cond (serves_of st d w) (yields (through_of c ht m h root st a d t.0 w) m) (missed_with arrives c ht m h root st a d)
found_as arrives c ht m h root st a d (host.Absent n) = missed_with arrives c ht m h root st a d
found_as arrives c ht m h root st a d host.Damaged = damaged h m

abbrev pub translate_with : Arrives → Config → ℕ → List ℕ → Held → ℕ → Bool → ℕ → ℕ → After Translated
translate_with arrives c ht m h root st a d =
    cond (ltb c.levels d) (yields (unshadowed_of c ht m h root st a d) m) (found_as arrives c ht m h root st a d (found_of c m h a d))

unfoldable pub load_arriving : Arrives → ℕ → ℕ → Does
load_arriving arrives a w r m =
    let o : After Translated = translate_with arrives (config_of r) (host_top r) m (held_of r) (root_of r) false a (request_depth r m a) in
    placed r m w (address_ok false (config_of r) a w) (windowed_by r (access.load_by (held_of r) a w (our_sets r false a o.result.sets) o o.result.walked))

-- a unit that gives another verdict past the shadow part, from whether the path may be written through, where the walk came to and ours
unfoldable pub arrive_by : (Bool → Walked → Verdict → Verdict) → Arrives
arrive_by rule c ht m h root gs st a d n t w =
    let r = direct_of c ht m st a d t w in
    ruled_by c m h gs a d t r (rule w r (verdict_of c ht m root gs st a d n w r))

-- a fault past the shadow part fills the path too, as with bits off
abbrev pub fill_anyway : Bool → Walked → Verdict → Verdict
fill_anyway w (walked.Arrived y t n) v = v
fill_anyway w (walked.Faulted x n) v = verdict.Fill w false
fill_anyway w walked.Damaged v = v

unfoldable pub faults_fill : Calls
faults_fill = on_loads (load_arriving (arrive_by fill_anyway)) call_of

-- the path that a load fills lets stores pass, also at depth 0 and if the entry where its walk ends is not dirty
abbrev pub passing : Bool → Walked → Verdict → Verdict
passing w r (verdict.Fill lets sets) = verdict.Fill w sets
passing w r (verdict.End x n e) = verdict.End x n e
passing w r verdict.Damaged = verdict.Damaged

unfoldable pub stores_pass : Calls
stores_pass = on_loads (load_arriving (arrive_by passing)) call_of

-- ---- W for a bit

-- it comes before every other fault
abbrev pub hastened : Option (ℕ × ℕ) → Answer → Answer
hastened none x = x
hastened (some o) answer.Ok = answer.Ok
hastened (some o) (answer.Value v n e) = answer.Value v n e
hastened (some o) (answer.Done n e) = answer.Done n e
hastened (some o) (answer.Faulted x n e) = answer.Faulted (HostReadOnly o.1) n e
hastened (some o) (answer.Refused n) = answer.Refused n
hastened (some o) (answer.Figures n e t) = answer.Figures n e t

abbrev pub store_hastened : ℕ → ℕ → ℕ → Does
store_hastened a w v r m = saying (hastened (owes (config_of r) (world_of r m) true (walk_of r m true a))) (call_of (store a w v) r m)

unfoldable pub bits_first : Calls
bits_first = on_stores store_hastened call_of

-- each entry is judged when those above it have their bits already
abbrev pub owed_in_turn : Record → Bool → List ℕ → List (ℕ × ℕ) → List ℕ → Option (ℕ × ℕ)
owed_in_turn r st m [] gs = none
owed_in_turn r st m (x ∷ xs) [] = none
owed_in_turn r st m (x ∷ xs) (g ∷ gs) =
    cond (has_bits (st && is_last xs) (word_in m x.0 x.1) || may_write ((world_of r m).host_at g))
    (owed_in_turn r st (set_in m x.0 x.1 (with_bits (st && is_last xs) (word_in m x.0 x.1))) xs gs)
    (some (suc (length xs), g))

-- a load at depth N + 1 whose walk came to y is granted where nothing is owed so; e: what ours leaves
abbrev pub granted_in_turn : Record → List ℕ → ℕ → ℕ → Option (ℕ × ℕ) → Walked → After Reply → After Reply
granted_in_turn r m a w none (walked.Arrived y t n) e =
    let k : List ℕ = bits_in false m (walk_of r m false a).reads in
    ended r (answer.Value (bytes_at a w (word_in k t.0 (word_of a))) n 0) k
granted_in_turn r m a w none (walked.Faulted x n) e = e
granted_in_turn r m a w none walked.Damaged e = e
granted_in_turn r m a w (some o) y e = e

abbrev pub load_in_turn : ℕ → ℕ → Does
load_in_turn a w r m =
    let t : Trace Fault Place = walk_of r m false a in
    let e : After Reply = call_of (load a w) r m in
    cond ((config_of r).bits && ltb (config_of r).levels (request_depth r m a))
    (granted_in_turn r m a w (owed_in_turn r false m t.reads t.uses) (walked_of (config_of r) (host_top r) m 0 (whole (config_of r) false (root_of r) a)) e)
    e

unfoldable pub judged_in_turn : Calls
judged_in_turn = on_loads load_in_turn call_of

-- ---- forecasts

-- one is made though bits are on
abbrev pub forecast_anyway : List ℕ → Does
forecast_anyway xs r m =
    judged r m (cond (leb (length xs) forecast_room) (ended r (list_with our_step our_end r m (replicate forecast_room 0) (start r.pools.shadow.used) xs) m) (refused r 14 m))

unfoldable pub forecasts_anyway : Calls
forecasts_anyway = on_forecasts forecast_anyway call_of

-- 14 comes before 16
unfoldable pub length_first : Calls
length_first = on_forecasts (λ xs r m. judged r m (cond (leb (length xs) forecast_room) (call_of (forecast xs) r m) (refused r 14 m))) call_of
