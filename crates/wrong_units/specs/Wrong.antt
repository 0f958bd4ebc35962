-- Wrong units: each is ours with one change, and agrees with itself. Most are what a reviewer looks for first; three are faults that
-- earlier versions had. They are tables of calls over our own record, memory and definitions, not over the specification: so what
-- goes stale in them are real shadow entries. Their runs are computed word by word on a memory of 12 frames; only clearing a frame that
-- is clear, which would take most of the time, goes by a law (proofs/Clear.antt).
-- Assumes nothing.
use Rattle.std.specs.Prelude.{ℕ, suc, ◌+◌, ◌-◌, ◌*◌, ◌%◌, ◌^◌, min, Bool, true, false, not, ◌&&◌, cond, List, [], ◌∷◌, ◌++◌, eqb, leb, ltb, length, take, drop, replicate}
use Rattle.std.specs.Int.Count.{ones}
use Rattle.spec.specs.declared.Fault.{Fault}
use Rattle.spec.specs.declared.Fault.TheVariants.{Absent, Malformed, Protected, HostAbsent, HostReadOnly}
use Rattle.spec.specs.declared.Lookup.{Lookup}
use Rattle.spec.specs.declared.Answer.{Answer}
use Rattle.spec.specs.declared.Answer.TheVariants as answer
use Rattle.spec.specs.Config.{Config, guest_base, sign_bit}
use Rattle.spec.specs.Entry.{page_of, word_of, indexes}
use Rattle.spec.specs.Plain.{next}
use Rattle.spec.specs.Bytes.{part, with_part, aligned, bit_of, bytes_at, with_bytes}
use Rattle.spec.specs.Refusal.{alike_from, address_fits, forecast_room}
use Rattle.spec.specs.Call.{map, set_mark, load, store, device, forecast}
use Rattle.spec.specs.Search.{nothing as none, more}
use Rattle.spec.specs.Serving.{loads}
use Rattle.words.specs.After.{After, yields}
use Rattle.words.specs.Words.{word_in, set_in}
use Rattle.entry.specs.declared.HostPhysical.{HostPhysical}
use Rattle.pool.specs.declared.Pool.{Pool}
use Rattle.host.specs.declared.Change.{Change}
use Rattle.host.specs.Map.{map_of, unmap_of}
use Rattle.walk.specs.declared.Walked.{Walked}
use Rattle.walk.specs.declared.Walked.TheVariants as walked
use Rattle.walk.specs.Memory.{walked_of}
use Rattle.marks.specs.Key.{low_page, key_of, key_at, level_at}
use Rattle.marks.specs.Table.{room, place_of, without_key}
use Rattle.record.specs.declared.Record.{Record}
use Rattle.record.specs.Record.{config_of, with_marks}
use Rattle.shadow.specs.Watch.{watched_of}
use Rattle.drops.specs.declared.Left.{Left}
use Rattle.drops.specs.Drop.{drop_prefix_of}
use Rattle.charge.specs.declared.Charge.{Charge}
use Rattle.charge.specs.declared.Charge.TheVariants as charge
use Rattle.automatic.specs.Moves.{marked_of, marks_with, choice_with, above}
use Rattle.translate.specs.declared.Held.{Held}
use Rattle.translate.specs.declared.Translated.{Translated}
use Rattle.translate.specs.Translate.{depth_of, exit_by}
use Rattle.request.specs.declared.Put.{Put}
use Rattle.request.specs.declared.Served.{Served}
use Rattle.request.specs.Access as access
use Rattle.request.specs.Access.{serving, settled_of, put, bytes_in}
use Rattle.calls.specs.declared.Reply.{Reply}
use Rattle.calls.specs.Calls.{host_top, held_of, root_of, with_held, with_host, nothing, ended, refused, judged, placed, served_by, lookup_at, depth_at, address_ok, translated_of, keys_of, windowed_by, charge_at, store_charged_of, owing, mark_refusal, moved_by, call_of}
use Rattle.forecast.specs.declared.Outlook.{Outlook}
use Rattle.forecast.specs.declared.Next.{Next}
use Rattle.forecast.specs.declared.Next.TheVariants.{Go, Damaged}
use Rattle.forecast.specs.Forecast.{address_of, onward, start}
use Rattle.claims.specs.Run.{unit_after}
use Rattle.claims.specs.Plain.{plain_walk, with_own}
use Rattle.wrong_units.specs.Unit.{Calls, Searches}
use Rattle.wrong_units.specs.Changed.{Does, on_loads, on_stores, on_devices, on_maps, on_unmaps, on_sets, on_clears, on_forecasts}

-- ---- what is said of a call, changed

-- the same record and memory, another answer
abbrev pub saying : (Answer → Answer) → After Reply → After Reply
saying f e = ended e.result.unit (f e.result.answer) e.memory

-- 4 references and no exit, always
abbrev pub flat : Answer → Answer
flat answer.Ok = answer.Ok
flat (answer.Value v n e) = answer.Value v 4 0
flat (answer.Done n e) = answer.Done 4 0
flat (answer.Faulted x n e) = answer.Faulted x 4 0
flat (answer.Refused n) = answer.Refused n
flat (answer.Figures n e t) = answer.Figures n e t

unfoldable pub flat_counts : Calls
flat_counts x r m = saying flat (call_of x r m)

-- version 1: what is there and may not be written is told as missing
abbrev pub missing : Fault → Fault
missing (Absent n) = Absent n
missing (Malformed n) = Malformed n
missing (Protected n) = Absent n
missing (HostAbsent g) = HostAbsent g
missing (HostReadOnly g) = HostAbsent g

abbrev pub missing_in : Answer → Answer
missing_in answer.Ok = answer.Ok
missing_in (answer.Value v n e) = answer.Value v n e
missing_in (answer.Done n e) = answer.Done n e
missing_in (answer.Faulted x n e) = answer.Faulted (missing x) n e
missing_in (answer.Refused n) = answer.Refused n
missing_in (answer.Figures n e t) = answer.Figures n e t

unfoldable pub read_only_missing : Calls
read_only_missing x r m = saying missing_in (call_of x r m)

-- every value is the first guest word, whatever the address
abbrev pub always : ℕ → Answer → Answer
always w answer.Ok = answer.Ok
always w (answer.Value v n e) = answer.Value w n e
always w (answer.Done n e) = answer.Done n e
always w (answer.Faulted x n e) = answer.Faulted x n e
always w (answer.Refused n) = answer.Refused n
always w (answer.Figures n e t) = answer.Figures n e t

unfoldable pub one_word : Calls
one_word x r m = saying (always (word_in m (guest_base (config_of r)) 0)) (call_of x r m)

-- every request meets a fault and changes nothing
abbrev pub faults : Does
faults r m = judged r m (ended r (answer.Faulted (Absent r.layout.levels) 5 1) m)

unfoldable pub faults_all : Calls
faults_all = on_loads (λ a w. faults) (on_stores (λ a w v. faults) (on_devices (λ a w v. faults) call_of))

-- a store is answered as by ours, but the guest words stay as they were
abbrev pub unwritten : Record → List ℕ → After Reply → After Reply
unwritten r m e = let words : ℕ = 512 * guest_base (config_of r) in ended e.result.unit e.result.answer (take words e.memory ++ drop words m)

unfoldable pub stores_nothing : Calls
stores_nothing = on_stores (λ a w v r m. unwritten r m (call_of (store a w v) r m)) (on_devices (λ a w v r m. unwritten r m (call_of (device a w v) r m)) call_of)

-- ---- refusals that come too early

-- 10 once all host tables are in use, though the frame may need no other
unfoldable pub tables_full : Calls
tables_full = on_maps (λ g f w r m. elim (leb r.layout.hosts r.pools.host.used) [ true ↦ refused r 10 m | false ↦ call_of (map g f w) r m ]) call_of

-- 7 once four marks are set
unfoldable pub marks_full : Calls
marks_full = on_sets (λ a n r m. elim (ltb (ones r.guest.marks.set) 4) [ true ↦ call_of (set_mark a n) r m | false ↦ refused r 7 m ]) call_of

-- ---- addresses of both halves (document 02, 1), misread

-- a load by another test of its address, and by another depth of its marks
abbrev pub load_by : (Config → ℕ → Bool) → (Record → ℕ → ℕ) → ℕ → ℕ → Does
load_by legal deep a w r m =
    placed r m w (legal (config_of r) a && aligned a w) (windowed_by r (access.load_of (config_of r) (host_top r) m (held_of r) (root_of r) a w (depth_of (config_of r) (host_top r) m (held_of r) (root_of r) a (deep r a))))

abbrev pub load_if : (Config → ℕ → Bool) → ℕ → ℕ → Does
load_if legal = load_by legal depth_at

-- the limit of document 01
unfoldable pub lower_half_only : Calls
lower_half_only = on_loads (load_if (λ c a. ltb a (2 ^ suc (sign_bit c)))) call_of

-- the bits above the sign bit are alike, but need not repeat it
unfoldable pub sign_not_compared : Calls
sign_not_compared = on_loads (load_if (λ c a. alike_from (suc (sign_bit c)) a)) call_of

-- a device's address is tested as a guest-virtual one
unfoldable pub devices_signed : Calls
devices_signed = on_devices (λ a w v r m. placed r m w (address_ok false (config_of r) a w) (served_by r (access.device_of (config_of r) (host_top r) m (held_of r) a w v))) call_of

-- a mark that is set has the page number of all 64 bits in its key
abbrev pub set_by_all_bits : ℕ → ℕ → Does
set_by_all_bits a n r m =
    let k : ℕ = key_of n (page_of a) in
    judged r m (cond (eqb (mark_refusal true r a n) 0) (moved_by r (marked_of r m (r.layout.levels - n) (above a n) (marks_with r k) (choice_with r k))) (refused r (mark_refusal true r a n) m))

unfoldable pub marks_by_all_bits : Calls
marks_by_all_bits = on_sets set_by_all_bits call_of

-- ---- drops, changed. The calls are ours with what drops the paths as an argument

-- which paths go before a word is stored to: configuration, memory, shadow tables, host frame, address
abbrev pub Drops : Type 0
Drops = Config → List ℕ → Pool → ℕ → ℕ → After Put

-- how bytes are written: memory, host frame, address, width, value
abbrev pub Writes : Type 0
Writes = List ℕ → ℕ → ℕ → ℕ → ℕ → List ℕ

abbrev pub our_drops : Drops
our_drops c m p t a = access.dropped_of c m p t (word_of a)

-- a store that came to its word: its bits are set (set), then its bytes
abbrev pub written_as : Writes → Held → Held → ℕ → ℕ → ℕ → ℕ → ℕ → ℕ → (List ℕ → List ℕ) → After Put → After Served
written_as writes h held n e t a w v set s =
    cond s.result.ok
    (serving (record { pool = s.result.pool; frame = held.frame }) (answer.Done n (e + s.result.exits)) (writes (set s.memory) t a w v))
    (access.refused h 11 s.memory)

abbrev pub store_as : Drops → Writes → Config → Held → ℕ → ℕ → ℕ → (List ℕ → List ℕ) → After Translated → Walked → After Served
store_as drops writes c h a w v set o (walked.Arrived y t n) =
    written_as writes h o.result.held n o.result.exits t.0 a w v set (drops c o.memory o.result.held.pool t.0 a)
store_as drops writes c h a w v set o (walked.Faulted x n) = serving o.result.held (answer.Faulted x n o.result.exits) o.memory
store_as drops writes c h a w v set o walked.Damaged = access.refused h 11 o.memory

-- what a store comes to where nobody is charged (plain); one that is charged is ours: these units are run without the automatic choice
abbrev pub or_charged : Record → ℕ → ℕ → ℕ → After Translated → HostPhysical → ℕ → After Reply → Charge → After Reply
or_charged r a w v o t n plain charge.Nobody = plain
or_charged r a w v o t n plain (charge.To p) = store_charged_of r o.memory a w v (owing o.result t n p)
or_charged r a w v o t n plain charge.Damaged = refused r 11 o.memory

abbrev pub stored_as : Record → ℕ → ℕ → ℕ → After Translated → After Reply → Walked → After Reply
stored_as r a w v o plain (walked.Arrived y t n) = or_charged r a w v o t n plain (charge_at r o.result.held o.memory t.0 (word_of a))
stored_as r a w v o plain (walked.Faulted x n) = plain
stored_as r a w v o plain walked.Damaged = plain

-- a store by what is done once it is translated
abbrev pub store_doing : (Record → ℕ → ℕ → ℕ → After Translated → After Served) → ℕ → ℕ → ℕ → Does
store_doing does a w v r m =
    let o : After Translated = translated_of r m true a in
    placed r m w (address_ok false (config_of r) a w) (stored_as r a w v o (windowed_by r (does r a w v o)) o.result.walked)

abbrev pub done_with : Drops → Writes → Record → ℕ → ℕ → ℕ → After Translated → After Served
done_with drops writes r a w v o = store_as drops writes (config_of r) (held_of r) a w v (settled_of (config_of r) (host_top r) (root_of r) true a o.result.sets) o o.result.walked

unfoldable pub store_with : Drops → Writes → ℕ → ℕ → ℕ → Does
store_with drops writes = store_doing (done_with drops writes)

abbrev pub device_as : Drops → Writes → Config → List ℕ → Held → ℕ → ℕ → ℕ → Walked → After Served
device_as drops writes c m h a w v (walked.Arrived y t n) = written_as writes h h n 0 t.0 a w v (λ x. x) (drops c m h.pool t.0 a)
device_as drops writes c m h a w v (walked.Faulted x n) = serving h (answer.Faulted x n (exit_by (walked.Faulted x n))) m
device_as drops writes c m h a w v walked.Damaged = access.refused h 11 m

unfoldable pub device_with : Drops → Writes → ℕ → ℕ → ℕ → Does
device_with drops writes a w v r m =
    placed r m w (address_ok true (config_of r) a w)
    (served_by r (device_as drops writes (config_of r) m (held_of r) a w v (walked_of (config_of r) (host_top r) m 0 (next true true (page_of a) true))))

-- a watched frame is an exit, but no path is dropped
unfoldable pub drop_nothing : Drops
drop_nothing c m p t a = put p (cond (watched_of c m p.fresh t) 1 0) true m

-- a frame is mapped or unmapped, and no path is dropped
abbrev pub remapped : Record → After Change → After Reply
remapped r t = cond (eqb t.result.refusal 0) (ended (with_host r t.result.pool) answer.Ok t.memory) (refused r t.result.refusal t.memory)

unfoldable pub map_keeping : ℕ → ℕ → Bool → Does
map_keeping g f w r m = judged r m (remapped r (map_of (config_of r) r.pools.host m g f w))

unfoldable pub unmap_keeping : ℕ → Does
unmap_keeping g r m = judged r m (remapped r (unmap_of (config_of r) r.pools.host m g))

-- a mark is set or cleared, and no path is dropped, nor does an automatic mark leave
unfoldable pub mark_keeping : Bool → ℕ → ℕ → Does
mark_keeping b a n r m =
    let k : ℕ = key_at r.layout.levels n a in
    let next : Record = cond b (with_marks r (marks_with r k) (choice_with r k)) (with_marks r (without_key r.guest.marks k) r.guest.choice) in
    judged r m (cond (eqb (mark_refusal b r a n) 0) (ended next answer.Ok m) (refused r (mark_refusal b r a n) m))

-- version 2: a remap drops nothing, so that a table's old host frame goes on being read
unfoldable pub stale_mapping : Calls
stale_mapping = on_maps map_keeping (on_unmaps unmap_keeping call_of)

-- version 3: a mark drops nothing, so that a switch entry is left where the address is no longer switched there
unfoldable pub stale_switch : Calls
stale_switch = on_sets (mark_keeping true) (on_clears (mark_keeping false) call_of)

-- a device's store drops nothing
unfoldable pub device_forgotten : Calls
device_forgotten = on_devices (device_with drop_nothing bytes_in) call_of

-- nothing is dropped after the first fill, but by a root load
unfoldable pub never_drops : Calls
never_drops = on_maps map_keeping (on_unmaps unmap_keeping (on_sets (mark_keeping true) (on_clears (mark_keeping false) (on_stores (store_with drop_nothing bytes_in) (on_devices (device_with drop_nothing bytes_in) call_of)))))

-- what a drop left, beside the answer
abbrev pub leaving : Record → Answer → After Left → After Reply
leaving r x o = ended (with_held r (record { pool = o.result.pool; frame = r.guest.held })) x o.memory

-- where a store is done, the paths of the page that it names are dropped
abbrev pub own_page : ℕ → Record → List ℕ → Answer → After Reply
own_page a r m answer.Ok = ended r answer.Ok m
own_page a r m (answer.Value v n e) = ended r (answer.Value v n e) m
own_page a r m (answer.Done n e) = leaving r (answer.Done n e) (drop_prefix_of (config_of r) r.pools.shadow m (indexes r.layout.levels (page_of a)))
own_page a r m (answer.Faulted x n e) = ended r (answer.Faulted x n e) m
own_page a r m (answer.Refused n) = ended r (answer.Refused n) m
own_page a r m (answer.Figures n e t) = ended r (answer.Figures n e t) m

-- a store drops by its own guest-virtual page alone
abbrev pub store_by_own_page : ℕ → ℕ → ℕ → Does
store_by_own_page a w v r m =
    let e : After Reply = store_with drop_nothing bytes_in a w v r m in
    own_page a e.result.unit e.memory e.result.answer

unfoldable pub by_own_page : Calls
by_own_page = on_stores store_by_own_page call_of

-- a store drops all that is held
abbrev pub store_forgetting : ℕ → ℕ → ℕ → Does
store_forgetting a w v r m =
    let e : After Reply = call_of (store a w v) r m in
    ended (with_held e.result.unit nothing) e.result.answer e.memory

unfoldable pub forgets_at_store : Calls
forgets_at_store = on_stores store_forgetting call_of

-- ---- widths (document 02, 4), misread

-- the first byte of a word is its highest
abbrev pub high_first : ℕ → ℕ → ℕ
high_first a w = 64 - (8 * w + bit_of a)

abbrev pub big_value : ℕ → ℕ → Answer → Answer
big_value a w answer.Ok = answer.Ok
big_value a w (answer.Value e n x) = answer.Value (part (8 * w) (high_first a w) e) n x
big_value a w (answer.Done n x) = answer.Done n x
big_value a w (answer.Faulted y n x) = answer.Faulted y n x
big_value a w (answer.Refused n) = answer.Refused n
big_value a w (answer.Figures n x t) = answer.Figures n x t

unfoldable pub big_in : Writes
big_in m t a w v = set_in m t (word_of a) (with_part (8 * w) (high_first a w) v (word_in m t (word_of a)))

abbrev pub load_big : ℕ → ℕ → Does
load_big a w r m = placed r m w (address_ok false (config_of r) a w) (saying (big_value a w) (call_of (load (a - a % 8) 8) r m))

unfoldable pub big_endian : Calls
big_endian = on_loads load_big (on_stores (store_with our_drops big_in) (on_devices (device_with our_drops big_in) call_of))

-- a narrow store clears the rest of its word
unfoldable pub clearing_in : Writes
clearing_in m t a w v = set_in m t (word_of a) (with_bytes a w v 0)

unfoldable pub clears_the_rest : Calls
clears_the_rest = on_stores (store_with our_drops clearing_in) (on_devices (device_with our_drops clearing_in) call_of)

-- a store drops only where it touches byte 0 of the word
unfoldable pub drop_at_zero : Drops
drop_at_zero c m p t a = cond (eqb (a % 8) 0) (our_drops c m p t a) (drop_nothing c m p t a)

unfoldable pub drops_at_byte_zero : Calls
drops_at_byte_zero = on_stores (store_with drop_at_zero bytes_in) (on_devices (device_with drop_at_zero bytes_in) call_of)

-- a load of any width is at a multiple of 8
unfoldable pub multiples_of_eight : Calls
multiples_of_eight = on_loads (load_if (λ c a. address_fits c a && aligned a 8)) call_of

-- 4 comes before 15
unfoldable pub address_first : Calls
address_first = on_loads (λ a w r m. judged r m (cond (address_fits (config_of r) a) (call_of (load a w) r m) (refused r 4 m))) call_of

-- a device stores whole words, whatever its width
unfoldable pub devices_whole : Calls
devices_whole = on_devices (λ a w v. call_of (device a 8 v)) call_of

-- ---- words that are not counted

abbrev pub walked_to : List ℕ → ℕ → ℕ → Walked → ℕ → ℕ → Answer
walked_to m a w (walked.Arrived y t k) n e = answer.Value (bytes_at a w (word_in m t.0 (word_of a))) n e
walked_to m a w (walked.Faulted x k) n e = answer.Faulted x n e
walked_to m a w walked.Damaged n e = answer.Refused 11

-- a load's value or fault, by another walk; references and exits stay
abbrev pub rewalked : List ℕ → ℕ → ℕ → Walked → Answer → Answer
rewalked m a w y answer.Ok = answer.Ok
rewalked m a w y (answer.Value v n e) = walked_to m a w y n e
rewalked m a w y (answer.Done n e) = answer.Done n e
rewalked m a w y (answer.Faulted x n e) = walked_to m a w y n e
rewalked m a w y (answer.Refused n) = answer.Refused n
rewalked m a w y (answer.Figures n e t) = answer.Figures n e t

-- each load walks both sets of tables in full, and reports the counts of the held path
unfoldable pub walks_in_full : Calls
walks_in_full = on_loads (λ a w r m. saying (rewalked (with_own r m false a) a w (plain_walk r m false a)) (call_of (load a w) r m)) call_of

-- ---- forecasts (document 02, 2), misread. A forecast is ours with what an address does, and what is said at the end, as arguments

-- the outlook after an address: record, memory, the room's keys, the outlook before it
abbrev pub Steps : Type 0
Steps = Record → List ℕ → List ℕ → Outlook → ℕ → After Next

unfoldable pub our_step : Steps
our_step r m ks o a = address_of (config_of r) (host_top r) m (held_of r) (root_of r) (keys_of r) ks o a

unfoldable pub our_end : Outlook → Answer
our_end o = answer.Figures o.sum.references o.sum.exits o.sum.tables

unfoldable pub list_with : Steps → (Outlook → Answer) → Record → List ℕ → List ℕ → Outlook → List ℕ → Answer
list_with does ends r m ks o [] = ends o
list_with does ends r m ks o (a ∷ xs) =
    let n : After Next = does r m ks o a in
    onward n.result (λ u. list_with does ends r m n.memory u xs)

unfoldable pub forecast_with : Steps → (Outlook → Answer) → List ℕ → Does
forecast_with does ends xs r m =
    judged r m (cond (not (config_of r).bits)
    (cond (leb (length xs) forecast_room) (ended r (list_with does ends r m (replicate forecast_room 0) (start r.pools.shadow.used) xs) m) (refused r 14 m))
    (refused r 16 m))

-- each address is judged by what was held before the list, so that a second one of a path costs an exit again
abbrev pub step_alone : Steps
step_alone r m ks o a = our_step r m ks (record { sum = o.sum; paths = (start r.pools.shadow.used).paths }) a

unfoldable pub each_alone : Calls
each_alone = on_forecasts (forecast_with step_alone our_end) call_of

-- an overflow forgets the paths that the list filled, and not those that were held before it
abbrev pub kept_still : Next → Next
kept_still (Go o) = Go (record { sum = o.sum; paths = record { used = o.paths.used; kept = true; count = o.paths.count } })
kept_still Damaged = Damaged

abbrev pub step_keeping : Steps
step_keeping r m ks o a = let n : After Next = our_step r m ks o a in yields (kept_still n.result) n.memory

unfoldable pub forgets_own_only : Calls
forgets_own_only = on_forecasts (forecast_with step_keeping our_end) call_of

-- the tables in use at the end are said, not the most
unfoldable pub tables_at_end : Calls
tables_at_end = on_forecasts (forecast_with our_step (λ o. answer.Figures o.sum.references o.sum.exits o.paths.used)) call_of

-- an address that meets 4 ends the list
abbrev pub until_illegal : Record → List ℕ → List ℕ
until_illegal r [] = []
until_illegal r (a ∷ xs) = cond (address_ok false (config_of r) a 8) (a ∷ until_illegal r xs) []

unfoldable pub ends_at_four : Calls
ends_at_four = on_forecasts (λ xs r m. call_of (forecast (until_illegal r xs)) r m) call_of

-- the list is really served: the figures are right, and its paths stay held
abbrev pub serve_all : List ℕ → Does
serve_all xs r m =
    let e : After Reply = unit_after (loads xs) r m (ended r answer.Ok m) in
    ended e.result.unit (call_of (forecast xs) r m).result.answer e.memory

unfoldable pub serves_for_real : Calls
serves_for_real = on_forecasts serve_all call_of

-- ---- the search among the marks (document 02, 3), misread

-- our search, with the level that ends it as an argument
unfoldable pub search_to : ℕ → ℕ → List ℕ → Lookup
search_to last p [] = none
search_to last p (k ∷ ks) = more (level_at p k) (cond (leb last (level_at p k)) none (search_to last p ks))

-- it ends at a mark of level N
unfoldable pub ends_at_n : Searches
ends_at_n r a = search_to r.layout.levels (low_page r.layout.levels a) (keys_of r)

-- and loads take their depth from it
unfoldable pub loads_end_at_n : Calls
loads_end_at_n = on_loads (load_by address_fits (λ r a. (ends_at_n r a).depth)) call_of

-- places are counted, also those at which no mark is set
unfoldable pub counts_places : Searches
counts_places r a =
    let last : ℕ = place_of r.guest.marks.place r.guest.marks.set (suc r.layout.levels) in
    record { depth = depth_at r a; read = min room (suc last) }

-- the mark that ends it is not counted
unfoldable pub last_not_counted : Searches
last_not_counted r a = let f : Lookup = lookup_at r a in record { depth = f.depth; read = cond (ltb r.layout.levels f.depth) (f.read - 1) f.read }
