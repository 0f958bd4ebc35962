-- Units that misread accessed and dirty bits (document 02, 6). Each is refused by demand 3. The guest is opened with bits on, but for one
-- unit; a mark of level 5 makes each request the plain walk, so that no table of the unit's is in the way.
-- Assumes nothing.
use mathlib.Core.Path.{◌≡◌, refl, ap, ◌∙◌}
use Prim.Native.Nat.{ℕ, suc, ◌+◌, ◌-◌, ◌*◌, ◌^◌}
use mathlib.Core.Bool.{true, false}
use mathlib.Core.List.{List, [], ◌∷◌, ◌++◌}
use lib.ListN.{set, replicate}
use Rattle.spec.specs.declared.Answer.TheVariants as answer
use Rattle.spec.specs.Answer.{Line, value, done, fault, figures, no}
use Rattle.spec.specs.Entry.{entry_limit}
use Rattle.spec.specs.Call.{Call, map, set_mark, load_word, store_word, device_word, forecast}
use Rattle.spec.specs.Run.{step}
use Rattle.spec.specs.Computing.{specifying}
use Rattle.words.specs.After.{After}
use Rattle.pool.specs.declared.Area.{Area}
use Rattle.pool.specs.declared.Pool.{Pool}
use Rattle.pool.specs.declared.Way.TheVariants.{To, Not}
use Rattle.pool.specs.Header.{entry_at_of, put_entry_of, header_of}
use Rattle.pool.specs.declared.Went.{Went}
use Rattle.pool.specs.Pool.{link, follow_of, end, none_of, free_words, with_freed}
use Rattle.area.specs.Tree.{down_of, place_of, insert_of}
use Rattle.record.specs.declared.Record.{Record}
use Rattle.record.specs.Record.{config_by}
use Rattle.layout.specs.Layout.{page}
use Rattle.walk.specs.declared.Walked.{Walked}
use Rattle.walk.specs.declared.Walked.TheVariants as walked
use Rattle.shadow.specs.Held.{shadow_area}
use Rattle.shadow.specs.Fill.{again_by}
use Rattle.translate.specs.declared.Translated.{Translated}
use Rattle.translate.specs.Translate.{fill_by}
use Rattle.request.specs.Access.{load_by}
use Rattle.calls.specs.declared.Reply.{Reply}
use Rattle.calls.specs.Calls.{held_of, ended, windowed_by, call_of}
use Rattle.wrong_units.specs.Unit.{Calls, after_by, specified, Demand-3, told, unit_by, cangrieb}
use Rattle.wrong_units.specs.Wrong.{our_step, our_end, list_with}
use Rattle.wrong_units.specs.WrongBits.{our_sets, load_setting, store_setting, never_sets, always_sets, dirty_by_loads, dirty_at_all, last_only, sets_on_fault, sets_after, own_dropped, bits_drop, load_arriving, arrive_by, faults_fill, stores_pass, bits_first, judged_in_turn, forecasts_anyway, length_first}
use Rattle.wrong_units.proofs.Clear.{Ready, enter_clear, down_clear}
use Rattle.wrong_units.proofs.Computing.{besides, calling}
use Rattle.wrong_units.proofs.Mapped.{placed, memory, record_by, none, level_word, opened_by, opened_words, tables, four_tables, first_by, first_record}
use Rattle.wrong_units.proofs.Filled as filled
use Rattle.wrong_units.proofs.Filled.{others, mapped_words, other_maps, held_words}
use Rattle.wrong_units.proofs.Refute.{Comes, ComesBy, goes_on, refuted, refuted_by, refuted_opened_by, begin, begins_at, begins_by}
use Rattle.wrong_units.proofs.Answers.{plain, plain_right}

-- the frames mapped, with bits on
maps_on : after_by cangrieb others (first_by true false, tables []) ≡ (first_by true false, mapped_words)
unfolding calling after_by
maps_on = refl

abbrev Begun : Calls → Type 0
Begun f = ComesBy true false f begin (first_by true false, mapped_words)

abbrev area : Area
area = shadow_area (config_by 6144 4 4 true)

-- What a load that fills its path leaves, by where the path came into the shadow tables: so the fill itself can go by a law. r: the record, a:
-- the address, gs: the host frames of the guest tables on the path, is: the path, e: its entry, x: where the load's walk came to
abbrev went : List ℕ → List ℕ → ℕ → After Went → After Went
went gs is e t = again_by t.result.way t (insert_of area gs none_of t.memory is e)

abbrev loaded : Record → ℕ → List ℕ → List ℕ → ℕ → Walked → After Went → After Reply
loaded r a gs is e x t =
    let s : After Went = went gs is e t in
    let o : After Translated = fill_by (held_of r) 1 x true s s.result.way in
    windowed_by r (load_by (held_of r) a 8 (our_sets r false a o.result.sets) o o.result.walked)

-- ---- which bits: the load of address 0 yields the entry of level 1 by which it came, which has bit 5 then

never_begun : Begun never_sets
unfolding never_sets after_by
never_begun = begins_by true false never_sets refl maps_on

never_says : ((unit_by never_sets).call (load_word 0) (after_by (unit_by never_sets) plain (first_by true false, mapped_words))).0 ≡ value 0x3003 24 0
unfolding never_sets load_setting after_by calling
never_says = refl

load_right : (step (load_word 0) (specified memory 4 4 true false (begin ++ plain))).0 ≡ value 0x3023 24 0
unfolding specifying
load_right = refl

pub never_sets_refuted : Demand-3 (unit_by never_sets) → ⊥
never_sets_refuted = refuted_by true false never_sets begin plain (load_word 0) (first_by true false, mapped_words) (value 0x3003 24 0) (value 0x3023 24 0) never_begun never_says load_right tt

-- with bits off
always_begun : Comes always_sets begin (first_record, mapped_words)
unfolding always_sets after_by
always_begun = begins_at always_sets refl other_maps

always_says : ((unit_by always_sets).call (load_word 0) (after_by (unit_by always_sets) plain (first_record, mapped_words))).0 ≡ value 0x3023 24 0
unfolding always_sets load_setting after_by calling
always_says = refl

pub always_sets_refuted : Demand-3 (unit_by always_sets) → ⊥
always_sets_refuted = refuted always_sets begin plain (load_word 0) (first_record, mapped_words) (value 0x3023 24 0) (value 0x3003 24 0) always_begun always_says plain_right tt

dirty_begun : Begun dirty_by_loads
unfolding dirty_by_loads after_by
dirty_begun = begins_by true false dirty_by_loads refl maps_on

dirty_says : ((unit_by dirty_by_loads).call (load_word 0) (after_by (unit_by dirty_by_loads) plain (first_by true false, mapped_words))).0 ≡ value 0x3063 24 0
unfolding dirty_by_loads load_setting after_by calling
dirty_says = refl

pub dirty_by_loads_refuted : Demand-3 (unit_by dirty_by_loads) → ⊥
dirty_by_loads_refuted = refuted_by true false dirty_by_loads begin plain (load_word 0) (first_by true false, mapped_words) (value 0x3063 24 0) (value 0x3023 24 0) dirty_begun dirty_says load_right tt

-- page 1 is the top table: after a store its entry 0 has bit 5, and not bit 6
abbrev stored : List Call
stored = set_mark 0 5 ∷ store_word 0x18 7 ∷ []

all_begun : Begun dirty_at_all
unfolding dirty_at_all after_by
all_begun = begins_by true false dirty_at_all refl maps_on

all_says : ((unit_by dirty_at_all).call (load_word 0x1000) (after_by (unit_by dirty_at_all) stored (first_by true false, mapped_words))).0 ≡ value 0x1063 24 0
unfolding dirty_at_all load_setting store_setting after_by calling
all_says = refl

stored_right : (step (load_word 0x1000) (specified memory 4 4 true false (begin ++ stored))).0 ≡ value 0x1023 24 0
unfolding specifying
stored_right = refl

pub dirty_at_all_refuted : Demand-3 (unit_by dirty_at_all) → ⊥
dirty_at_all_refuted = refuted_by true false dirty_at_all begin stored (load_word 0x1000) (first_by true false, mapped_words) (value 0x1063 24 0) (value 0x1023 24 0) all_begun all_says stored_right tt

last_begun : Begun last_only
unfolding last_only after_by
last_begun = begins_by true false last_only refl maps_on

last_says : ((unit_by last_only).call (load_word 0x1000) (after_by (unit_by last_only) plain (first_by true false, mapped_words))).0 ≡ value 0x1003 24 0
unfolding last_only load_setting after_by calling
last_says = refl

top_right : (step (load_word 0x1000) (specified memory 4 4 true false (begin ++ plain))).0 ≡ value 0x1023 24 0
unfolding specifying
top_right = refl

pub last_only_refuted : Demand-3 (unit_by last_only) → ⊥
last_only_refuted = refuted_by true false last_only begin plain (load_word 0x1000) (first_by true false, mapped_words) (value 0x1003 24 0) (value 0x1023 24 0) last_begun last_says top_right tt

-- ---- when they are set

-- the load under entry 1 of the top table meets A at level 1, so that this entry stays as it is
abbrev faulted : List Call
faulted = set_mark 0 5 ∷ load_word (2 ^ 39 + 0x10000) ∷ []

fault_begun : Begun sets_on_fault
unfolding sets_on_fault after_by
fault_begun = begins_by true false sets_on_fault refl maps_on

fault_says : ((unit_by sets_on_fault).call (load_word 0x1008) (after_by (unit_by sets_on_fault) faulted (first_by true false, mapped_words))).0 ≡ value 0x3023 24 0
unfolding sets_on_fault after_by calling
fault_says = refl

faulted_right : (step (load_word 0x1008) (specified memory 4 4 true false (begin ++ faulted))).0 ≡ value 0x3003 24 0
unfolding specifying
faulted_right = refl

pub sets_on_fault_refuted : Demand-3 (unit_by sets_on_fault) → ⊥
sets_on_fault_refuted = refuted_by true false sets_on_fault begin faulted (load_word 0x1008) (first_by true false, mapped_words) (value 0x3023 24 0) (value 0x3003 24 0) fault_begun fault_says faulted_right tt

after_begun : Begun sets_after
unfolding sets_after after_by
after_begun = begins_by true false sets_after refl maps_on

after_says : ((unit_by sets_after).call (load_word 0) (after_by (unit_by sets_after) plain (first_by true false, mapped_words))).0 ≡ value 0x3003 24 0
unfolding sets_after after_by calling
after_says = refl

pub sets_after_refuted : Demand-3 (unit_by sets_after) → ⊥
sets_after_refuted = refuted_by true false sets_after begin plain (load_word 0) (first_by true false, mapped_words) (value 0x3003 24 0) (value 0x3023 24 0) after_begun after_says load_right tt

-- ---- own bit writes drop nothing

-- With a mark of level 3 the load fills a path that read entry 0 of the top table, and sets its bit 5. The path stays held, so that a device
-- store into the top table is an exit; this unit has dropped it.
abbrev mark3 : List Call
mark3 = set_mark 0 3 ∷ set_mark (2 ^ 39) 3 ∷ []

abbrev marked_on : Record
marked_on = record_by true false four_tables none (3 ∷ 11 ∷ [])

marks_on_lem : after_by cangrieb mark3 (first_by true false, mapped_words) ≡ (marked_on, mapped_words)
unfolding calling after_by
marks_on_lem = refl

abbrev held_on : Record
held_on = record_by true false four_tables (record { fresh = 1; free = 0; used = 1; top = 0x4001 }) (3 ∷ 11 ∷ [])

abbrev held_set : List ℕ
held_set = placed ((4096, 0x1023) ∷ (4608, 0x3023) ∷ (5632, 0x3023) ∷ []) held_words

abbrev switched : After Went → After Reply
switched = loaded marked_on 0 (8 ∷ replicate 7 0) (0 ∷ []) 0x9203 (walked.Arrived true (page 11) 16)

switch_loads : call_of (load_word 0) marked_on mapped_words ≡ switched (insert_of area (8 ∷ replicate 7 0) none mapped_words (0 ∷ []) 0x9203)
unfolding besides
switch_loads = refl

switch_sets : switched (end held_on.pools.shadow (To 4) held_words) ≡ ended held_on (answer.Value 0x3023 16 1) held_set
unfolding calling
switch_sets = refl

fills_on : call_of (load_word 0) marked_on mapped_words ≡ ended held_on (answer.Value 0x3023 16 1) held_set
fills_on = switch_loads ∙ ap switched filled.inserts ∙ switch_sets

drop_begun : Begun bits_drop
unfolding bits_drop after_by
drop_begun = begins_by true false bits_drop refl maps_on

drop_comes : ComesBy true false bits_drop (begin ++ mark3) (marked_on, mapped_words)
unfolding bits_drop after_by
drop_comes = goes_on true false bits_drop begin mark3 (first_by true false, mapped_words) (marked_on, mapped_words) drop_begun marks_on_lem

-- what it says to the device store, by what our load leaves
abbrev after_load : After Reply → Line
after_load e = let d : After Reply = own_dropped marked_on mapped_words 0 e in (told (call_of (device_word 0x18 7) d.result.unit d.memory)).0

drop_ends : after_load (ended held_on (answer.Value 0x3023 16 1) held_set) ≡ done 4 0
unfolding calling free_words with_freed
drop_ends = refl

drop_says : ((unit_by bits_drop).call (device_word 0x18 7) (after_by (unit_by bits_drop) (load_word 0 ∷ []) (marked_on, mapped_words))).0 ≡ done 4 0
unfolding bits_drop after_by
drop_says = ap after_load fills_on ∙ drop_ends

drop_right : (step (device_word 0x18 7) (specified memory 4 4 true false ((begin ++ mark3) ++ (load_word 0 ∷ [])))).0 ≡ done 4 1
unfolding specifying
drop_right = refl

pub bits_drop_refuted : Demand-3 (unit_by bits_drop) → ⊥
bits_drop_refuted = refuted_by true false bits_drop (begin ++ mark3) (load_word 0 ∷ []) (device_word 0x18 7) (marked_on, mapped_words) (done 4 0) (done 4 1) drop_comes drop_says drop_right tt

-- ---- a fault past the shadow part fills nothing: this one is A at level 1, and the next load pays for the path

abbrev missed : List Call
missed = set_mark 0 4 ∷ load_word 0x10000 ∷ []

fill_begun : Begun faults_fill
unfolding faults_fill after_by
fill_begun = begins_by true false faults_fill refl maps_on

fill_says : ((unit_by faults_fill).call (load_word 0) (after_by (unit_by faults_fill) missed (first_by true false, mapped_words))).0 ≡ value 0x3023 20 0
unfolding faults_fill load_arriving arrive_by after_by calling
fill_says = refl

missed_right : (step (load_word 0) (specified memory 4 4 true false (begin ++ missed))).0 ≡ value 0x3023 20 1
unfolding specifying
missed_right = refl

pub faults_fill_refuted : Demand-3 (unit_by faults_fill) → ⊥
faults_fill_refuted = refuted_by true false faults_fill begin missed (load_word 0) (first_by true false, mapped_words) (value 0x3023 20 0) (value 0x3023 20 1) fill_begun fill_says missed_right tt

-- ---- a path of depth 0 that a load fills

-- Entry 2 of guest frame 3 is made to name guest frame 2, which is no table of the walk; a load there fills all four shadow tables.
abbrev named : List ℕ
named = set mapped_words 5634 0x2003

names : after_by cangrieb (device_word 0x3010 0x2003 ∷ []) (first_by true false, mapped_words) ≡ (first_by true false, named)
unfolding calling after_by
names = refl

abbrev shadowed : Record
shadowed = record_by true false four_tables (record { fresh = 4; free = 0; used = 4; top = 0x4001 }) []

abbrev shadow_words : List ℕ
shadow_words =
    placed ((2048, 8 * entry_limit + 0x5001) ∷ (2049, level_word 4) ∷ (2560, 9 * entry_limit + 0x6001) ∷ (2561, level_word 3) ∷ (2562, 4 * entry_limit) ∷ (3072, 11 * entry_limit + 0x7001) ∷ (3073, level_word 2) ∷ (3074, 5 * entry_limit)
    ∷ (3584, 11 * entry_limit) ∷ (3585, level_word 1) ∷ (3586, 6 * entry_limit + 0xa003) ∷ [])
    named

-- and the four entries have bit 5
abbrev set_words : List ℕ
set_words = placed ((4096, 0x1023) ∷ (4608, 0x3023) ∷ (5632, 0x3023) ∷ (5634, 0x2023) ∷ []) shadow_words

-- the host frames of the guest tables on the path
abbrev trail : List ℕ
trail = 8 ∷ 9 ∷ 11 ∷ 11 ∷ replicate 4 0

abbrev in_use : ℕ → Pool
in_use n = record { fresh = n; free = 0; used = n; top = 0x4001 }

-- the memory once the shadow tables of level 4, 3, 2 and 1 stand in it
abbrev hung4 : List ℕ
hung4 = header_of named 4 8 4 0 0

abbrev hung : List ℕ → ℕ → ℕ → List ℕ
hung m g f = put_entry_of (header_of m (suc f) g (7 - f) f 0) f 0 (link (suc f))

abbrev hung3 : List ℕ
hung3 = hung hung4 9 4

abbrev hung2 : List ℕ
hung2 = hung hung3 11 5

abbrev hung1 : List ℕ
hung1 = hung hung2 11 6

ready4 : Ready area none named
unfolding calling
ready4 = record { room = refl; no_freed = refl; fresh = refl; clear = tt }

ready3 : Ready area (in_use 1) hung4
unfolding calling
ready3 = record { room = refl; no_freed = refl; fresh = refl; clear = tt }

ready2 : Ready area (in_use 2) hung3
unfolding calling
ready2 = record { room = refl; no_freed = refl; fresh = refl; clear = tt }

ready1 : Ready area (in_use 3) hung2
unfolding calling
ready1 = record { room = refl; no_freed = refl; fresh = refl; clear = tt }

none4 : follow_of 4 4 0 ≡ Not
unfolding calling
none4 = refl

none3 : follow_of 4 4 (entry_at_of hung4 4 0) ≡ Not
unfolding calling
none3 = refl

none2 : follow_of 4 4 (entry_at_of hung3 5 0) ≡ Not
unfolding calling
none2 = refl

none1 : follow_of 4 4 (entry_at_of hung2 6 0) ≡ Not
unfolding calling
none1 = refl

insert_place : insert_of area trail none named (0 ∷ 0 ∷ 0 ∷ 2 ∷ []) 0xa003 ≡ place_of area trail none named 0 (0 ∷ 0 ∷ 2 ∷ []) 0xa003
unfolding besides insert_of
insert_place = refl

place_down : place_of area trail none named 0 (0 ∷ 0 ∷ 2 ∷ []) 0xa003 ≡ down_of area trail (in_use 1) hung4 0 4 0 (0 ∷ 0 ∷ 2 ∷ []) 0xa003
unfolding besides place_of
place_down = rw (enter_clear area none named 8 ready4 none4)

down_end : down_of area trail (in_use 4) hung1 3 7 2 [] 0xa003 ≡ end (in_use 4) (To 7) shadow_words
unfolding calling
down_end = refl

inserts : insert_of area trail none named (0 ∷ 0 ∷ 0 ∷ 2 ∷ []) 0xa003 ≡ end (in_use 4) (To 7) shadow_words
inserts =
    insert_place ∙ place_down ∙ down_clear area trail (in_use 1) hung4 0 4 0 0 (0 ∷ 2 ∷ []) 0xa003 ready3 none3
    ∙ down_clear area trail (in_use 2) hung3 1 5 0 0 (2 ∷ []) 0xa003 ready2 none2
    ∙ down_clear area trail (in_use 3) hung2 2 6 0 2 [] 0xa003 ready1 none1
    ∙ down_end

-- the wrong unit's path has the write right of the walk
abbrev passed : After Went → After Reply
passed = loaded (first_by true false) 0x2000 trail (0 ∷ 0 ∷ 0 ∷ 2 ∷ []) 0xa003 (walked.Arrived true (page 10) 4)

passes_loads : stores_pass (load_word 0x2000) (first_by true false) named ≡ passed (insert_of area trail none named (0 ∷ 0 ∷ 0 ∷ 2 ∷ []) 0xa003)
unfolding stores_pass load_arriving arrive_by besides
passes_loads = refl

passes_sets : passed (end (in_use 4) (To 7) shadow_words) ≡ ended shadowed (answer.Value 0x2003 4 1) set_words
unfolding calling
passes_sets = refl

passes_fills : stores_pass (load_word 0x2000) (first_by true false) named ≡ ended shadowed (answer.Value 0x2003 4 1) set_words
passes_fills = passes_loads ∙ ap passed inserts ∙ passes_sets

abbrev page2 : List Call
page2 = device_word 0x3010 0x2003 ∷ load_word 0x2000 ∷ []

pass_begun : Begun stores_pass
unfolding stores_pass after_by
pass_begun = begins_by true false stores_pass refl maps_on

pass_comes : ComesBy true false stores_pass (begin ++ page2) (shadowed, set_words)
unfolding stores_pass after_by
pass_comes =
    goes_on true false stores_pass begin page2 (first_by true false, mapped_words) (shadowed, set_words) pass_begun
    (ap (λ (e : Record × List ℕ). (told (stores_pass (load_word 0x2000) e.0 e.1)).1) names ∙ ap (λ e. (told e).1) passes_fills)

pass_says : ((unit_by stores_pass).call (store_word 0x2008 7) (shadowed, set_words)).0 ≡ done 4 0
unfolding stores_pass calling
pass_says = refl

-- ours pays an exit: the path is filled again, and the bit is set
pass_right : (step (store_word 0x2008 7) (specified memory 4 4 true false ((begin ++ page2) ++ []))).0 ≡ done 4 1
unfolding specifying
pass_right = refl

pub stores_pass_refuted : Demand-3 (unit_by stores_pass) → ⊥
unfolding after_by
stores_pass_refuted = refuted_by true false stores_pass (begin ++ page2) [] (store_word 0x2008 7) (shadowed, set_words) (done 4 0) (done 4 1) pass_comes pass_says pass_right tt

-- ---- W for a bit

-- the table of level 3, guest frame 1, is read-only and its entry lacks bit 5; but the page is read-only too, and its W comes first
abbrev both_locked : List Call
both_locked = map 1 9 false ∷ map 3 11 false ∷ set_mark 0 5 ∷ []

first_begun : Begun bits_first
unfolding bits_first after_by
first_begun = begins_by true false bits_first refl maps_on

first_says : ((unit_by bits_first).call (store_word 0 1) (after_by (unit_by bits_first) both_locked (first_by true false, mapped_words))).0 ≡ fault 87 0 1 24 1
unfolding bits_first after_by calling
first_says = refl

both_locked_right : (step (store_word 0 1) (specified memory 4 4 true false (begin ++ both_locked))).0 ≡ fault 87 0 3 24 1
unfolding specifying
both_locked_right = refl

pub bits_first_refuted : Demand-3 (unit_by bits_first) → ⊥
bits_first_refuted = refuted_by true false bits_first begin both_locked (store_word 0 1) (first_by true false, mapped_words) (fault 87 0 1 24 1) (fault 87 0 3 24 1) first_begun first_says both_locked_right tt

-- and so does P, where that entry forbids writes
abbrev forbidden : List Call
forbidden = device_word 0x1000 0x3001 ∷ map 1 9 false ∷ set_mark 0 5 ∷ []

forbidden_says : ((unit_by bits_first).call (store_word 0 1) (after_by (unit_by bits_first) forbidden (first_by true false, mapped_words))).0 ≡ fault 87 0 1 20 0
unfolding bits_first after_by calling
forbidden_says = refl

forbidden_right : (step (store_word 0 1) (specified memory 4 4 true false (begin ++ forbidden))).0 ≡ fault 80 1 0 20 0
unfolding specifying
forbidden_right = refl

pub bits_before_p_refuted : Demand-3 (unit_by bits_first) → ⊥
bits_before_p_refuted = refuted_by true false bits_first begin forbidden (store_word 0 1) (first_by true false, mapped_words) (fault 87 0 1 20 0) (fault 80 1 0 20 0) first_begun forbidden_says forbidden_right tt

-- Entry 0 of the top table leads to guest frame 5, which is the same host frame, read-only: one word is the entry of all levels. It lacks bit 5
-- when the load comes, so that level 3 owes it; judged when level 4 has set it, nothing is owed.
abbrev aliased : List Call
aliased = map 5 8 false ∷ device_word 0 0x5003 ∷ set_mark 0 5 ∷ []

turn_begun : Begun judged_in_turn
unfolding judged_in_turn after_by
turn_begun = begins_by true false judged_in_turn refl maps_on

turn_says : ((unit_by judged_in_turn).call (load_word 0) (after_by (unit_by judged_in_turn) aliased (first_by true false, mapped_words))).0 ≡ value 0x5023 24 0
unfolding judged_in_turn after_by calling
turn_says = refl

aliased_right : (step (load_word 0) (specified memory 4 4 true false (begin ++ aliased))).0 ≡ fault 87 0 5 24 1
unfolding specifying
aliased_right = refl

pub judged_in_turn_refuted : Demand-3 (unit_by judged_in_turn) → ⊥
judged_in_turn_refuted = refuted_by true false judged_in_turn begin aliased (load_word 0) (first_by true false, mapped_words) (value 0x5023 24 0) (fault 87 0 5 24 1) turn_begun turn_says aliased_right tt

-- ---- forecasts, right after the opening

anyway_says : ((unit_by forecasts_anyway).call (forecast []) (opened_by true false, opened_words)).0 ≡ figures 0 0 0
unfolding forecasts_anyway list_with our_step our_end calling
anyway_says = refl

none_right : (step (forecast []) (specified memory 4 4 true false [])).0 ≡ no 16
unfolding specifying
none_right = refl

pub forecasts_anyway_refuted : Demand-3 (unit_by forecasts_anyway) → ⊥
unfolding after_by
forecasts_anyway_refuted = refuted_opened_by true false forecasts_anyway [] (forecast []) (figures 0 0 0) (no 16) anyway_says none_right tt

abbrev long : Call
long = forecast (replicate 257 0)

length_says : ((unit_by length_first).call long (opened_by true false, opened_words)).0 ≡ no 14
unfolding length_first calling
length_says = refl

long_right : (step long (specified memory 4 4 true false [])).0 ≡ no 16
unfolding specifying
long_right = refl

pub length_first_refuted : Demand-3 (unit_by length_first) → ⊥
unfolding after_by
length_first_refuted = refuted_opened_by true false length_first [] long (no 14) (no 16) length_says long_right tt
