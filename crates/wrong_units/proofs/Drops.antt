-- Units that keep a path which they should drop, and one that drops too much: each is refused by demand 3, on a run that tells the story
-- of the fault.
-- Assumes nothing.
use mathlib.Core.Path.{◌≡◌, refl, ap}
use Prim.Native.Nat.{ℕ, ◌+◌, ◌^◌}
use mathlib.Core.Bool.{Bool, true, false}
use mathlib.Core.List.{List, [], ◌∷◌, ◌++◌}
use Rattle.spec.specs.Answer.{value, no}
use Rattle.spec.specs.Call.{Call, map, set_mark, clear_mark, load_word, store_word, device_word}
use Rattle.spec.specs.Run.{step}
use Rattle.spec.specs.Computing.{specifying}
use Rattle.layout.specs.declared.HostWalk.TheVariants as host
use Rattle.host.specs.Walk.{host_walk_of}
use Rattle.record.specs.declared.Record.{Record}
use Rattle.record.specs.Record.{config_of}
use Rattle.calls.specs.Calls.{host_top, map_call, call_of}
use Rattle.wrong_units.specs.Unit.{after_by, specified, Demand-3, told, unit_by}
use Rattle.wrong_units.specs.Wrong.{store_with, device_with, drop_nothing, map_keeping, mark_keeping, never_drops, stale_mapping, stale_switch, device_forgotten, by_own_page, forgets_at_store}
use Rattle.wrong_units.proofs.Computing.{calling}
use Rattle.wrong_units.proofs.Mapped.{memory, opened_record, opened_words, tables, first_record}
use Rattle.wrong_units.proofs.Filled.{others, mapped_words, other_maps, marked, marks_set, held_record, held_words}
use Rattle.wrong_units.proofs.Refute.{Comes, refuted, begin, begins_at, hold, holds_at}

-- a frame that was not mapped has no path to drop
fresh_map : (r : Record) (m : List ℕ) (g f : ℕ) (w : Bool) (k : ℕ) → host_walk_of (config_of r) (host_top r) m g ≡ host.Absent k → map_keeping g f w r m ≡ call_of (map g f w) r m
unfolding map_keeping call_of map_call
fresh_map r m g f w k e = rw e

first_absent : host_walk_of (config_of opened_record) (host_top opened_record) opened_words 0 ≡ host.Absent 1
unfolding calling
first_absent = refl

first_same : (told (map_keeping 0 8 true opened_record opened_words)).1 ≡ (told (call_of (map 0 8 true) opened_record opened_words)).1
first_same = ap (λ e. (told e).1) (fresh_map opened_record opened_words 0 8 true 1 first_absent)

-- ---- version 2

-- The table of level 3 is guest frame 1, in host frame 9. Mapped to host frame 10, where another table stands, it leads to another
-- page; but the held path still leads to frame 9, and the load yields the old page's word without an exit.
abbrev remap : List Call
remap = map 1 10 true ∷ []

stale_mapping_others : after_by (unit_by stale_mapping) others (first_record, tables []) ≡ (first_record, mapped_words)
unfolding stale_mapping map_keeping after_by calling
stale_mapping_others = refl

stale_mapping_comes : Comes stale_mapping (begin ++ hold) (held_record, held_words)
unfolding stale_mapping after_by
stale_mapping_comes = holds_at stale_mapping marks_set refl (begins_at stale_mapping first_same stale_mapping_others)

stale_mapping_says : ((unit_by stale_mapping).call (load_word 0) (after_by (unit_by stale_mapping) remap (held_record, held_words))).0 ≡ value 0x3003 16 0
unfolding stale_mapping map_keeping after_by calling
stale_mapping_says = refl

remap_right : (step (load_word 0) (specified memory 4 4 false false ((begin ++ hold) ++ remap))).0 ≡ value 0x2003 16 1
unfolding specifying
remap_right = refl

pub stale_mapping_refuted : Demand-3 (unit_by stale_mapping) → ⊥
stale_mapping_refuted = refuted stale_mapping (begin ++ hold) remap (load_word 0) (held_record, held_words) (value 0x3003 16 0) (value 0x2003 16 1) stale_mapping_comes stale_mapping_says remap_right tt

-- ---- version 3

-- The mark goes, the address is shadowed down to its page from now on, and where the top shadow table should lead to a shadow table
-- the old switch entry leads to the guest's: the load takes that for damage.
abbrev unmark : List Call
unmark = clear_mark 0 3 ∷ []

stale_switch_marks : after_by (unit_by stale_switch) (set_mark 0 3 ∷ set_mark (2 ^ 39) 3 ∷ []) (first_record, mapped_words) ≡ (marked, mapped_words)
unfolding stale_switch mark_keeping after_by calling
stale_switch_marks = refl

stale_switch_comes : Comes stale_switch (begin ++ hold) (held_record, held_words)
unfolding stale_switch after_by
stale_switch_comes = holds_at stale_switch stale_switch_marks refl (begins_at stale_switch refl other_maps)

stale_switch_says : ((unit_by stale_switch).call (load_word 0) (after_by (unit_by stale_switch) unmark (held_record, held_words))).0 ≡ no 11
unfolding stale_switch mark_keeping after_by calling
stale_switch_says = refl

unmark_right : (step (load_word 0) (specified memory 4 4 false false ((begin ++ hold) ++ unmark))).0 ≡ value 0x3003 4 1
unfolding specifying
unmark_right = refl

pub stale_switch_refuted : Demand-3 (unit_by stale_switch) → ⊥
stale_switch_refuted = refuted stale_switch (begin ++ hold) unmark (load_word 0) (held_record, held_words) (no 11) (value 0x3003 4 1) stale_switch_comes stale_switch_says unmark_right tt

-- ---- device stores forgotten

-- A device writes another table's number into entry 0 of the top table, which the held path read. The exit is counted, the path stays,
-- and the load goes on through the table that was there before.
abbrev write : List Call
write = device_word 0 0x2003 ∷ []

device_forgotten_comes : Comes device_forgotten (begin ++ hold) (held_record, held_words)
unfolding device_forgotten after_by
device_forgotten_comes = holds_at device_forgotten marks_set refl (begins_at device_forgotten refl other_maps)

device_forgotten_says : ((unit_by device_forgotten).call (load_word 0) (after_by (unit_by device_forgotten) write (held_record, held_words))).0 ≡ value 0x3003 16 0
unfolding device_forgotten device_with drop_nothing after_by calling
device_forgotten_says = refl

write_right : (step (load_word 0) (specified memory 4 4 false false ((begin ++ hold) ++ write))).0 ≡ value 0x2003 16 1
unfolding specifying
write_right = refl

pub device_forgotten_refuted : Demand-3 (unit_by device_forgotten) → ⊥
device_forgotten_refuted = refuted device_forgotten (begin ++ hold) write (load_word 0) (held_record, held_words) (value 0x3003 16 0) (value 0x2003 16 1) device_forgotten_comes device_forgotten_says write_right tt

-- ---- drops by guest-virtual page only

-- The guest reaches its own top table through another address, under the second mark, and writes the same entry. What is dropped is
-- looked for under that address; the path that read the word stays, and leads to the old table.
abbrev pub through : List Call
through = store_word (2 ^ 39 + 0x1000) 0x2003 ∷ []

through_right : (step (load_word 0) (specified memory 4 4 false false ((begin ++ hold) ++ through))).0 ≡ value 0x2003 16 1
unfolding specifying
through_right = refl

by_own_page_comes : Comes by_own_page (begin ++ hold) (held_record, held_words)
unfolding by_own_page after_by
by_own_page_comes = holds_at by_own_page marks_set refl (begins_at by_own_page refl other_maps)

by_own_page_says : ((unit_by by_own_page).call (load_word 0) (after_by (unit_by by_own_page) through (held_record, held_words))).0 ≡ value 0x3003 16 0
unfolding by_own_page store_with drop_nothing after_by calling
by_own_page_says = refl

pub by_own_page_refuted : Demand-3 (unit_by by_own_page) → ⊥
by_own_page_refuted = refuted by_own_page (begin ++ hold) through (load_word 0) (held_record, held_words) (value 0x3003 16 0) (value 0x2003 16 1) by_own_page_comes by_own_page_says through_right tt

-- ---- nothing is dropped

-- The same store, and no path goes.
never_drops_others : after_by (unit_by never_drops) others (first_record, tables []) ≡ (first_record, mapped_words)
unfolding never_drops map_keeping after_by calling
never_drops_others = refl

never_drops_marks : after_by (unit_by never_drops) (set_mark 0 3 ∷ set_mark (2 ^ 39) 3 ∷ []) (first_record, mapped_words) ≡ (marked, mapped_words)
unfolding never_drops mark_keeping after_by calling
never_drops_marks = refl

pub never_drops_comes : Comes never_drops (begin ++ hold) (held_record, held_words)
unfolding never_drops after_by
never_drops_comes = holds_at never_drops never_drops_marks refl (begins_at never_drops first_same never_drops_others)

never_drops_says : ((unit_by never_drops).call (load_word 0) (after_by (unit_by never_drops) through (held_record, held_words))).0 ≡ value 0x3003 16 0
unfolding never_drops store_with drop_nothing after_by calling
never_drops_says = refl

pub never_drops_refuted : Demand-3 (unit_by never_drops) → ⊥
never_drops_refuted = refuted never_drops (begin ++ hold) through (load_word 0) (held_record, held_words) (value 0x3003 16 0) (value 0x2003 16 1) never_drops_comes never_drops_says through_right tt

-- ---- all is forgotten at a store

-- With a mark of level 4 the path is the root's frame, held in the record. A store into a word that no path read leaves it held, so that
-- the next load has no exit; this unit fills again.
abbrev fill_store : List Call
fill_store = set_mark 0 4 ∷ load_word 0 ∷ store_word 0x10 7 ∷ []

forgets_comes : Comes forgets_at_store begin (first_record, mapped_words)
unfolding forgets_at_store after_by
forgets_comes = begins_at forgets_at_store refl other_maps

forgets_says : ((unit_by forgets_at_store).call (load_word 0) (after_by (unit_by forgets_at_store) fill_store (first_record, mapped_words))).0 ≡ value 0x3003 20 1
unfolding forgets_at_store after_by calling
forgets_says = refl

fill_store_right : (step (load_word 0) (specified memory 4 4 false false (begin ++ fill_store))).0 ≡ value 0x3003 20 0
unfolding specifying
fill_store_right = refl

pub forgets_at_store_refuted : Demand-3 (unit_by forgets_at_store) → ⊥
forgets_at_store_refuted = refuted forgets_at_store begin fill_store (load_word 0) (first_record, mapped_words) (value 0x3003 20 1) (value 0x3003 20 0) forgets_comes forgets_says fill_store_right tt
