-- What our unit comes to on the small guest: its frames mapped, marks set, a path held.
-- Assumes nothing.
use mathlib.Core.Path.{◌≡◌, refl, ◌∙◌}
use Prim.Native.Nat.{ℕ, ◌+◌, ◌*◌, ◌^◌}
use mathlib.Core.Bool.{true, false}
use mathlib.Core.List.{List, [], ◌∷◌}
use lib.ListN.{replicate}
use Rattle.spec.specs.Call.{Call, map, set_mark, load_word}
use Rattle.spec.specs.declared.Answer.TheVariants as answer
use Rattle.spec.specs.Entry.{entry_limit}
use Rattle.pool.specs.declared.Area.{Area}
use Rattle.pool.specs.declared.Way.TheVariants.{To, Not}
use Rattle.pool.specs.Pool.{follow_of, end}
use Rattle.area.specs.Tree.{down_of, place_of, insert_of}
use Rattle.record.specs.declared.Record.{Record}
use Rattle.record.specs.Record.{config_by}
use Rattle.shadow.specs.Held.{shadow_area}
use Rattle.calls.specs.Calls.{ended, call_of}
use Rattle.wrong_units.specs.Unit.{after_by, cangrieb}
use Rattle.wrong_units.proofs.Clear.{Ready, enter_clear}
use Rattle.wrong_units.proofs.Computing.{besides, calling}
use Rattle.wrong_units.proofs.Mapped.{placed, record_at, none, level_word, tables, four_tables, first_record}

abbrev pub mapped_words : List ℕ
mapped_words = tables ((1537, level_word 1 + 0x9003) ∷ (1538, 2 * entry_limit + 0xa003) ∷ (1539, 0xb003) ∷ [])

-- the other three frames
abbrev pub others : List Call
others = map 1 9 true ∷ map 2 10 true ∷ map 3 11 true ∷ []

pub other_maps : after_by cangrieb others (first_record, tables []) ≡ (first_record, mapped_words)
unfolding calling after_by
other_maps = refl

-- ---- two marks of level 3, and a load that fills the path of the first: a shadow table whose entry 0 leads, with the switch bit, to the
-- host frame 9 of the guest's table of level 3

abbrev pub marked : Record
marked = record_at four_tables none (3 ∷ 11 ∷ [])

pub marks_set : after_by cangrieb (set_mark 0 3 ∷ set_mark (2 ^ 39) 3 ∷ []) (first_record, mapped_words) ≡ (marked, mapped_words)
unfolding calling after_by
marks_set = refl

abbrev pub held_record : Record
held_record = record_at four_tables (record { fresh = 1; free = 0; used = 1; top = 0x4001 }) (3 ∷ 11 ∷ [])

abbrev pub held_words : List ℕ
held_words = placed ((2048, 8 * entry_limit + 0x9203) ∷ (2049, level_word 4) ∷ []) mapped_words

abbrev area : Area
area = shadow_area (config_by 6144 4 4 false)

-- the host frames of the guest tables on the path: the top one's is 8
abbrev trail : List ℕ
trail = 8 ∷ replicate 7 0

ready : Ready area none mapped_words
unfolding calling
ready = record { room = refl; no_freed = refl; fresh = refl; clear = tt }

no_top : follow_of 4 4 0 ≡ Not
unfolding calling
no_top = refl

insert_place : insert_of area trail none mapped_words (0 ∷ []) 0x9203 ≡ place_of area trail none mapped_words 0 [] 0x9203
unfolding besides insert_of
insert_place = refl

place_end : place_of area trail none mapped_words 0 [] 0x9203 ≡ end held_record.pools.shadow (To 4) held_words
unfolding besides place_of down_of
place_end = rw (enter_clear area none mapped_words 8 ready no_top)

pub inserts : insert_of area trail none mapped_words (0 ∷ []) 0x9203 ≡ end held_record.pools.shadow (To 4) held_words
inserts = insert_place ∙ place_end

pub fills : call_of (load_word 0) marked mapped_words ≡ ended held_record (answer.Value 0x3003 16 1) held_words
unfolding besides
fills = rw inserts
