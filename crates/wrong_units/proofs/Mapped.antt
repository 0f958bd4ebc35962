-- A small guest on which the wrong units are run; and where our unit is after its opening and after the first map.
-- Assumes nothing.
use mathlib.Core.Path.{◌≡◌, refl, ap, ◌∙◌}
use Prim.Native.Nat.{ℕ, suc, ◌-◌, ◌*◌}
use mathlib.Core.Bool.{Bool, true, false}
use mathlib.Core.List.{List, [], ◌∷◌, ◌++◌}
use lib.ListN.{length, set, replicate}
use Rattle.spec.specs.Call.{map}
use Rattle.spec.specs.declared.Answer.TheVariants as answer
use Rattle.spec.specs.Entry.{bit_set, present, entry_limit}
use Rattle.spec.specs.Refusal.{open_refusal}
use Rattle.words.specs.After.{After}
use Rattle.pool.specs.declared.Pool.{Pool}
use Rattle.pool.specs.declared.Area.{Area}
use Rattle.pool.specs.declared.Way.TheVariants.{To, Not}
use Rattle.pool.specs.declared.Went.{Went}
use Rattle.pool.specs.Header.{entry_at_of, put_entry_of, written, header_of, inside_of}
use Rattle.pool.specs.Pool.{link, follow_of, end, none_of, with_top}
use Rattle.area.specs.Tree.{enter_of, down_of, place_of, insert_of}
use Rattle.layout.specs.Layout.{page}
use Rattle.host.specs.Map.{host_area}
use Rattle.marks.specs.Table as marks
use Rattle.record.specs.declared.Record.{Record}
use Rattle.record.specs.Record.{config_by, layout_of, guest_frame, choice_of}
use Rattle.record.specs.Open.{refusal_of, cleared_of, entered_of, first_of, granted_of}
use Rattle.calls.specs.declared.Reply.{Reply}
use Rattle.calls.specs.Calls.{ended, open_call, call_of}
use Rattle.claims.proofs.Opens.{granted_call}
use Rattle.wrong_units.proofs.Clear.{Ready, zeroed_clear, enter_clear, down_clear}
use Rattle.wrong_units.proofs.Computing.{besides, calling}

-- ---- the guest

-- words written into a memory, each with its place
abbrev pub placed : List (ℕ × ℕ) → List ℕ → List ℕ
placed [] m = m
placed (x ∷ xs) m = set (placed xs m) x.0 x.1

-- Its words, in host frames 8 to 11. Frame 0 is the top table: entry 0 names frame 1, entry 1 frame 3. Frame 1 is a table of level 3 and
-- names frame 3. Frames 2 and 3 name themselves, so that each is a table of any level and, at the end, a page; what a load of address 0
-- yields says in which of them it ended. Entry 1 of frame 3 names frame 0: the guest can write its own top table.
abbrev pub guest : List ℕ
guest = placed ((0, 0x1003) ∷ (1, 0x3003) ∷ (512, 0x3003) ∷ (1024, 0x2003) ∷ (1536, 0x3003) ∷ (1537, 0x3) ∷ []) (replicate 2048 0)

-- 12 frames: 4 for host tables, 4 for shadow tables, 4 for the guest
abbrev pub memory : List ℕ
memory = replicate 4096 0 ++ guest

-- ---- the opening

-- a record by its choices, its host tables, its shadow tables and its marks; no mark is automatic, and no request is in the window
abbrev pub record_by : Bool → Bool → Pool → Pool → List ℕ → Record
record_by bits on host shadow keys = record {
  layout = layout_of 6144 4 4 bits;
  pools = record { host = host; shadow = shadow };
  guest = record { root = guest_frame 0; held = page 0; marks = marks.table_of keys; choice = choice_of on };
}

-- with bits off, and no automatic choice
abbrev pub record_at : Pool → Pool → List ℕ → Record
record_at host shadow keys = record_by false false host shadow keys

abbrev pub none : Pool
none = record { fresh = 0; free = 0; used = 0; top = 0 }

-- the header's word of a table's level
abbrev pub level_word : ℕ → ℕ
level_word n = n * 16 * entry_limit

abbrev pub opened_words : List ℕ
opened_words = placed ((1, level_word 4) ∷ []) memory

abbrev pub opened_by : Bool → Bool → Record
opened_by bits on = record_by bits on (record { fresh = 1; free = 0; used = 1; top = 1 }) none []

abbrev pub opened_record : Record
opened_record = opened_by false false

-- where the host tables stand does not depend on the choices
abbrev area : Area
area = host_area (config_by 6144 4 4 false)

abbrev entered_on : List ℕ → After Went
entered_on m = enter_of area none_of m 0

abbrev granted_by : Bool → Bool → After Went → After Reply
granted_by bits on t = ended (first_of (layout_of 6144 4 4 bits) t.result.pool on) answer.Ok t.memory

pub grants : (bits : Bool) → refusal_of (length memory) 4 4 bits ≡ 0
unfolding refusal_of open_refusal
grants bits = refl

clears : cleared_of memory 8 ≡ memory
unfolding cleared_of
clears = zeroed_clear memory 0 4096 tt

first_is : (bits on : Bool) → ended (granted_of memory 4 4 bits on).result answer.Ok (granted_of memory 4 4 bits on).memory ≡ granted_by bits on (entered_on (cleared_of memory 8))
unfolding granted_of entered_of
first_is bits on = refl

ready : Ready area none_of memory
unfolding none_of inside_of follow_of present bit_set
ready = record { room = refl; no_freed = refl; fresh = refl; clear = tt }

no_top : follow_of 0 4 none_of.top ≡ Not
unfolding none_of follow_of present bit_set
no_top = refl

enters : (bits on : Bool) → granted_by bits on (entered_on memory) ≡ ended (opened_by bits on) answer.Ok opened_words
unfolding none_of with_top link written header_of first_of
enters bits on = ap (granted_by bits on) (enter_clear area none_of memory 0 ready no_top)

pub opens : (bits on : Bool) → open_call memory 4 4 bits on ≡ ended (opened_by bits on) answer.Ok opened_words
opens bits on = granted_call memory 4 4 bits on (grants bits) ∙ first_is bits on ∙ ap (λ m. granted_by bits on (entered_on m)) clears ∙ enters bits on

-- ---- guest frame 0 is mapped to host frame 8: there are host tables of all four levels then

-- the host tables, and the words that xs adds
abbrev pub tables : List (ℕ × ℕ) → List ℕ
tables xs =
    placed xs
    (placed ((0, 0x1001) ∷ (1, level_word 4) ∷ (512, 0x2001) ∷ (513, level_word 3) ∷ (1024, 0x3001) ∷ (1025, level_word 2) ∷ (1026, entry_limit) ∷ (1536, 0x8003) ∷ (1537, level_word 1) ∷ (1538, 2 * entry_limit) ∷ [])
    memory)

abbrev pub four_tables : Pool
four_tables = record { fresh = 4; free = 0; used = 4; top = 1 }

abbrev pub first_by : Bool → Bool → Record
first_by bits on = record_by bits on four_tables none []

abbrev pub first_record : Record
first_record = first_by false false

-- n tables are in use
abbrev in_use : ℕ → Pool
in_use n = record { fresh = n; free = 0; used = n; top = 1 }

-- the memory once the tables of level 3, 2 and 1 hang in it
abbrev hung : List ℕ → ℕ → List ℕ
hung m f = put_entry_of (header_of m (suc f) 0 (3 - f) f 0) f 0 (link (suc f))

abbrev hung3 : List ℕ
hung3 = hung opened_words 0

abbrev hung2 : List ℕ
hung2 = hung hung3 1

abbrev hung1 : List ℕ
hung1 = hung hung2 2

ready3 : Ready area (in_use 1) opened_words
unfolding calling
ready3 = record { room = refl; no_freed = refl; fresh = refl; clear = tt }

ready2 : Ready area (in_use 2) hung3
unfolding calling
ready2 = record { room = refl; no_freed = refl; fresh = refl; clear = tt }

ready1 : Ready area (in_use 3) hung2
unfolding calling
ready1 = record { room = refl; no_freed = refl; fresh = refl; clear = tt }

none3 : follow_of 0 4 (entry_at_of opened_words 0 0) ≡ Not
unfolding calling
none3 = refl

none2 : follow_of 0 4 (entry_at_of hung3 1 0) ≡ Not
unfolding calling
none2 = refl

none1 : follow_of 0 4 (entry_at_of hung2 2 0) ≡ Not
unfolding calling
none1 = refl

insert_down : insert_of area [] (in_use 1) opened_words (0 ∷ 0 ∷ 0 ∷ 0 ∷ []) 0x8003 ≡ down_of area [] (in_use 1) opened_words 0 0 0 (0 ∷ 0 ∷ 0 ∷ []) 0x8003
unfolding besides insert_of place_of enter_of
insert_down = refl

down_end : down_of area [] (in_use 4) hung1 3 3 0 [] 0x8003 ≡ end four_tables (To 3) (tables [])
unfolding calling
down_end = refl

inserts : insert_of area [] (in_use 1) opened_words (0 ∷ 0 ∷ 0 ∷ 0 ∷ []) 0x8003 ≡ end four_tables (To 3) (tables [])
inserts =
    insert_down ∙ down_clear area [] (in_use 1) opened_words 0 0 0 0 (0 ∷ 0 ∷ []) 0x8003 ready3 none3
    ∙ down_clear area [] (in_use 2) hung3 1 1 0 0 (0 ∷ []) 0x8003 ready2 none2
    ∙ down_clear area [] (in_use 3) hung2 2 2 0 0 [] 0x8003 ready1 none1
    ∙ down_end

pub first_map : (bits on : Bool) → call_of (map 0 8 true) (opened_by bits on) opened_words ≡ ended (first_by bits on) answer.Ok (tables [])
unfolding besides
first_map false false = rw inserts
first_map false true = rw inserts
first_map true false = rw inserts
first_map true true = rw inserts
