-- Units that answer wrongly at once: counts, values, faults, stores and refusals. Each is refused by demand 3, by one call after the
-- guest's frames are mapped; a mark of level 5 makes each request the plain walk, so that no table of the unit's is in the way.
-- Assumes nothing.
use mathlib.Core.Path.{◌≡◌, refl, ap, ◌∙◌}
use Prim.Native.Nat.{◌^◌}
use mathlib.Core.Bool.{true, false}
use mathlib.Core.List.{List, [], ◌∷◌, ◌++◌}
use Rattle.spec.specs.Answer.{ok, value, fault, no}
use Rattle.spec.specs.Call.{Call, map, set_mark, load_word, store_word}
use Rattle.spec.specs.Guest.{marks_on}
use Rattle.spec.specs.Run.{step}
use Rattle.spec.specs.Computing.{specifying}
use Rattle.wrong_units.specs.Unit.{after_by, specified, Demand-3, told, unit_by}
use Rattle.wrong_units.specs.Wrong.{flat_counts, read_only_missing, one_word, faults_all, stores_nothing, tables_full, marks_full}
use Rattle.wrong_units.proofs.Computing.{calling}
use Rattle.wrong_units.proofs.Mapped.{memory, opens, opened_record, opened_words, tables, first_record, first_map}
use Rattle.wrong_units.proofs.Filled.{mapped_words, other_maps}
use Rattle.wrong_units.proofs.Refute.{Comes, refuted, refuted_opened, begin, begins_at}

abbrev pub plain : List Call
plain = set_mark 0 5 ∷ []

pub plain_right : (step (load_word 0) (specified memory 4 4 false false (begin ++ plain))).0 ≡ value 0x3003 24 0
unfolding specifying
plain_right = refl

-- ---- counts of 4 and 0 always: a plain walk reads 24 words

flat_comes : Comes flat_counts begin (first_record, mapped_words)
unfolding flat_counts after_by
flat_comes = begins_at flat_counts refl other_maps

flat_says : ((unit_by flat_counts).call (load_word 0) (after_by (unit_by flat_counts) plain (first_record, mapped_words))).0 ≡ value 0x3003 4 0
unfolding flat_counts after_by calling
flat_says = refl

pub flat_counts_refuted : Demand-3 (unit_by flat_counts) → ⊥
flat_counts_refuted = refuted flat_counts begin plain (load_word 0) (first_record, mapped_words) (value 0x3003 4 0) (value 0x3003 24 0) flat_comes flat_says plain_right tt

-- ---- every request faults: this load is granted

pub faults_comes : Comes faults_all begin (first_record, mapped_words)
unfolding faults_all after_by
faults_comes = begins_at faults_all refl other_maps

faults_says : ((unit_by faults_all).call (load_word 0) (after_by (unit_by faults_all) plain (first_record, mapped_words))).0 ≡ fault 65 4 0 5 1
unfolding faults_all after_by calling
faults_says = refl

pub faults_all_refuted : Demand-3 (unit_by faults_all) → ⊥
faults_all_refuted = refuted faults_all begin plain (load_word 0) (first_record, mapped_words) (fault 65 4 0 5 1) (value 0x3003 24 0) faults_comes faults_says plain_right tt

-- ---- one word for all: the first guest word is the top table's entry 0, and the page has another

pub one_word_comes : Comes one_word begin (first_record, mapped_words)
unfolding one_word after_by
one_word_comes = begins_at one_word refl other_maps

one_word_says : ((unit_by one_word).call (load_word 0) (after_by (unit_by one_word) plain (first_record, mapped_words))).0 ≡ value 0x1003 24 0
unfolding one_word after_by calling
one_word_says = refl

pub one_word_refuted : Demand-3 (unit_by one_word) → ⊥
one_word_refuted = refuted one_word begin plain (load_word 0) (first_record, mapped_words) (value 0x1003 24 0) (value 0x3003 24 0) one_word_comes one_word_says plain_right tt

-- ---- nothing is stored: a 7 written is read again as 0

abbrev written : List Call
written = set_mark 0 5 ∷ store_word 0x10 7 ∷ []

stores_nothing_comes : Comes stores_nothing begin (first_record, mapped_words)
unfolding stores_nothing after_by
stores_nothing_comes = begins_at stores_nothing refl other_maps

stores_nothing_says : ((unit_by stores_nothing).call (load_word 0x10) (after_by (unit_by stores_nothing) written (first_record, mapped_words))).0 ≡ value 0 24 0
unfolding stores_nothing after_by calling
stores_nothing_says = refl

written_right : (step (load_word 0x10) (specified memory 4 4 false false (begin ++ written))).0 ≡ value 7 24 0
unfolding specifying
written_right = refl

pub stores_nothing_refuted : Demand-3 (unit_by stores_nothing) → ⊥
stores_nothing_refuted = refuted stores_nothing begin written (load_word 0x10) (first_record, mapped_words) (value 0 24 0) (value 7 24 0) stores_nothing_comes stores_nothing_says written_right tt

-- ---- version 1: a page that is mapped read-only is W, and no missing page

abbrev locked : List Call
locked = map 3 11 false ∷ set_mark 0 5 ∷ []

missing_comes : Comes read_only_missing begin (first_record, mapped_words)
unfolding read_only_missing after_by
missing_comes = begins_at read_only_missing refl other_maps

missing_says : ((unit_by read_only_missing).call (store_word 0 1) (after_by (unit_by read_only_missing) locked (first_record, mapped_words))).0 ≡ fault 72 0 3 24 1
unfolding read_only_missing after_by calling
missing_says = refl

locked_right : (step (store_word 0 1) (specified memory 4 4 false false (begin ++ locked))).0 ≡ fault 87 0 3 24 1
unfolding specifying
locked_right = refl

pub read_only_missing_refuted : Demand-3 (unit_by read_only_missing) → ⊥
read_only_missing_refuted = refuted read_only_missing begin locked (store_word 0 1) (first_record, mapped_words) (fault 72 0 3 24 1) (fault 87 0 3 24 1) missing_comes missing_says locked_right tt

-- ---- 10 with tables free: the second frame has all its tables already

tables_full_comes : Comes tables_full (map 0 8 true ∷ []) (first_record, tables [])
unfolding tables_full after_by
tables_full_comes = ap (λ e. after_by (unit_by tables_full) (map 0 8 true ∷ []) (told e).1) (opens false false) ∙ ap (λ e. (told e).1) (first_map false false)

tables_full_says : ((unit_by tables_full).call (map 1 9 true) (first_record, tables [])).0 ≡ no 10
unfolding tables_full
tables_full_says = refl

second_right : (step (map 1 9 true) (specified memory 4 4 false false (map 0 8 true ∷ []))).0 ≡ ok
unfolding specifying
second_right = refl

pub tables_full_refuted : Demand-3 (unit_by tables_full) → ⊥
unfolding after_by
tables_full_refuted = refuted tables_full (map 0 8 true ∷ []) [] (map 1 9 true) (first_record, tables []) (no 10) ok tables_full_comes tables_full_says second_right tt

-- ---- 7 with marks free: the fifth mark is refused

marks_full_says : ((unit_by marks_full).call (set_mark (2 ^ 39) 1) (after_by (unit_by marks_full) (marks_on 4) (opened_record, opened_words))).0 ≡ no 7
unfolding marks_full after_by calling
marks_full_says = refl

last_right : (step (set_mark (2 ^ 39) 1) (specified memory 4 4 false false (marks_on 4))).0 ≡ ok
unfolding specifying
last_right = refl

pub marks_full_refuted : Demand-3 (unit_by marks_full) → ⊥
marks_full_refuted = refuted_opened marks_full (marks_on 4) (set_mark (2 ^ 39) 1) (no 7) ok marks_full_says last_right tt
