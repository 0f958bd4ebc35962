-- Units that misread widths (document 02, 4). Each is refused by demand 3: by the bytes that a load yields or a store leaves, by a path
-- that a byte of an entry should have dropped, or by a refusal. Assumes nothing.
use mathlib.Core.Path.{◌≡◌, refl}
use Prim.Native.Nat.{◌+◌, ◌^◌}
use mathlib.Core.Bool.{false}
use mathlib.Core.List.{List, [], ◌∷◌, ◌++◌}
use Rattle.spec.specs.Answer.{value, fault, no}
use Rattle.spec.specs.Call.{Call, set_mark, load, store, device, load_word, store_word}
use Rattle.spec.specs.Run.{step}
use Rattle.spec.specs.Computing.{specifying}
use Rattle.wrong_units.specs.Unit.{after_by, specified, Demand-3, unit_by}
use Rattle.wrong_units.specs.Wrong.{store_with, drop_nothing, clearing_in, drop_at_zero, big_endian, clears_the_rest, drops_at_byte_zero, multiples_of_eight, address_first, devices_whole}
use Rattle.wrong_units.proofs.Computing.{calling}
use Rattle.wrong_units.proofs.Mapped.{memory, opened_record, opened_words, first_record}
use Rattle.wrong_units.proofs.Filled.{mapped_words, other_maps, marks_set, held_record, held_words}
use Rattle.wrong_units.proofs.Refute.{Comes, refuted, refuted_opened, begin, begins_at, hold, holds_at}
use Rattle.wrong_units.proofs.Answers.{plain}

-- ---- the highest byte first: the word at address 0 is 0x3003, and its first byte 3

big_comes : Comes big_endian begin (first_record, mapped_words)
unfolding big_endian after_by
big_comes = begins_at big_endian refl other_maps

big_says : ((unit_by big_endian).call (load 0 1) (after_by (unit_by big_endian) plain (first_record, mapped_words))).0 ≡ value 0 24 0
unfolding big_endian after_by calling
big_says = refl

byte_right : (step (load 0 1) (specified memory 4 4 false false (begin ++ plain))).0 ≡ value 3 24 0
unfolding specifying
byte_right = refl

pub big_endian_refuted : Demand-3 (unit_by big_endian) → ⊥
big_endian_refuted = refuted big_endian begin plain (load 0 1) (first_record, mapped_words) (value 0 24 0) (value 3 24 0) big_comes big_says byte_right tt

-- ---- the rest of the word is cleared: a byte is stored beside another

abbrev beside : List Call
beside = set_mark 0 5 ∷ store_word 0x10 0x1122 ∷ store 0x11 1 0x33 ∷ []

clears_comes : Comes clears_the_rest begin (first_record, mapped_words)
unfolding clears_the_rest after_by
clears_comes = begins_at clears_the_rest refl other_maps

clears_says : ((unit_by clears_the_rest).call (load_word 0x10) (after_by (unit_by clears_the_rest) beside (first_record, mapped_words))).0 ≡ value 0x3300 24 0
unfolding clears_the_rest store_with clearing_in after_by calling
clears_says = refl

beside_right : (step (load_word 0x10) (specified memory 4 4 false false (begin ++ beside))).0 ≡ value 0x3322 24 0
unfolding specifying
beside_right = refl

pub clears_the_rest_refuted : Demand-3 (unit_by clears_the_rest) → ⊥
clears_the_rest_refuted = refuted clears_the_rest begin beside (load_word 0x10) (first_record, mapped_words) (value 0x3300 24 0) (value 0x3322 24 0) clears_comes clears_says beside_right tt

-- ---- drops by byte 0 alone

-- Through another address the guest writes byte 1 of its top table's entry 0, which has the low bits of the frame. The path that read the
-- entry stays, and leads to the old table.
abbrev byte_one : List Call
byte_one = store (2 ^ 39 + 0x1001) 1 0x20 ∷ []

at_zero_comes : Comes drops_at_byte_zero (begin ++ hold) (held_record, held_words)
unfolding drops_at_byte_zero after_by
at_zero_comes = holds_at drops_at_byte_zero marks_set refl (begins_at drops_at_byte_zero refl other_maps)

at_zero_says : ((unit_by drops_at_byte_zero).call (load_word 0) (after_by (unit_by drops_at_byte_zero) byte_one (held_record, held_words))).0 ≡ value 0x3003 16 0
unfolding drops_at_byte_zero store_with drop_at_zero drop_nothing after_by calling
at_zero_says = refl

byte_one_right : (step (load_word 0) (specified memory 4 4 false false ((begin ++ hold) ++ byte_one))).0 ≡ value 0x2003 16 1
unfolding specifying
byte_one_right = refl

pub drops_at_byte_zero_refuted : Demand-3 (unit_by drops_at_byte_zero) → ⊥
drops_at_byte_zero_refuted = refuted drops_at_byte_zero (begin ++ hold) byte_one (load_word 0) (held_record, held_words) (value 0x3003 16 0) (value 0x2003 16 1) at_zero_comes at_zero_says byte_one_right tt

-- ---- refusals, right after the opening: with no frame mapped, a request that is served meets H of its first frame

multiples_says : ((unit_by multiples_of_eight).call (load 1 1) (opened_record, opened_words)).0 ≡ no 4
unfolding multiples_of_eight calling
multiples_says = refl

odd_right : (step (load 1 1) (specified memory 4 4 false false [])).0 ≡ fault 72 0 0 1 1
unfolding specifying
odd_right = refl

pub multiples_of_eight_refuted : Demand-3 (unit_by multiples_of_eight) → ⊥
unfolding after_by
multiples_of_eight_refuted = refuted_opened multiples_of_eight [] (load 1 1) (no 4) (fault 72 0 0 1 1) multiples_says odd_right tt

first_says : ((unit_by address_first).call (load (2 ^ 48) 3) (opened_record, opened_words)).0 ≡ no 4
unfolding address_first calling
first_says = refl

width_right : (step (load (2 ^ 48) 3) (specified memory 4 4 false false [])).0 ≡ no 15
unfolding specifying
width_right = refl

pub address_first_refuted : Demand-3 (unit_by address_first) → ⊥
unfolding after_by
address_first_refuted = refuted_opened address_first [] (load (2 ^ 48) 3) (no 4) (no 15) first_says width_right tt

whole_says : ((unit_by devices_whole).call (device 1 1 0) (opened_record, opened_words)).0 ≡ no 4
unfolding devices_whole calling
whole_says = refl

device_odd_right : (step (device 1 1 0) (specified memory 4 4 false false [])).0 ≡ fault 72 0 0 1 1
unfolding specifying
device_odd_right = refl

pub devices_whole_refuted : Demand-3 (unit_by devices_whole) → ⊥
unfolding after_by
devices_whole_refuted = refuted_opened devices_whole [] (device 1 1 0) (no 4) (fault 72 0 0 1 1) whole_says device_odd_right tt
