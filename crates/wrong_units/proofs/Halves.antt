-- Units that misread what a legal address is. Each is refused by demand 3, right after the opening: with no frame mapped, a request that
-- is served meets H of the root's frame. Assumes nothing.
use mathlib.Core.Path.{◌≡◌, refl}
use Prim.Native.Nat.{◌-◌, ◌^◌}
use mathlib.Core.Bool.{false}
use mathlib.Core.List.{List, [], ◌∷◌}
use Rattle.spec.specs.Answer.{ok, fault, no}
use Rattle.spec.specs.Call.{Call, set_mark, load_word, device_word}
use Rattle.spec.specs.Run.{step}
use Rattle.spec.specs.Computing.{specifying}
use Rattle.wrong_units.specs.Unit.{after_by, specified, Demand-3, unit_by}
use Rattle.wrong_units.specs.Wrong.{lower_half_only, sign_not_compared, devices_signed, marks_by_all_bits}
use Rattle.wrong_units.proofs.Computing.{calling}
use Rattle.wrong_units.proofs.Mapped.{memory, opened_record, opened_words}
use Rattle.wrong_units.proofs.Refute.{refuted_opened}

-- ---- the old limit: the first address of the upper half is walked

lower_says : ((unit_by lower_half_only).call (load_word 0xFFFF800000000000) (opened_record, opened_words)).0 ≡ no 4
unfolding lower_half_only calling
lower_says = refl

upper_right : (step (load_word 0xFFFF800000000000) (specified memory 4 4 false false [])).0 ≡ fault 72 0 0 1 1
unfolding specifying
upper_right = refl

pub lower_half_only_refuted : Demand-3 (unit_by lower_half_only) → ⊥
unfolding after_by
lower_half_only_refuted = refuted_opened lower_half_only [] (load_word 0xFFFF800000000000) (no 4) (fault 72 0 0 1 1) lower_says upper_right tt

-- ---- bit 47 not compared: 2 ^ 47 is no address

sign_says : ((unit_by sign_not_compared).call (load_word 0x800000000000) (opened_record, opened_words)).0 ≡ fault 72 0 0 1 1
unfolding sign_not_compared calling
sign_says = refl

sign_right : (step (load_word 0x800000000000) (specified memory 4 4 false false [])).0 ≡ no 4
unfolding specifying
sign_right = refl

pub sign_not_compared_refuted : Demand-3 (unit_by sign_not_compared) → ⊥
unfolding after_by
sign_not_compared_refuted = refuted_opened sign_not_compared [] (load_word 0x800000000000) (fault 72 0 0 1 1) (no 4) sign_says sign_right tt

-- ---- devices tested by the new rule: the last frame that a guest can have is one that a device may name

devices_says : ((unit_by devices_signed).call (device_word 0xFFFFFFFFFFF8 1) (opened_record, opened_words)).0 ≡ no 4
unfolding devices_signed calling
devices_says = refl

device_right : (step (device_word 0xFFFFFFFFFFF8 1) (specified memory 4 4 false false [])).0 ≡ fault 72 0 (2 ^ 36 - 1) 1 1
unfolding specifying
device_right = refl

pub devices_signed_refuted : Demand-3 (unit_by devices_signed) → ⊥
unfolding after_by
devices_signed_refuted = refuted_opened devices_signed [] (device_word 0xFFFFFFFFFFF8 1) (no 4) (fault 72 0 (2 ^ 36 - 1) 1 1) devices_says device_right tt

-- ---- a mark by all 64 bits: no mark has such a key, so the record that the call leaves breaks a rule

abbrev upper_mark : List Call
upper_mark = set_mark 0xFFFF800000000000 1 ∷ []

marks_says : ((unit_by marks_by_all_bits).call (set_mark 0 1) (after_by (unit_by marks_by_all_bits) upper_mark (opened_record, opened_words))).0 ≡ no 3
unfolding marks_by_all_bits after_by calling
marks_says = refl

marks_right : (step (set_mark 0 1) (specified memory 4 4 false false upper_mark)).0 ≡ ok
unfolding specifying
marks_right = refl

pub marks_by_all_bits_refuted : Demand-3 (unit_by marks_by_all_bits) → ⊥
marks_by_all_bits_refuted = refuted_opened marks_by_all_bits upper_mark (set_mark 0 1) (no 3) ok marks_says marks_right tt
