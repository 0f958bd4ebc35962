-- Units that demand 2 refuses too: their loads do not come to what the plain walk over their own memory comes to.
-- Assumes nothing.
use mathlib.Core.Path.{◌≡◌, refl}
use Prim.Native.Nat.{ℕ}
use native.Mathlib.Omega.{arith}
use mathlib.Core.Bool.{true, false}
use mathlib.Core.List.{◌++◌}
use Rattle.spec.specs.Entry.{word_of}
use Rattle.spec.specs.declared.Fault.TheVariants.{Absent}
use Rattle.spec.specs.declared.Answer.TheVariants as answer
use Rattle.spec.specs.Bytes.{bytes_at}
use Rattle.spec.specs.Call.{load_word}
use Rattle.words.specs.Words.{word_in}
use Rattle.layout.specs.Layout.{page}
use Rattle.walk.specs.declared.Walked.TheVariants as walked
use Rattle.claims.specs.Plain.{plain_walk, with_own}
use Rattle.wrong_units.specs.Unit.{after_by, Demand-2, unit_by}
use Rattle.wrong_units.specs.Wrong.{never_drops, faults_all, one_word, store_with, drop_nothing}
use Rattle.wrong_units.proofs.Computing.{calling}
use Rattle.wrong_units.proofs.Mapped.{first_record}
use Rattle.wrong_units.proofs.Filled.{mapped_words, held_record, held_words}
use Rattle.wrong_units.proofs.Refute.{not_as_walked, begin, hold}
use Rattle.wrong_units.proofs.Answers.{plain, faults_comes, one_word_comes}
use Rattle.wrong_units.proofs.Drops.{through, never_drops_comes}

-- ---- every request faults

faults_answer : let e = after_by (unit_by faults_all) plain (first_record, mapped_words) in (faults_all (load_word 0) e.0 e.1).result.answer ≡ answer.Faulted (Absent 4) 5 1
unfolding faults_all after_by calling
faults_answer = refl

faults_walk : let e = after_by (unit_by faults_all) plain (first_record, mapped_words) in plain_walk e.0 e.1 false 0 ≡ walked.Arrived true (page 11) 24
unfolding faults_all after_by calling
faults_walk = refl

faults_word : let e = after_by (unit_by faults_all) plain (first_record, mapped_words) in bytes_at 0 8 (word_in (with_own e.0 e.1 false 0) 11 0) ≡ 0x3003
unfolding faults_all after_by calling
faults_word = refl

pub faults_all_not_walked : Demand-2 faults_all → ⊥
unfolding word_of
faults_all_not_walked =
    not_as_walked faults_all begin plain 0 8 0x3003 (first_record, mapped_words) (page 11) true 24 (answer.Faulted (Absent 4) 5 1) faults_comes faults_answer tt faults_walk faults_word
    (λ n c e. let o : ◌≡◌ {A = ℕ} 0 1 = cc in absurd (omega arith))

-- ---- one word for all

one_word_answer : let e = after_by (unit_by one_word) plain (first_record, mapped_words) in (one_word (load_word 0) e.0 e.1).result.answer ≡ answer.Value 0x1003 24 0
unfolding one_word after_by calling
one_word_answer = refl

one_word_walk : let e = after_by (unit_by one_word) plain (first_record, mapped_words) in plain_walk e.0 e.1 false 0 ≡ walked.Arrived true (page 11) 24
unfolding one_word after_by calling
one_word_walk = refl

one_word_word : let e = after_by (unit_by one_word) plain (first_record, mapped_words) in bytes_at 0 8 (word_in (with_own e.0 e.1 false 0) 11 0) ≡ 0x3003
unfolding one_word after_by calling
one_word_word = refl

pub one_word_not_walked : Demand-2 one_word → ⊥
unfolding word_of
one_word_not_walked =
    not_as_walked one_word begin plain 0 8 0x3003 (first_record, mapped_words) (page 11) true 24 (answer.Value 0x1003 24 0) one_word_comes one_word_answer tt one_word_walk one_word_word
    (λ n c e. let o : ◌≡◌ {A = ℕ} 0x1003 0x3003 = cc in absurd (omega arith))

-- ---- nothing is dropped: after the store into the top table the walk arrives in frame 10, the load in frame 11

never_drops_answer : let e = after_by (unit_by never_drops) through (held_record, held_words) in (never_drops (load_word 0) e.0 e.1).result.answer ≡ answer.Value 0x3003 16 0
unfolding never_drops store_with drop_nothing after_by calling
never_drops_answer = refl

never_drops_walk : let e = after_by (unit_by never_drops) through (held_record, held_words) in plain_walk e.0 e.1 false 0 ≡ walked.Arrived true (page 10) 24
unfolding never_drops store_with drop_nothing after_by calling
never_drops_walk = refl

never_drops_word : let e = after_by (unit_by never_drops) through (held_record, held_words) in bytes_at 0 8 (word_in (with_own e.0 e.1 false 0) 10 0) ≡ 0x2003
unfolding never_drops store_with drop_nothing after_by calling
never_drops_word = refl

pub never_drops_not_walked : Demand-2 never_drops → ⊥
unfolding word_of
never_drops_not_walked =
    not_as_walked never_drops (begin ++ hold) through 0 8 0x2003 (held_record, held_words) (page 10) true 24 (answer.Value 0x3003 16 0) never_drops_comes never_drops_answer tt never_drops_walk never_drops_word
    (λ n c e. let o : ◌≡◌ {A = ℕ} 0x3003 0x2003 = cc in absurd (omega arith))
