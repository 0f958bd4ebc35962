-- A unit whose loads walk both sets of tables in full and report the counts of held paths. Its lines and its guest words are right, so
-- that demand 3 lets it pass; but its values rest on words that it does not count, and the claim about these refuses it.
-- Assumes nothing.
use mathlib.Core.Path.{◌≡◌, refl, sym, ap, ◌∙◌, subst}
use mathlib.Core.Logic.{inl}
use Prim.Native.Nat.{ℕ}
use native.Mathlib.Omega.{arith}
use mathlib.Core.Bool.{Bool, false, false≢true}
use mathlib.Core.List.{List, [], ◌∷◌, ◌++◌}
use mathlib.Core.Option.{none}
use lib.Dec.{T, eqb, eqb→eq}
use lib.ListN.{length, set, length-set}
use Rattle.spec.specs.declared.Answer.{Answer}
use Rattle.spec.specs.declared.Answer.TheVariants as answer
use Rattle.spec.specs.Answer.{line, value, fault}
use Rattle.spec.specs.Call.{root, map, unmap, set_mark, clear_mark, load, store, device, forecast, load_word}
use Rattle.spec.specs.Refusal.{all_of}
use Rattle.spec.specs.Computing.{specifying}
use Rattle.spec_laws.proofs.Lists.{and_left, and_right}
use Rattle.words.specs.After.{After}
use Rattle.words.specs.Words.{word_in}
use Rattle.area.specs.Tree.{entries_read}
use Rattle.walk.specs.declared.Walked.{Walked}
use Rattle.walk.specs.declared.Walked.TheVariants as walked
use Rattle.record.specs.declared.Record.{Record}
use Rattle.calls.specs.declared.Reply.{Reply}
use Rattle.calls.specs.Calls.{call_of}
use Rattle.claims.specs.Counted.{Word, SameWords, HeldOrPlain, SetsNone, walk_words, path_words, counted_of, touched_of}
use Rattle.claims.specs.Plain.{plain_walk, with_own, AsWalked, Unrefused}
use Rattle.claims.proofs.Plain.{as_walked}
use Rattle.wrong_units.specs.Unit.{after_by, specified, Demand-3, WordsCounted, unit_by}
use Rattle.wrong_units.specs.Wrong.{rewalked, walks_in_full}
use Rattle.wrong_units.proofs.Ours.{AsOurs, as_ours_demand_3}
use Rattle.wrong_units.proofs.Computing.{calling}
use Rattle.wrong_units.proofs.Mapped.{memory, grants}
use Rattle.wrong_units.proofs.Filled.{other_maps, marks_set, held_record, held_words}
use Rattle.wrong_units.proofs.Refute.{Comes, begin, begins_at, hold, holds_at, differ}

-- ---- demand 3 lets it pass

-- what the plain walk over the memory comes to is what the load said
rewalked_same : (r : Record) (m : List ℕ) (a w : ℕ) (e : After Reply) (y : Walked) (x : Answer) → e.result.answer ≡ x → (Unrefused x → AsWalked r m a w none e y)
    → line (rewalked (with_own r m false a) a w y x) ≡ line x
rewalked_same r m a w e y answer.Ok p k = refl
rewalked_same r m a w e y (answer.Done n c) p k = refl
rewalked_same r m a w e y (answer.Refused n) p k = refl
rewalked_same r m a w e y (answer.Figures n c t) p k = refl
rewalked_same r m a w e (walked.Arrived b t i) (answer.Value v n c) p k =
    let z = sym (ap line p) ∙ (k tt).says in
    cc
rewalked_same r m a w e (walked.Faulted y i) (answer.Value v n c) p k =
    let z = sym (ap line p) ∙ (k tt).says in
    let o : ◌≡◌ {A = ℕ} 0 1 = cc in absurd (omega arith)
rewalked_same r m a w e walked.Damaged (answer.Value v n c) p k = absurd (k tt)
rewalked_same r m a w e (walked.Arrived b t i) (answer.Faulted x n c) p k =
    let z = sym (ap line p) ∙ (k tt).says in
    let o : ◌≡◌ {A = ℕ} 0 1 = cc in absurd (omega arith)
rewalked_same r m a w e (walked.Faulted y i) (answer.Faulted x n c) p k =
    let z = sym (ap line p) ∙ (k tt).says in
    cc
rewalked_same r m a w e walked.Damaged (answer.Faulted x n c) p k = absurd (k tt)

in_full_as_ours : AsOurs walks_in_full
unfolding walks_in_full
in_full_as_ours s r m i o (load a w) =
    let e = call_of (load a w) r m in
    ap (λ l. (l, (e.result.unit, e.memory))) (rewalked_same r m a w e (plain_walk r m false a) e.result.answer refl (as_walked s r m i o a w none))
in_full_as_ours s r m i o (root g) = refl
in_full_as_ours s r m i o (map g f w) = refl
in_full_as_ours s r m i o (unmap g) = refl
in_full_as_ours s r m i o (set_mark a n) = refl
in_full_as_ours s r m i o (clear_mark a n) = refl
in_full_as_ours s r m i o (store a w v) = refl
in_full_as_ours s r m i o (device a w v) = refl
in_full_as_ours s r m i o (forecast xs) = refl

pub in_full_demand_3 : Demand-3 (unit_by walks_in_full)
in_full_demand_3 = as_ours_demand_3 walks_in_full in_full_as_ours

-- ---- the words counted do not

in_full_comes : Comes walks_in_full (begin ++ hold) (held_record, held_words)
unfolding walks_in_full after_by
in_full_comes = holds_at walks_in_full marks_set refl (begins_at walks_in_full refl other_maps)

-- the path of address 0 is held: its load does not read the top table's entry 0. Another memory has a 0 there
abbrev altered : List ℕ
altered = set held_words 4096 0

same_words : (m n : List ℕ) (xs : List Word) → T (all_of (λ (x : Word). eqb (word_in n x.0 x.1) (word_in m x.0 x.1)) xs) → SameWords m n xs
same_words m n [] t = tt
same_words m n (x ∷ xs) t = (
  eqb→eq (word_in n x.0 x.1) (word_in m x.0 x.1) (and_left (eqb (word_in n x.0 x.1) (word_in m x.0 x.1)) (all_of (λ (x : Word). eqb (word_in n x.0 x.1) (word_in m x.0 x.1)) xs) t),
  same_words m n xs (and_right (eqb (word_in n x.0 x.1) (word_in m x.0 x.1)) (all_of (λ (x : Word). eqb (word_in n x.0 x.1) (word_in m x.0 x.1)) xs) t),
)

abbrev SameOn : List Word → Bool
SameOn xs = all_of (λ (x : Word). eqb (word_in altered x.0 x.1) (word_in held_words x.0 x.1)) xs

same_counted : T (SameOn (counted_of held_record held_words false 0))
unfolding counted_of path_words walk_words entries_read calling
same_counted = tt

same_touched : T (SameOn (touched_of held_record held_words false 0))
unfolding touched_of calling
same_touched = tt

path_held : HeldOrPlain (specified memory 4 4 false false (begin ++ hold)).config (specified memory 4 4 false false (begin ++ hold)).machine (specified memory 4 4 false false (begin ++ hold)).book false 0
unfolding HeldOrPlain specifying
path_held = inl tt

-- with bits off no load sets one
bits_off : SetsNone held_record held_words false 0
unfolding SetsNone
bits_off on l = absurd (false≢true on)

says_before : line (walks_in_full (load_word 0) held_record held_words).result.answer ≡ value 0x3003 16 0
unfolding walks_in_full calling
says_before = refl

says_altered : line (walks_in_full (load_word 0) held_record altered).result.answer ≡ fault 65 4 0 16 0
unfolding walks_in_full calling
says_altered = refl

pub walks_in_full_refuted : WordsCounted walks_in_full → ⊥
unfolding WordsCounted
walks_in_full_refuted d =
    differ (fault 65 4 0 16 0) (value 0x3003 16 0) tt
    (sym says_altered
    ∙ subst Same in_full_comes (d memory 4 4 false false (begin ++ hold) (grants false) 0 8 path_held) bits_off altered (length-set held_words 4096 0)
    (same_words held_words altered (counted_of held_record held_words false 0) same_counted)
    (same_words held_words altered (touched_of held_record held_words false 0) same_touched)
    ∙ says_before)
  where
    Same : Record × List ℕ → Type 0
    Same e = SetsNone e.0 e.1 false 0 → (n : List ℕ) → length n ≡ length e.1 → SameWords e.1 n (counted_of e.0 e.1 false 0) → SameWords e.1 n (touched_of e.0 e.1 false 0)
        → line (walks_in_full (load_word 0) e.0 n).result.answer ≡ line (walks_in_full (load_word 0) e.0 e.1).result.answer
