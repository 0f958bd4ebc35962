-- Units that misread what a forecast is: each is refused by demand 3. In all of them the other calls are ours, so that the four frames are
-- mapped as by ours.
-- Assumes nothing.
use mathlib.Core.Path.{◌≡◌, refl, ap, ◌∙◌}
use Prim.Native.Nat.{ℕ, ◌*◌, ◌^◌}
use mathlib.Core.Bool.{false}
use mathlib.Core.List.{List, [], ◌∷◌, ◌++◌}
use Rattle.spec.specs.Answer.{value, figures}
use Rattle.spec.specs.Call.{Call, set_mark, load_word, device_word, forecast}
use Rattle.spec.specs.Run.{step}
use Rattle.spec.specs.Computing.{specifying}
use Rattle.words.specs.After.{After}
use Rattle.record.specs.declared.Record.{Record}
use Rattle.calls.specs.declared.Reply.{Reply}
use Rattle.claims.specs.Run.{unit_after}
use Rattle.wrong_units.specs.Unit.{Calls, after_by, specified, Demand-3, told, unit_by}
use Rattle.wrong_units.specs.Wrong.{our_step, our_end, list_with, forecast_with, each_alone, forgets_own_only, tables_at_end, ends_at_four, serve_all, serves_for_real}
use Rattle.wrong_units.proofs.Computing.{calling}
use Rattle.wrong_units.proofs.Mapped.{memory, first_record}
use Rattle.wrong_units.proofs.Filled.{mapped_words, other_maps, marks_set, held_record, held_words, fills}
use Rattle.wrong_units.proofs.Refute.{Comes, refuted, begin, begins_at, hold, holds_at}

-- where the frames are mapped, and where a path is held too
abbrev Begun : Calls → Type 0
Begun f = Comes f begin (first_record, mapped_words)

-- ---- a second address of a path, counted as not held

alone_begun : Begun each_alone
unfolding each_alone after_by
alone_begun = begins_at each_alone refl other_maps

alone_says : ((unit_by each_alone).call (forecast (0 ∷ 8 ∷ [])) (first_record, mapped_words)).0 ≡ figures 8 2 4
unfolding each_alone forecast_with list_with our_step our_end calling
alone_says = refl

alone_right : (step (forecast (0 ∷ 8 ∷ [])) (specified memory 4 4 false false (begin ++ []))).0 ≡ figures 8 1 4
unfolding specifying
alone_right = refl

pub each_alone_refuted : Demand-3 (unit_by each_alone) → ⊥
unfolding after_by
each_alone_refuted = refuted each_alone begin [] (forecast (0 ∷ 8 ∷ [])) (first_record, mapped_words) (figures 8 2 4) (figures 8 1 4) alone_begun alone_says alone_right tt

-- ---- an overflow that forgets only what the list filled

-- Entries 2 and 3 of the top table lead where entry 0 does; their paths have no mark and take four tables each. With the path held at 0 the first
-- needs all four, so that the second forgets everything: then 0 is not held any more.
abbrev more : List Call
more = device_word 0x10 0x1003 ∷ device_word 0x18 0x1003 ∷ []

abbrev overfull : Call
overfull = forecast (2 ^ 40 ∷ 3 * 2 ^ 39 ∷ 0 ∷ [])

own_held : Comes forgets_own_only (begin ++ hold) (held_record, held_words)
unfolding forgets_own_only after_by
own_held = holds_at forgets_own_only marks_set refl (begins_at forgets_own_only refl other_maps)

own_says : ((unit_by forgets_own_only).call overfull (after_by (unit_by forgets_own_only) more (held_record, held_words))).0 ≡ figures 24 2 4
unfolding forgets_own_only forecast_with list_with our_step our_end after_by calling
own_says = refl

own_right : (step overfull (specified memory 4 4 false false ((begin ++ hold) ++ more))).0 ≡ figures 24 3 4
unfolding specifying
own_right = refl

pub forgets_own_only_refuted : Demand-3 (unit_by forgets_own_only) → ⊥
forgets_own_only_refuted = refuted forgets_own_only (begin ++ hold) more overfull (held_record, held_words) (figures 24 2 4) (figures 24 3 4) own_held own_says own_right tt

-- ---- the tables at the end: a mark of level 2 shortens the second path, and its overflow leaves two tables where four were in use

abbrev shortened : List Call
shortened = set_mark (2 ^ 39) 2 ∷ []

end_begun : Begun tables_at_end
unfolding tables_at_end after_by
end_begun = begins_at tables_at_end refl other_maps

end_says : ((unit_by tables_at_end).call (forecast (0 ∷ 2 ^ 39 ∷ [])) (after_by (unit_by tables_at_end) shortened (first_record, mapped_words))).0 ≡ figures 16 2 2
unfolding tables_at_end forecast_with list_with our_step after_by calling
end_says = refl

end_right : (step (forecast (0 ∷ 2 ^ 39 ∷ [])) (specified memory 4 4 false false (begin ++ shortened))).0 ≡ figures 16 2 4
unfolding specifying
end_right = refl

pub tables_at_end_refuted : Demand-3 (unit_by tables_at_end) → ⊥
tables_at_end_refuted = refuted tables_at_end begin shortened (forecast (0 ∷ 2 ^ 39 ∷ [])) (first_record, mapped_words) (figures 16 2 2) (figures 16 2 4) end_begun end_says end_right tt

-- ---- an address that meets 4 ends the list

four_begun : Begun ends_at_four
unfolding ends_at_four after_by
four_begun = begins_at ends_at_four refl other_maps

four_says : ((unit_by ends_at_four).call (forecast (4 ∷ 0 ∷ [])) (first_record, mapped_words)).0 ≡ figures 0 0 0
unfolding ends_at_four calling
four_says = refl

four_right : (step (forecast (4 ∷ 0 ∷ [])) (specified memory 4 4 false false (begin ++ []))).0 ≡ figures 4 1 4
unfolding specifying
four_right = refl

pub ends_at_four_refuted : Demand-3 (unit_by ends_at_four) → ⊥
unfolding after_by
ends_at_four_refuted = refuted ends_at_four begin [] (forecast (4 ∷ 0 ∷ [])) (first_record, mapped_words) (figures 0 0 0) (figures 4 1 4) four_begun four_says four_right tt

-- ---- a list that is really served: the load after it pays no exit

abbrev marks : List Call
marks = set_mark 0 3 ∷ set_mark (2 ^ 39) 3 ∷ []

served_begun : Begun serves_for_real
unfolding serves_for_real after_by
served_begun = begins_at serves_for_real refl other_maps

served_comes : after_by (unit_by serves_for_real) (marks ++ (forecast (0 ∷ []) ∷ [])) (first_record, mapped_words) ≡ (held_record, held_words)
unfolding serves_for_real after_by unit_after
served_comes =
    ap (λ (e : Record × List ℕ). (told (serve_all (0 ∷ []) e.0 e.1)).1) marks_set
    ∙ ap (λ (e : After Reply). (e.result.unit, e.memory)) fills

served_says : ((unit_by serves_for_real).call (load_word 0) (held_record, held_words)).0 ≡ value 0x3003 16 0
unfolding serves_for_real calling
served_says = refl

served_right : (step (load_word 0) (specified memory 4 4 false false (begin ++ (marks ++ (forecast (0 ∷ []) ∷ []))))).0 ≡ value 0x3003 16 1
unfolding specifying
served_right = refl

pub serves_for_real_refuted : Demand-3 (unit_by serves_for_real) → ⊥
serves_for_real_refuted =
    refuted serves_for_real begin (marks ++ (forecast (0 ∷ []) ∷ [])) (load_word 0) (first_record, mapped_words) (value 0x3003 16 0) (value 0x3003 16 1) served_begun
    (ap (λ e. ((unit_by serves_for_real).call (load_word 0) e).0) served_comes ∙ served_says) served_right tt
