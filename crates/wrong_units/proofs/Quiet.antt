-- A unit that forgets its paths is refused by the figure of a quiet stretch too: it pays for a path a second time.
-- Assumes nothing.
use mathlib.Core.Path.{◌≡◌, refl, sym, ap, ◌∙◌}
use native.Mathlib.Omega.{arith}
use mathlib.Core.Bool.{false}
use mathlib.Core.List.{List, [], ◌∷◌, ◌++◌}
use lib.Dec.{T}
use Rattle.spec.specs.Call.{Call, set_mark, load_word, store_word}
use Rattle.spec.specs.Serving.{exits_paid, all_paid}
use Rattle.spec.specs.Quiet.{met, only_granted, none_watched, touched, all_fit, quiet, new_paths, quiet_exits}
use Rattle.spec.specs.Computing.{specifying}
use Rattle.wrong_units.specs.Unit.{run_by, after_by, specified, QuietDay, unit_by}
use Rattle.wrong_units.specs.Wrong.{forgets_at_store}
use Rattle.wrong_units.proofs.Computing.{calling}
use Rattle.wrong_units.proofs.Mapped.{memory, grants, first_record}
use Rattle.wrong_units.proofs.Filled.{mapped_words, other_maps}
use Rattle.wrong_units.proofs.Refute.{Comes, goes_on, begin, begins_at}

-- with a mark of level 4 all addresses have one path, of no index; no guest table is watched
abbrev mark : List Call
mark = set_mark 0 4 ∷ []

abbrev day : List Call
day = load_word 0 ∷ store_word 0x10 7 ∷ load_word 0 ∷ []

day_quiet : T (quiet day (specified memory 4 4 false false (begin ++ mark)))
unfolding specifying met only_granted none_watched touched all_fit quiet
day_quiet = tt

day_right : quiet_exits day (specified memory 4 4 false false (begin ++ mark)) ≡ 1
unfolding specifying met touched new_paths quiet_exits
day_right = refl

forgets_pays : all_paid exits_paid (run_by (unit_by forgets_at_store) day (after_by (unit_by forgets_at_store) mark (first_record, mapped_words))) ≡ 2
unfolding forgets_at_store run_by after_by calling
forgets_pays = refl

pub forgets_at_store_not_quiet : QuietDay (unit_by forgets_at_store) → ⊥
unfolding QuietDay forgets_at_store after_by
forgets_at_store_not_quiet d =
    let u = unit_by forgets_at_store in
    let comes : Comes forgets_at_store (begin ++ mark) (after_by u mark (first_record, mapped_words)) =
    goes_on false false forgets_at_store begin mark (first_record, mapped_words) _ (begins_at forgets_at_store refl other_maps) refl in
    let e = sym forgets_pays ∙ ap (λ s. all_paid exits_paid (run_by u day s)) (sym comes) ∙ d memory 4 4 false (begin ++ mark) day (grants false) day_quiet ∙ day_right in
    omega (arith, e)
