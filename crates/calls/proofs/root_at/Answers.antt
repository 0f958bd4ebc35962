-- Refusals 3 and 8 by their tests; past them the head is emptied of held paths, then given its root, and its window emptied.
use mathlib.Core.Path.{sym, ◌∙◌}
use Rattle.record.specs.Record.{record_by}
use Rattle.calls.specs.Calls.{root_call}
use Rattle.calls.proofs.Laws.{broken, passed, failed}
use Rattle.calls.proofs.Ranges.{fits_sound}
use Rattle.calls.proofs.root_at.Goals as goal

pub returns-then-not-fits : goal.returns-then-not-fits
unfolding root_call
returns-then-not-fits c =
    let args = c.args in
    let pre = c.requires in
    rw c.refused_in.ensures (broken (record_by args.head args.place.now args.ring.now args.order.now) args.mem.now _ (sym pre ∙ c.if-not-fits.true))

pub frame_fits-requires : goal.frame_fits-requires
frame_fits-requires c =
    let args = c.args in
    let pre = c.requires in
    (fits_sound (record_by args.head args.place.now args.ring.now args.order.now) _ (sym pre ∙ c.if-not-fits.false)).0

pub returns-then-not-frame_fits : goal.returns-then-not-frame_fits
unfolding root_call
returns-then-not-frame_fits c =
    let frame_fits_lem = c.frame_fits in
    let if1 = c.if-not-fits in
    let args = c.args in
    let pre = c.requires in
    rw c.refused_in-then-not-frame_fits.ensures (failed (record_by args.head args.place.now args.ring.now args.order.now) args.mem.now _ _ _ (sym pre ∙ if1.false) (sym frame_fits_lem.ensures ∙ c.if-not-frame_fits.true))

pub returns : goal.returns
unfolding root_call
returns c =
    let with-held = c.with_held in
    let held_none = c.held_none in
    let if2 = c.if-not-frame_fits in
    let frame_fits_lem = c.frame_fits in
    let if1 = c.if-not-fits in
    let args = c.args in
    let pre = c.requires in
    rw (c.with_tally.ensures, c.emptied.ensures, c.with_root.ensures, with-held.ensures, held_none.ensures)
    (passed (record_by args.head args.place.now args.ring.now args.order.now) args.mem.now _ _ _ (sym pre ∙ if1.false) (sym frame_fits_lem.ensures ∙ if2.false))
