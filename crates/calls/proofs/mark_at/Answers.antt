-- The number says which test failed; past them the marks are moved, or damage is met.
use mathlib.Core.Path.{sym, ◌∙◌}
use Rattle.record.specs.Record.{record_by}
use Rattle.calls.proofs.Laws.{broken}
use Rattle.calls.proofs.Marks.{mark_refused}
use Rattle.calls.proofs.Ranges.{fits_levels, fits_ready, mark_level}
use Rattle.calls.proofs.mark_at.Goals as goal

pub returns-then-not-fits : goal.returns-then-not-fits
returns-then-not-fits c =
    let args = c.args in
    let pre = c.requires in
    rw c.refused_in.ensures (broken (record_by args.head args.place.now args.ring.now args.order.now) args.mem.now _ (sym pre ∙ c.if-not-fits.true))

pub mark_refusal-refusal-requires : goal.mark_refusal-refusal-requires
mark_refusal-refusal-requires c =
    let if1 = c.if-not-fits in
    let args = c.args in
    let pre = c.requires in
    let r = record_by args.head args.place.now args.ring.now args.order.now in
    (fits_levels r _ (sym pre ∙ if1.false), (fits_ready r _ (sym pre ∙ if1.false)).2)

pub returns-then-refusal-ne0 : goal.returns-then-refusal-ne0
returns-then-refusal-ne0 c =
    let if1 = c.if-not-fits in
    let args = c.args in
    let pre = c.requires in
    let r = record_by args.head args.place.now args.ring.now args.order.now in
    rw c.refused_in-then-refusal-ne0.ensures (mark_refused args.setting r args.mem.now args.address args.level (sym pre ∙ if1.false) _ c.mark_refusal-refusal.ensures c.if-refusal-ne0.true)

pub mark_moves-moved-requires : goal.mark_moves-moved-requires
mark_moves-moved-requires c =
    let if2 = c.if-refusal-ne0 in
    let mark-refusal = c.mark_refusal-refusal in
    let if1 = c.if-not-fits in
    let args = c.args in
    let pre = c.requires in
    let r = record_by args.head args.place.now args.ring.now args.order.now in
    (fits_ready r _ (sym pre ∙ if1.false), mark_level args.setting r args.address args.level (fits_levels r _ (sym pre ∙ if1.false)) (sym mark-refusal.ensures ∙ if2.false))
