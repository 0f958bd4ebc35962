-- By which of the two it is; clearing is one move.
use mathlib.Core.Path.{◌∙◌}
use Rattle.record.specs.Record.{record_by}
use Rattle.automatic.specs.Moves.{cleared_of}
use Rattle.automatic.proofs.Parts.{marked_kept}
use Rattle.calls.proofs.mark_moves.Goals as goal

pub returns-then-setting : goal.returns-then-setting
returns-then-setting c =
    let if1 = c.if-setting in
    rw if1.true c.set.ensures

pub returns-else-setting : goal.returns-else-setting
unfolding cleared_of
returns-else-setting c =
    let if1 = c.if-setting in
    let args = c.args in
    rw if1.false (c.clear.ensures ∙ marked_kept (record_by args.head args.place.now args.ring.now args.order.now) _ _ _ _ _)
