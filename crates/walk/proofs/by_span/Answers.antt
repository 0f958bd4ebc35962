-- The index picks a part of the span, and at level 1 a frame.
use native.Mathlib.Omega.{arith}
use borrow.Author.Tests.{eq-eqb, ne_eqb}
use Rattle.spec.specs.Plain.{first_frame, span_lead}
use Rattle.walk.proofs.Laws.{part_most}
use Rattle.walk.proofs.by_span.Goals as goal

pub overflow_mul-g : goal.overflow_mul-g
overflow_mul-g c =
    let args = c.args in
    let pre = c.requires in
    let frames-below = c.frames_below in
    let most = part_most args.level args.index pre.0 pre.3 in
    rw frames-below.ensures (omega (arith, most))

pub overflow_add-g : goal.overflow_add-g
overflow_add-g c =
    let args = c.args in
    let pre = c.requires in
    let frames-below = c.frames_below in
    let most = part_most args.level args.index pre.0 pre.3 in
    rw frames-below.ensures (omega (arith, most, pre.2))

pub returns-then-level-eq1 : goal.returns-then-level-eq1
unfolding span_lead first_frame
returns-then-level-eq1 c = rw (eq-eqb _ _ c.if-level-eq1.true, ← c.frames_below.ensures)

pub returns-else-level-eq1 : goal.returns-else-level-eq1
unfolding span_lead first_frame
returns-else-level-eq1 c = rw (ne_eqb _ _ c.if-level-eq1.false, ← c.frames_below.ensures)
