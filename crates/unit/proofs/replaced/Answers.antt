-- The record gets the arrays, and then the head.
use Rattle.record.specs.Record.{with_marks}
use Rattle.unit.proofs.replaced.Goals as goal

pub returns : goal.returns
unfolding with_marks
returns c = rw (c.with_head.ensures, c.with_marks.ensures)
