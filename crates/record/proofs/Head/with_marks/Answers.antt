-- By the definition: marks and tally are others.
use mathlib.Core.Path.{refl}
use Rattle.record.specs.Record.{head_marks}
use Rattle.record.proofs.Head.with_marks.Goals as goal

pub returns : goal.returns
unfolding head_marks
returns c = refl
