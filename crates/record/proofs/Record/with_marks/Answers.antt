-- By the definition: the guest's part goes back with its root and held frame, and with other marks.
use mathlib.Core.Path.{refl}
use Rattle.record.specs.Record.{with_marks}
use Rattle.record.proofs.Record.with_marks.Goals as goal

pub returns : goal.returns
unfolding with_marks
returns c = refl
