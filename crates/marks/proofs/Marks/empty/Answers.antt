-- By the definition.
use mathlib.Core.Path.{refl}
use Rattle.marks.specs.Table.{table_of}
use Rattle.marks.proofs.Marks.empty.Goals as goal

pub returns : goal.returns
unfolding table_of
returns c = refl
