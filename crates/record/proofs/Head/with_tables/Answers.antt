-- By the definition: pools and held frame are those given, the other fields stay.
use mathlib.Core.Path.{refl}
use Rattle.record.specs.Record.{head_tables}
use Rattle.record.proofs.Head.with_tables.Goals as goal

pub returns : goal.returns
unfolding head_tables
returns c = refl
