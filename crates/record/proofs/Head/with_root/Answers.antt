-- By the definition: only the root is another.
use mathlib.Core.Path.{refl}
use Rattle.record.specs.Record.{head_root}
use Rattle.record.proofs.Head.with_root.Goals as goal

pub returns : goal.returns
unfolding head_root
returns c = refl
