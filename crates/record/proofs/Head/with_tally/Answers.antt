-- By the definition: only the tally is another.
use mathlib.Core.Path.{refl}
use Rattle.record.specs.Record.{head_tally}
use Rattle.record.proofs.Head.with_tally.Goals as goal

pub returns : goal.returns
unfolding head_tally
returns c = refl
