-- Level by level.
use Rattle.marks.specs.ByLevel.{ends_of}
use Rattle.marks.proofs.ends_of.Goals as goal

pub returns : goal.returns
unfolding ends_of
returns c = cc
