-- Level by level.
use Rattle.marks.specs.ByLevel.{wants_of}
use Rattle.depth.proofs.wants_of.Goals as goal

pub returns : goal.returns
unfolding wants_of
returns c = cc
