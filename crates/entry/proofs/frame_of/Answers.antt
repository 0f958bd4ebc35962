-- The constant is 2 ^ 40. Assumes nothing.
use Rattle.std.proofs.Common.{refl}
use Rattle.spec.specs.Entry.{frame_of}
use Rattle.entry.proofs.frame_of.Goals as goal

pub returns : goal.returns
unfolding frame_of
returns c = refl
