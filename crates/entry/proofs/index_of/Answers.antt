-- A shift right divides by a power of two. Assumes nothing.
use Rattle.std.proofs.Common.{refl}
use Rattle.spec.specs.Entry.{index}
use Rattle.entry.proofs.index_of.Goals as goal

pub returns : goal.returns
unfolding index
returns c = refl
