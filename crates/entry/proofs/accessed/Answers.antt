-- The same bit, by its power of two. Assumes nothing.
use Rattle.std.proofs.Common.{refl}
use Rattle.spec.specs.Entry.{bit_set, accessed}
use Rattle.entry.proofs.accessed.Goals as goal

pub returns : goal.returns
unfolding accessed bit_set
returns c = refl
