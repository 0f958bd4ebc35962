-- The same bit, by its power of two. Assumes nothing.
use Rattle.std.proofs.Common.{refl}
use Rattle.spec.specs.Entry.{bit_set, dirty}
use Rattle.entry.proofs.dirty.Goals as goal

pub returns : goal.returns
unfolding dirty bit_set
returns c = refl
