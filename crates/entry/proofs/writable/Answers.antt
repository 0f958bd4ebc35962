-- The same bit, by its power of two. Assumes nothing.
use Rattle.std.proofs.Common.{refl}
use Rattle.spec.specs.Entry.{bit_set, writable}
use Rattle.entry.proofs.writable.Goals as goal

pub returns : goal.returns
unfolding writable bit_set
returns c = refl
