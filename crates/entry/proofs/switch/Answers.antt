-- The same bit, by its power of two. Assumes nothing.
use Rattle.std.proofs.Common.{refl}
use Rattle.spec.specs.Entry.{bit_set, switch}
use Rattle.entry.proofs.switch.Goals as goal

pub returns : goal.returns
unfolding switch bit_set
returns c = refl
