-- The leaf at the end of the path in the S frames after the host's: code and definition say the same.
use Rattle.shadow.specs.Held.{held_of}
use Rattle.shadow.proofs.held.Goals as goal

pub returns : goal.returns
unfolding held_of
returns c = c.leaf_at.ensures
