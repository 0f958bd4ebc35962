-- The leaf at the end of the guest frame's whole path in the first H frames: code and definition say the same.
use Rattle.host.specs.Walk.{host_walk_of}
use Rattle.host.proofs.host_walk.Goals as goal

pub returns : goal.returns
unfolding host_walk_of
returns c = c.leaf_at.ensures
