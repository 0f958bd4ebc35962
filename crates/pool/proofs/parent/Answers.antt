-- The header's frame number in words 2 and 3, which the call reads just as the definition says.
use Rattle.pool.specs.Header.{parent_of}
use Rattle.pool.proofs.parent.Goals as goal

pub returns : goal.returns
unfolding parent_of
returns c = c.frame_at.ensures
