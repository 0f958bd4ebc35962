-- Host tables and what is held are those of the head.
use Rattle.calls.proofs.unmoved.Goals as goal

pub returns : goal.returns
returns c = rw c.held_in.ensures
