-- A store that the mapping forbids is fault W; else the right is that of the guest entries and of the mapping.
use Rattle.walk.specs.Memory.{found_of}
use Rattle.walk.proofs.to_found.Goals as goal

pub returns-then-granted : goal.returns-then-granted
unfolding found_of
returns-then-granted c = rw (← c.granted.ensures, c.if-granted.true, ← c.both.ensures)

pub returns-else-granted : goal.returns-else-granted
unfolding found_of
returns-else-granted c = rw (← c.granted.ensures, c.if-granted.false)
