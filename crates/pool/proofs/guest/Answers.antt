-- The low bits and the upper ones, put together as in the definition.
use Rattle.pool.specs.Header.{guest_of}
use Rattle.pool.proofs.guest.Goals as goal

pub returns : goal.returns
unfolding guest_of
returns c = rw (← c.upper.ensures, ← c.frame_at-low.ensures)
