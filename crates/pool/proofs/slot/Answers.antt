-- Nine bits of the high part of word 4: what the call reads is the definition's high part.
use Rattle.pool.specs.Header.{slot_of}
use Rattle.pool.proofs.slot.Goals as goal

pub returns : goal.returns
unfolding slot_of
returns c = rw (← c.high.ensures)
