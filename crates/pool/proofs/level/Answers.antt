-- Three bits of the high part of word 1: what the call reads is the definition's high part.
use Rattle.pool.specs.Header.{level_of}
use Rattle.pool.proofs.level.Goals as goal

pub returns : goal.returns
unfolding level_of
returns c = rw (← c.high.ensures)
