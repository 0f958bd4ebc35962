-- The word read, divided by the entry limit as in the definition.
use Rattle.pool.specs.Header.{high_of}
use Rattle.pool.proofs.high.Goals as goal

pub returns : goal.returns
unfolding high_of
returns c = rw (← c.word_in.ensures)
