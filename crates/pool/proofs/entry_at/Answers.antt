-- The word read, less its header bits: the definition takes the same remainder.
use Rattle.pool.specs.Header.{entry_at_of}
use Rattle.pool.proofs.entry_at.Goals as goal

pub returns : goal.returns
unfolding entry_at_of
returns c = rw (← c.word_in.ensures)
