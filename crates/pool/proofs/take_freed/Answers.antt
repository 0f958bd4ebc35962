-- The link is read before the frame is set to 0, so it is the old memory's, as in the definition.
use Rattle.pool.specs.Pool.{freed_of}
use Rattle.pool.proofs.take_freed.Goals as goal

pub returns : goal.returns
unfolding freed_of
returns c = let word_in_call = c.word_in-next in
    rw (c.zero_frame.ensures, word_in_call.ensures)
