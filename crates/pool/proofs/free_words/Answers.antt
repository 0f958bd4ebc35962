-- Word 0 gets the link, then word 1 is cleared: the definition's two stores, in its order.
use Rattle.pool.specs.Pool.{free_words}
use Rattle.pool.proofs.free_words.Goals as goal

pub returns : goal.returns
unfolding free_words
returns c = let set-in = c.set_in in
    rw (c.set_in-2.ensures, set-in.ensures)
