-- One test: the next frame lies in the area and is set to 0, or the count of frames handed out is past it, which is damage.
use borrow.Author.Tests.{lt-ltb, le-ltb}
use Rattle.pool.specs.Pool.{fresh_of}
use Rattle.pool.proofs.take_fresh.Goals as goal

pub returns-then-pool-area : goal.returns-then-pool-area
unfolding fresh_of
returns-then-pool-area c = let if1 = c.if-pool-area in
    let zero-frame = c.zero_frame in
    rw (lt-ltb _ _ if1.true, zero-frame.ensures)

pub returns-else-pool-area : goal.returns-else-pool-area
unfolding fresh_of
returns-else-pool-area c = rw (le-ltb _ _ c.if-pool-area.false)
