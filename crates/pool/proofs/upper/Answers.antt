-- The high parts of four words, put together as in the definition.
use Rattle.pool.proofs.upper.Goals as goal

pub returns : goal.returns
returns c = rw (← c.high-d.ensures, ← c.high-c.ensures, ← c.high-b.ensures, ← c.high-a.ensures)
