-- The head gets the tables, and the record the head.
use Rattle.unit.proofs.remapping.Goals as goal

pub returns : goal.returns
returns c = rw (c.with_head.ensures, c.with_tables-head.ensures, c.head.ensures)
