-- What is held, then the tally.
use Rattle.calls.proofs.windowed.Goals as goal

pub returns : goal.returns
returns c = rw (c.with_tally.ensures, c.with_held.ensures, c.tally_after.ensures)
