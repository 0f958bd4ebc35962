-- Its pool is the one from which nothing was handed out, by the promise of that call.
use Rattle.calls.proofs.held_none.Goals as goal

pub returns : goal.returns
returns c = rw c.no_tables.ensures
