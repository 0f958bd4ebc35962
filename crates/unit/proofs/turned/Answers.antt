-- The head handed back replaces the record's, by the promise of one call.
use Rattle.unit.proofs.turned.Goals as goal

pub returns : goal.returns
returns c = rw c.with_head.ensures
