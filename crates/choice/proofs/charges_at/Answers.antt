-- The charges of the prefix that stands there.
use Rattle.choice.proofs.charges_at.Goals as goal

pub returns : goal.returns
returns c = rw (← c.prefix_at.ensures) c.charges.ensures
