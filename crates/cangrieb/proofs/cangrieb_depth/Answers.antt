-- The search takes the levels and the set places that the words say.
use Rattle.cangrieb.proofs.cangrieb_depth.Goals as goal

pub returns : goal.returns
returns c = rw c.head_in-h.ensures at c.lookup.ensures
