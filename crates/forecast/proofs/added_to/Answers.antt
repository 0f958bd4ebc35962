-- The sums are small, and the greater number of tables is what its call promises.
use Rattle.forecast.proofs.added_to.Goals as goal

pub returns : goal.returns
returns c = rw c.greater.ensures
