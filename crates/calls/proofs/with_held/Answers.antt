-- One call, whose promise is the definition: the host pool stays, shadow pool and frame are what is held.
use Rattle.calls.specs.Calls.{head_held}
use Rattle.calls.proofs.with_held.Goals as goal

pub returns : goal.returns
unfolding head_held
returns c = c.with_tables.ensures
