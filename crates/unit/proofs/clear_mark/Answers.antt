-- The call for both kinds of change, with the flag for clearing; `promised` takes the line from the reply.
use Rattle.calls.proofs.Laws.{promised}
use Rattle.calls.specs.Calls.{clear_mark_call}
use Rattle.unit.proofs.clear_mark.Goals as goal

pub returns : goal.returns
unfolding clear_mark_call
returns c = promised c.mark_call.ensures
