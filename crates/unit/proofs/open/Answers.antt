-- The opening's record and memory, its number said as an answer; the line follows from the reply.
use Rattle.calls.specs.Calls.{open_call}
use Rattle.calls.proofs.Laws.{promised}
use Rattle.unit.proofs.open.Goals as goal

pub returns : goal.returns
unfolding open_call
returns c = promised (rw (← c.open-opened.ensures, c.answer_of.ensures))
