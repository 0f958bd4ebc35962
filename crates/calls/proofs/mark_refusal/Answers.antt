-- By which of the two it is.
use Rattle.calls.proofs.mark_refusal.Goals as goal

pub returns-then-setting : goal.returns-then-setting
returns-then-setting c = rw c.if-setting.true c.set_refusal.ensures

pub returns-else-setting : goal.returns-else-setting
returns-else-setting c = rw c.if-setting.false c.clear_refusal.ensures
