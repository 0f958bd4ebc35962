-- By whether it was charged.
use native.Mathlib.Omega.{arith}
use Rattle.choice.specs.Window.{shifted}
use Rattle.choice.proofs.shift.Goals as goal

pub returns-then-hit : goal.returns-then-hit
unfolding shifted
returns-then-hit c = rw c.if-hit.true

pub returns : goal.returns
unfolding shifted
returns c = rw c.if-hit.false (omega arith)
