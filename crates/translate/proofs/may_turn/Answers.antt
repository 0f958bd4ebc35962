-- By its two tests.
use borrow.Author.Tests.{eq-eqb, ne_eqb}
use Rattle.translate.specs.Translate.{may_turn}
use Rattle.translate.proofs.may_turn.Goals as goal

pub returns-then-depth-eq0 : goal.returns-then-depth-eq0
unfolding may_turn
returns-then-depth-eq0 c = rw (eq-eqb _ _ c.if-depth-eq0.true)

pub returns : goal.returns
unfolding may_turn
returns c = rw (ne_eqb _ _ c.if-depth-eq0.false)
