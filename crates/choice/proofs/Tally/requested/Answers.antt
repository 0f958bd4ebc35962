-- Each way goes by its test.
use borrow.Author.Tests.{eq-eqb, ne_eqb}
use Rattle.choice.specs.Window.{requested_of}
use Rattle.choice.proofs.Tally.requested.Goals as goal

pub returns-then-self-ne0 : goal.returns-then-self-ne0
unfolding requested_of
returns-then-self-ne0 c = rw (ne_eqb _ 0 c.if-self-ne0.true, c.shift.ensures)

pub returns-else-self-ne0 : goal.returns-else-self-ne0
unfolding requested_of
returns-else-self-ne0 c = rw (eq-eqb _ 0 c.if-self-ne0.false)
