-- Each way goes by its test.
use borrow.Author.Tests.{le-leb, lt-leb}
use Rattle.cangrieb.specs.Flat.{kind_at}
use Rattle.cangrieb.proofs.kind_at.Goals as goal

pub returns-then-count-gt64 : goal.returns-then-count-gt64
unfolding kind_at
returns-then-count-gt64 c = rw (lt-leb _ 64 c.if-count-gt64.true)

pub returns-then-automatic_at : goal.returns-then-automatic_at
unfolding kind_at
returns-then-automatic_at c = rw (le-leb _ 64 c.if-count-gt64.false, ← c.automatic_at.ensures, c.if-automatic_at.true)

pub returns-else-automatic_at : goal.returns-else-automatic_at
unfolding kind_at
returns-else-automatic_at c = rw (le-leb _ 64 c.if-count-gt64.false, ← c.automatic_at.ensures, c.if-automatic_at.false)
