-- Each way goes by its test.
use borrow.Author.Tests.{lt-ltb, le-ltb, eq-eqb, ne_eqb}
use Rattle.choice.proofs.entry_fits.Goals as goal

pub returns-then-at-ge64 : goal.returns-then-at-ge64
returns-then-at-ge64 c = rw (le-ltb _ 64 c.if-at-ge64.true)

pub returns-then-rest-at-ne1 : goal.returns-then-rest-at-ne1
returns-then-rest-at-ne1 c = rw (lt-ltb _ 64 c.if-at-ge64.false, ne_eqb _ 1 c.if-rest-at-ne1.true)

pub returns : goal.returns
returns c = rw (lt-ltb _ 64 c.if-at-ge64.false, eq-eqb _ 1 c.if-rest-at-ne1.false)
