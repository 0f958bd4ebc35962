-- Each way goes by its test.
use borrow.Author.Tests.{eq-eqb, ne_eqb, lt-ltb, le-ltb}
use Rattle.cangrieb.specs.Flat.{charges_at}
use Rattle.cangrieb.proofs.charges_of.Goals as goal

pub returns-then-key-ne1 : goal.returns-then-key-ne1
unfolding charges_at
returns-then-key-ne1 c = rw (ne_eqb _ 1 c.if-key-ne1.true)

pub returns-then-t-eq0 : goal.returns-then-t-eq0
unfolding charges_at
returns-then-t-eq0 c = rw (eq-eqb _ 1 c.if-key-ne1.false, eq-eqb _ 0 c.if-t-eq0.true)

pub returns-then-levels-ge6 : goal.returns-then-levels-ge6
unfolding charges_at
returns-then-levels-ge6 c =
    rw (eq-eqb _ 1 c.if-key-ne1.false, ne_eqb _ 0 c.if-t-eq0.false, le-ltb _ 6 c.if-levels-ge6.true)

pub returns : goal.returns
unfolding charges_at
returns c =
    rw (eq-eqb _ 1 c.if-key-ne1.false, ne_eqb _ 0 c.if-t-eq0.false, lt-ltb _ 6 c.if-levels-ge6.false) c.charges.ensures
