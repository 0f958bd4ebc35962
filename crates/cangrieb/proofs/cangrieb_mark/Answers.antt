-- Nothing behind the last place and at one that is not set; else what the key there says, and two promises.
use borrow.Author.Tests.{eq-eqb, ne_eqb, lt-ltb, le-ltb}
use Rattle.cangrieb.specs.Flat.{mark_in}
use Rattle.cangrieb.proofs.cangrieb_mark.Goals as goal

pub returns-then-at-ge64 : goal.returns-then-at-ge64
unfolding mark_in
returns-then-at-ge64 c = rw (le-ltb _ 64 c.if-at-ge64.true, c.no_mark.ensures)

pub returns-then-h-at-ne1 : goal.returns-then-h-at-ne1
unfolding mark_in
returns-then-h-at-ne1 c =
    rw (lt-ltb _ 64 c.if-at-ge64.false, ne_eqb _ 1 (rw c.head_in-h.ensures at c.if-h-at-ne1.true), c.no_mark-then-h-at-ne1.ensures)

pub returns : goal.returns
unfolding mark_in
returns c =
    rw (lt-ltb _ 64 c.if-at-ge64.false, eq-eqb _ 1 (rw c.head_in-h.ensures at c.if-h-at-ne1.false), c.kind_at.ensures, c.lowest_address.ensures, c.charges_of.ensures, c.head_in-h.ensures)
