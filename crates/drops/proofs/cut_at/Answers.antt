-- One arm for each kind of cut.
use borrow.Author.Tests.{eq-eqb, ne_eqb}
use Rattle.drops.proofs.cut_at.Goals as goal

pub returns-then-at-index : goal.returns-then-at-index
returns-then-at-index c =
    rw (c.in-Word.is, eq-eqb _ _ c.if-at-index.true, c.stands_for.ensures)

pub returns-else-at-index : goal.returns-else-at-index
returns-else-at-index c = rw (c.in-Word.is, ne_eqb _ _ c.if-at-index.false)

pub returns-in-Names : goal.returns-in-Names
returns-in-Names c = rw (c.in-Names.is, c.leads_to.ensures)

pub returns-then-at-index-2 : goal.returns-then-at-index-2
returns-then-at-index-2 c = rw (c.in-Slot.is, eq-eqb _ _ c.if-at-index-2.true)

pub returns-else-at-index-2 : goal.returns-else-at-index-2
returns-else-at-index-2 c = rw (c.in-Slot.is, ne_eqb _ _ c.if-at-index-2.false)
