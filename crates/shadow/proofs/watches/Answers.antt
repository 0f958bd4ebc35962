-- A frame of level 0 is no table and watches nothing; else its guest number is compared.
use borrow.Author.Tests.{eq-eqb, ne_eqb}
use Rattle.shadow.specs.Watch.{watches_of}
use Rattle.shadow.proofs.watches.Goals as goal

pub returns-then-level-eq0 : goal.returns-then-level-eq0
unfolding watches_of
returns-then-level-eq0 c = rw (← c.level.ensures, eq-eqb _ _ c.if-level-eq0.true)

pub returns-else-level-eq0 : goal.returns-else-level-eq0
unfolding watches_of
returns-else-level-eq0 c = rw (← c.level.ensures, ne_eqb _ _ c.if-level-eq0.false, ← c.stands_for.ensures)
