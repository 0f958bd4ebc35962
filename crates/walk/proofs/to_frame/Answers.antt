-- Level 1 leads to the page; to a table the step is one and the same for loads and stores.
use borrow.Author.Tests.{eq-eqb, ne_eqb}
use Rattle.spec.specs.Plain.{next}
use Rattle.walk.proofs.to_frame.Goals as goal

pub returns-then-level-eq1 : goal.returns-then-level-eq1
returns-then-level-eq1 c = rw (eq-eqb _ _ c.if-level-eq1.true) c.to_page.ensures

pub returns-else-level-eq1 : goal.returns-else-level-eq1
unfolding next
returns-else-level-eq1 c = rw (ne_eqb _ _ c.if-level-eq1.false) c.to_table.ensures
