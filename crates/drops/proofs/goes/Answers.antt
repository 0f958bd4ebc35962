-- Where all go the cut is not asked; else its answer is the definition's.
use Rattle.drops.specs.Drop.{goes_of}
use Rattle.drops.proofs.goes.Goals as goal

pub returns-then-all : goal.returns-then-all
unfolding goes_of
returns-then-all c = rw c.if-all.true

pub returns-else-all : goal.returns-else-all
unfolding goes_of
returns-else-all c = rw c.if-all.false c.cut_at.ensures
