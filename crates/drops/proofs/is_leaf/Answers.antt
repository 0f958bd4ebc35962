-- In a table of level 1 each present entry is a leaf; above it the switch bit says so.
use Rattle.drops.specs.Cut.{is_leaf}
use Rattle.drops.proofs.is_leaf.Goals as goal

pub returns-then-lowest : goal.returns-then-lowest
unfolding is_leaf
returns-then-lowest c = rw c.if-lowest.true

pub returns-else-lowest : goal.returns-else-lowest
unfolding is_leaf
returns-else-lowest c = rw c.if-lowest.false c.switch.ensures
