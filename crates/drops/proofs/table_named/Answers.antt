-- Of the four kinds of entry only a table leads on, and only damage is told apart from the rest.
use Rattle.drops.specs.Drop.{table_named}
use Rattle.drops.proofs.table_named.Goals as goal

pub returns-in-Gone : goal.returns-in-Gone
unfolding table_named
returns-in-Gone c = rw (← c.kind_of.ensures, c.in-Gone.is)

pub returns-in-Leaf : goal.returns-in-Leaf
unfolding table_named
returns-in-Leaf c = rw (← c.kind_of.ensures, c.in-Leaf.is)

pub returns-in-Table : goal.returns-in-Table
unfolding table_named
returns-in-Table c = rw (← c.kind_of.ensures, c.in-Table.is)

pub returns-in-Damaged : goal.returns-in-Damaged
unfolding table_named
returns-in-Damaged c = rw (← c.kind_of.ensures, c.in-Damaged.is)
