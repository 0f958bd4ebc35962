-- By the path found, and whether it serves.
use Rattle.request.specs.Access.{path_held_of}
use Rattle.request.proofs.path_held.Goals as goal

pub returns-then-serves : goal.returns-then-serves
unfolding path_held_of
returns-then-serves c = rw (← c.found.ensures, c.in-Found.is, ← c.serves.ensures, c.if-serves.true)

pub returns-else-serves : goal.returns-else-serves
unfolding path_held_of
returns-else-serves c = rw (← c.found.ensures, c.in-Found.is, ← c.serves.ensures, c.if-serves.false)

pub returns-in-Absent : goal.returns-in-Absent
unfolding path_held_of
returns-in-Absent c = rw (← c.found.ensures, c.in-Absent.is)

pub returns-in-Damaged : goal.returns-in-Damaged
unfolding path_held_of
returns-in-Damaged c = rw (← c.found.ensures, c.in-Damaged.is)
