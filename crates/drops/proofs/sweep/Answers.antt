-- The table is settled in the memory that the clearing left; a damaged entry ends it before that.
use Rattle.drops.specs.Drop.{sweep_of}
use Rattle.drops.proofs.sweep.Goals as goal

pub returns-then-clear_leaves : goal.returns-then-clear_leaves
unfolding sweep_of
returns-then-clear_leaves c =
    let clear-leaves = c.clear_leaves in
    let if1 = c.if-clear_leaves in
    rw (← clear-leaves.ensures, if1.true) c.settle.ensures

pub returns-else-clear_leaves : goal.returns-else-clear_leaves
unfolding sweep_of
returns-else-clear_leaves c = rw (← c.clear_leaves.ensures, c.if-clear_leaves.false)
