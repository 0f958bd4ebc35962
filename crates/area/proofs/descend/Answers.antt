-- The entry at the index decides: the table it names, a new one attached there, or damage.
use Rattle.area.specs.Tree.{descend_of}
use Rattle.area.proofs.descend.Goals as goal

pub returns-in-To : goal.returns-in-To
unfolding descend_of
returns-in-To c = let entry_at = c.entry_at in
    rw (← entry_at.ensures, ← c.follow.ensures, c.in-To.is)

pub returns-in-Not : goal.returns-in-Not
unfolding descend_of
returns-in-Not c = let entry_at = c.entry_at in
    let follow = c.follow in
    let attach = c.attach in
    rw (← entry_at.ensures, ← follow.ensures, c.in-Not.is) attach.ensures

pub returns-in-Damaged : goal.returns-in-Damaged
unfolding descend_of
returns-in-Damaged c = rw (← c.entry_at.ensures, ← c.follow.ensures, c.in-Damaged.is)
