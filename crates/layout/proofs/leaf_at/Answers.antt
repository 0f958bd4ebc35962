-- The lookup comes to an entry, whose leaf is the answer, or to damage.
use Rattle.layout.proofs.leaf_at.Goals as goal

pub returns-in-Seen : goal.returns-in-Seen
returns-in-Seen c = let lookup = c.lookup in
    rw (← lookup.ensures, c.in-Seen.is) c.leaf.ensures

pub returns-in-Damaged : goal.returns-in-Damaged
returns-in-Damaged c = rw (← c.lookup.ensures, c.in-Damaged.is)
