-- By the entry's kind: a leaf is cleared if it goes, damage says no, all others stay as they are.
use Rattle.drops.specs.Drop.{clear_one_of}
use Rattle.drops.proofs.clear_one.Goals as goal

pub returns-in-Gone : goal.returns-in-Gone
unfolding clear_one_of
returns-in-Gone c = rw (← c.entry_at.ensures, ← c.kind_of.ensures, c.in-Gone.is)

pub returns-then-goes : goal.returns-then-goes
unfolding clear_one_of
returns-then-goes c =
    let entry_at = c.entry_at in
    let kind-of = c.kind_of in
    let goes = c.goes in
    let if1 = c.if-goes in
    let put-entry = c.put_entry in
    rw (← entry_at.ensures, ← kind-of.ensures, c.in-Leaf.is, ← goes.ensures, if1.true, put-entry.ensures)

pub returns-else-goes : goal.returns-else-goes
unfolding clear_one_of
returns-else-goes c =
    let entry_at = c.entry_at in
    let kind-of = c.kind_of in
    let goes = c.goes in
    let if1 = c.if-goes in
    rw (← entry_at.ensures, ← kind-of.ensures, c.in-Leaf.is, ← goes.ensures, if1.false)

pub returns-in-Table : goal.returns-in-Table
unfolding clear_one_of
returns-in-Table c =
    let entry_at = c.entry_at in
    rw (← entry_at.ensures, ← c.kind_of.ensures, c.in-Table.is)

pub returns-in-Damaged : goal.returns-in-Damaged
unfolding clear_one_of
returns-in-Damaged c = rw (← c.entry_at.ensures, ← c.kind_of.ensures, c.in-Damaged.is)
