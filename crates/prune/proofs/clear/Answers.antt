-- The entry decides: if it is present, the tables are released in the memory in which it is 0, else nothing changes.
use Rattle.prune.specs.Remove.{clear_of}
use Rattle.prune.proofs.clear.Goals as goal

pub returns-then-present : goal.returns-then-present
unfolding clear_of
returns-then-present c = let entry_at = c.entry_at in
    let present = c.present in
    let if1 = c.if-present in
    let put-entry = c.put_entry in
    let release = c.release in
    rw (← entry_at.ensures, ← present.ensures, if1.true, ← put-entry.ensures) release.ensures

pub returns-else-present : goal.returns-else-present
unfolding clear_of
returns-else-present c = rw (← c.entry_at.ensures, ← c.present.ensures, c.if-present.false)
