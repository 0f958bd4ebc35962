-- Parent and slot are small by the header's own bits, whatever the memory holds, so the entry above can be cleared.
use native.Mathlib.Omega.{arith}
use Rattle.prune.specs.Remove.{detach_of}
use Rattle.pool.proofs.Laws.{parent_small, slot_small}
use Rattle.prune.proofs.detach.Goals as goal

pub put_entry-requires : goal.put_entry-requires
put_entry-requires c = let args = c.args in
    let parent = c.parent-above in
    let slot = c.slot-i in
    let p = parent_small args.mem.now args.frame in
    let s = slot_small args.mem.now args.frame in
    (omega (arith, parent.ensures), omega (arith, slot.ensures))

pub returns-then-inside : goal.returns-then-inside
unfolding detach_of
returns-then-inside c = let bare = c.bare in
    let if1 = c.if-bare in
    let parent = c.parent-above in
    let inside = c.inside in
    let if2 = c.if-inside in
    let slot = c.slot-i in
    let put-entry = c.put_entry in
    let free-words = c.free_words in
    let with-freed = c.with_freed in
    rw (← bare.ensures, if1.true, ← parent.ensures, ← inside.ensures, if2.true, ← slot.ensures, with-freed.ensures, free-words.ensures, put-entry.ensures)

pub returns-else-inside : goal.returns-else-inside
unfolding detach_of
returns-else-inside c = let bare = c.bare in
    let if1 = c.if-bare in
    let parent = c.parent-above in
    let inside = c.inside in
    let if2 = c.if-inside in
    rw (← bare.ensures, if1.true, ← parent.ensures, ← inside.ensures, if2.false)

pub returns-else-bare : goal.returns-else-bare
unfolding detach_of
returns-else-bare c = rw (← c.bare.ensures, c.if-bare.false)
