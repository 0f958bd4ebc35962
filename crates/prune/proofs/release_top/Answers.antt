-- Three ends: the top table stays by the flag, goes since it is bare, or stays since it is not.
use Rattle.prune.specs.Remove.{release_top}
use Rattle.prune.proofs.release_top.Goals as goal

pub returns-then-stays : goal.returns-then-stays
unfolding release_top
returns-then-stays c = rw c.if-stays.true

pub returns-then-bare : goal.returns-then-bare
unfolding release_top
returns-then-bare c = let if1 = c.if-stays in
    let bare = c.bare in
    let if2 = c.if-bare in
    let free-words = c.free_words in
    let with-top = c.with_top in
    let with-freed = c.with_freed in
    rw (if1.false, ← bare.ensures, if2.true, ← with-top.ensures, ← with-freed.ensures, free-words.ensures)

pub returns-else-bare : goal.returns-else-bare
unfolding release_top
returns-else-bare c = let if1 = c.if-stays in
    let bare = c.bare in
    let if2 = c.if-bare in
    rw (if1.false, ← bare.ensures, if2.false)
