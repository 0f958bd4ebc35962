-- By what is owed.
use borrow.Author.Tests.{le-leb, lt-leb}
use Rattle.translate.proofs.owes.Goals as goal

pub returns-then-level-depth : goal.returns-then-level-depth
returns-then-level-depth c =
    let if1 = c.if-level-depth in
    rw (c.in-Table.is, le-leb _ _ if1.true)

pub returns-else-level-depth : goal.returns-else-level-depth
returns-else-level-depth c =
    let if1 = c.if-level-depth in
    rw (c.in-Table.is, lt-leb _ _ if1.false)
