-- Each way goes by its test.
use borrow.Author.Tests.{lt-ltb, le-ltb}
use Rattle.marks.specs.Table.{with_key}
use Rattle.marks.proofs.Marks.with_key.Goals as goal

pub returns-then-count-lt64 : goal.returns-then-count-lt64
unfolding with_key
returns-then-count-lt64 c = rw (← c.count.ensures, lt-ltb _ 64 c.if-count-lt64.true) c.inserted.ensures

pub returns : goal.returns
unfolding with_key
returns c = rw (← c.count.ensures, le-ltb _ 64 c.if-count-lt64.false)
