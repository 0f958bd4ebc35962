-- Each way goes by its test.
use native.Mathlib.Numerals.{add-one}
use borrow.Author.Tests.{le-leb, lt-leb}
use Rattle.marks.proofs.level_fits.Goals as goal

pub returns-then-level-lt1 : goal.returns-then-level-lt1
returns-then-level-lt1 c = rw (lt-leb _ _ c.if-level-lt1.true)

pub returns : goal.returns
returns c = rw (le-leb _ _ c.if-level-lt1.false, add-one)
