-- The key goes into the next place, or into the first where all others are forgotten.
use borrow.Author.Tests.{le-leb, lt-leb}
use Rattle.forecast.specs.Forecast.{filled_of}
use Rattle.forecast.proofs.filled.Goals as goal

pub returns-then-tables-layout : goal.returns-then-tables-layout
unfolding filled_of
returns-then-tables-layout c = rw (le-leb _ _ c.if-tables-layout.true)

pub returns : goal.returns
unfolding filled_of
returns c = rw (lt-leb _ _ c.if-tables-layout.false)
