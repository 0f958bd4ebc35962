-- A path does not pass through a table at its end or below it; else the indexes above the level are compared.
use borrow.Author.Tests.{lt-ltb, le-ltb}
use Rattle.forecast.specs.Forecast.{passes}
use Rattle.forecast.proofs.passes_by.Goals as goal

pub returns-then-depth-level : goal.returns-then-depth-level
unfolding passes
returns-then-depth-level c = rw (lt-ltb _ _ c.if-depth-level.true)

pub returns : goal.returns
unfolding passes
returns c = rw (le-ltb _ _ c.if-depth-level.false)
