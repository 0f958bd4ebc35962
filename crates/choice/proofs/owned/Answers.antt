-- Each way goes by its test.
use borrow.Author.Tests.{lt-ltb, le-ltb}
use Rattle.choice.specs.Refusal.{owned_in}
use Rattle.choice.proofs.owned.Goals as goal

pub returns-then-at-lt64 : goal.returns-then-at-lt64
unfolding owned_in
returns-then-at-lt64 c = rw (← c.place_of-at.ensures, lt-ltb _ 64 c.if-at-lt64.true, ← c.automatic_at.ensures)

pub returns : goal.returns
unfolding owned_in
returns c = rw (← c.place_of-at.ensures, le-ltb _ 64 c.if-at-lt64.false)
