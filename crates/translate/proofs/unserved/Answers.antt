-- By the depth: the whole plain walk, or the shadow part and on.
use borrow.Author.Tests.{lt-ltb, le-ltb}
use Rattle.translate.specs.Translate.{unserved_of}
use Rattle.translate.proofs.unserved.Goals as goal

pub returns-then-space-request : goal.returns-then-space-request
unfolding unserved_of
returns-then-space-request c = rw (lt-ltb _ _ c.if-space-request.true, c.unshadowed.ensures)

pub returns : goal.returns
unfolding unserved_of
returns c = rw (le-ltb _ _ c.if-space-request.false) c.missed.ensures
