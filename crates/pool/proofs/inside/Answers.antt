-- Where f is not below the base both sides compare the same difference; below it both say no.
use borrow.Author.Tests.{lt-ltb, le-ltb}
use Rattle.pool.specs.Header.{inside_of}
use Rattle.pool.proofs.inside.Goals as goal

pub returns-then-frame-base : goal.returns-then-frame-base
unfolding inside_of
returns-then-frame-base c = rw (lt-ltb _ _ c.if-frame-base.true)

pub returns-else-frame-base : goal.returns-else-frame-base
unfolding inside_of
returns-else-frame-base c = rw (le-ltb _ _ c.if-frame-base.false)
