-- The guest area's first frame is the sum of two sizes, small by the layout; then the tests are the definition's.
use borrow.Author.Tests.{le-leb, lt-leb}
use Rattle.layout.proofs.in_guest_area.Goals as goal

pub returns-then-layout-frame : goal.returns-then-layout-frame
returns-then-layout-frame c = rw (le-leb _ _ c.if-layout-frame.true)

pub returns-else-layout-frame : goal.returns-else-layout-frame
returns-else-layout-frame c = rw (lt-leb _ _ c.if-layout-frame.false)
