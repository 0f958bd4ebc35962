-- The call in parts gets the record's own head and arrays; what it leaves goes back into the record. The line follows.
use Rattle.calls.proofs.Laws.{promised}
use Rattle.unit.proofs.load.Goals as goal

pub load_at-s-requires : goal.load_at-s-requires
load_at-s-requires c =
    let fits2 = c.fits in
    let head = c.head in
    rw head.ensures fits2.ensures

pub returns : goal.returns
returns c =
    let load_at = c.load_at-s in
    let head = c.head in
    promised (rw c.windowed.ensures (rw head.ensures at load_at.ensures))
