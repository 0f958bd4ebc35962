-- The call in parts gets the record's own head and arrays; what it leaves goes back into the record. The line follows.
use Rattle.calls.proofs.Laws.{promised}
use Rattle.unit.proofs.load_root.Goals as goal

pub root_at-t-requires : goal.root_at-t-requires
root_at-t-requires c =
    let fits2 = c.fits in
    let head = c.head in
    rw head.ensures fits2.ensures

pub returns : goal.returns
returns c =
    let head = c.head in
    promised (rw c.turned.ensures (rw head.ensures at c.root_at-t.ensures))
