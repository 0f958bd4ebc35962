-- The call in parts gets the record's own head and arrays; what it leaves goes back into the record. The line follows.
use Rattle.calls.proofs.Laws.{promised}
use Rattle.unit.proofs.unmap.Goals as goal

pub unmap_at-x-requires : goal.unmap_at-x-requires
unmap_at-x-requires c =
    let fits2 = c.fits in
    let head = c.head in
    rw head.ensures fits2.ensures

pub returns : goal.returns
returns c =
    let unmap-at = c.unmap_at-x in
    let head = c.head in
    promised (rw c.remapping.ensures (rw head.ensures at unmap-at.ensures))
