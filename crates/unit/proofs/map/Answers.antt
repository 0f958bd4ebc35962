-- The call in parts gets the record's own head and arrays; what it leaves goes back into the record. The line follows.
use Rattle.calls.proofs.Laws.{promised}
use Rattle.unit.proofs.map.Goals as goal

pub map_at-x-requires : goal.map_at-x-requires
map_at-x-requires c =
    let fits2 = c.fits in
    let head = c.head in
    rw head.ensures fits2.ensures

pub returns : goal.returns
returns c =
    let map_at = c.map_at-x in
    let head = c.head in
    promised (rw c.remapping.ensures (rw head.ensures at map_at.ensures))
