-- The call in parts gets the record's own head and arrays; what it leaves goes back into the record. The line follows.
use Rattle.calls.proofs.Laws.{promised}
use Rattle.unit.proofs.device_store.Goals as goal

pub device_store_at-s-requires : goal.device_store_at-s-requires
device_store_at-s-requires c =
    let fits2 = c.fits in
    let head = c.head in
    rw head.ensures fits2.ensures

pub returns : goal.returns
returns c =
    let device-store-at = c.device_store_at-s in
    let head = c.head in
    promised (rw c.served.ensures (rw head.ensures at device-store-at.ensures))
