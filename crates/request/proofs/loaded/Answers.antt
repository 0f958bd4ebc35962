-- By the end of the walk.
use Rattle.request.proofs.loaded.Goals as goal

pub read_bytes-requires : goal.read_bytes-requires
read_bytes-requires c =
    let pre = c.requires in
    (rw c.in-Arrived.is at pre.0, pre.1)

pub returns-in-Arrived : goal.returns-in-Arrived
returns-in-Arrived c =
    let read-bytes = c.read_bytes in
    rw (c.in-Arrived.is, read-bytes.ensures)

pub returns-in-Faulted : goal.returns-in-Faulted
returns-in-Faulted c =
    rw c.in-Faulted.is

pub returns-in-Damaged : goal.returns-in-Damaged
returns-in-Damaged c =
    let refused = c.refused in
    rw (c.in-Damaged.is, refused.ensures)
