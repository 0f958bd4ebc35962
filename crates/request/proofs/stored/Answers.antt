-- By the end of the walk.
use Rattle.request.proofs.stored.Goals as goal

pub written-requires : goal.written-requires
written-requires c =
    let pre = c.requires in
    (pre.0, pre.1, rw c.in-Arrived.is at pre.2, pre.3, pre.4)

pub returns-in-Arrived : goal.returns-in-Arrived
returns-in-Arrived c =
    let written = c.written in
    rw c.in-Arrived.is written.ensures

pub returns-in-Faulted : goal.returns-in-Faulted
returns-in-Faulted c =
    rw c.in-Faulted.is

pub returns-in-Damaged : goal.returns-in-Damaged
returns-in-Damaged c =
    let refused = c.refused in
    rw (c.in-Damaged.is, refused.ensures)
