-- A word and a fault are paid for alike.
use Rattle.forecast.specs.Forecast.{paid}
use Rattle.forecast.proofs.pay.Goals as goal

pub added_to-requires : goal.added_to-requires
added_to-requires c =
    let pre = c.requires in
    (pre.0, rw c.in-Arrived.is at pre.2, pre.1)

pub added_to-requires-in-Faulted : goal.added_to-requires-in-Faulted
added_to-requires-in-Faulted c =
    let pre = c.requires in
    (pre.0, rw c.in-Faulted.is at pre.2, pre.1)

pub returns-in-Arrived : goal.returns-in-Arrived
unfolding paid
returns-in-Arrived c =
    rw (c.in-Arrived.is, c.added_to.ensures)

pub returns-in-Faulted : goal.returns-in-Faulted
unfolding paid
returns-in-Faulted c =
    rw (c.in-Faulted.is, c.added_to-in-Faulted.ensures)

pub returns-in-Damaged : goal.returns-in-Damaged
unfolding paid
returns-in-Damaged c = rw c.in-Damaged.is
