-- By the answer.
use Rattle.calls.proofs.tally_after.Goals as goal

pub returns-in-Ok : goal.returns-in-Ok
returns-in-Ok c =
    let requested = c.requested in
    rw (c.in-Ok.is, requested.ensures)

pub returns-in-Value : goal.returns-in-Value
returns-in-Value c =
    let requested2 = c.requested-in-Value in
    rw (c.in-Value.is, requested2.ensures)

pub returns-in-Done : goal.returns-in-Done
returns-in-Done c =
    let requested3 = c.requested-in-Done in
    rw (c.in-Done.is, requested3.ensures)

pub returns-in-Faulted : goal.returns-in-Faulted
returns-in-Faulted c =
    let requested4 = c.requested-in-Faulted in
    rw (c.in-Faulted.is, requested4.ensures)

pub returns-in-Refused : goal.returns-in-Refused
returns-in-Refused c =
    rw c.in-Refused.is

pub returns-in-Figures : goal.returns-in-Figures
returns-in-Figures c =
    let requested5 = c.requested-in-Figures in
    rw (c.in-Figures.is, requested5.ensures)
