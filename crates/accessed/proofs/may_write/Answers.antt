-- By what the host walk came to.
use Rattle.accessed.proofs.may_write.Goals as goal

pub returns-in-Found : goal.returns-in-Found
returns-in-Found c =
    let host-walk = c.host_walk in
    rw (← host-walk.ensures, c.in-Found.is)

pub returns-in-Absent : goal.returns-in-Absent
returns-in-Absent c =
    let host-walk = c.host_walk in
    rw (← host-walk.ensures, c.in-Absent.is)

pub returns-in-Damaged : goal.returns-in-Damaged
returns-in-Damaged c =
    let host-walk = c.host_walk in
    rw (← host-walk.ensures, c.in-Damaged.is)
