-- By the end of the walk.
use Rattle.translate.proofs.lax.Goals as goal

pub returns-in-Arrived : goal.returns-in-Arrived
returns-in-Arrived c =
    rw c.in-Arrived.is

pub returns-in-Faulted : goal.returns-in-Faulted
returns-in-Faulted c =
    rw c.in-Faulted.is

pub returns-in-Damaged : goal.returns-in-Damaged
returns-in-Damaged c =
    rw c.in-Damaged.is
