-- One arm for each way: the new pool and 0, the old pool and the given number, the old pool and 11.
use Rattle.host.proofs.settled.Goals as goal

pub returns-in-To : goal.returns-in-To
returns-in-To c = rw c.in-To.is

pub returns-in-Not : goal.returns-in-Not
returns-in-Not c = rw c.in-Not.is

pub returns-in-Damaged : goal.returns-in-Damaged
returns-in-Damaged c = rw c.in-Damaged.is
