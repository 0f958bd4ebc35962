-- By what the bits say.
use Rattle.translate.proofs.settled.Goals as goal

pub returns-in-Clear : goal.returns-in-Clear
returns-in-Clear c =
    rw c.in-Clear.is

pub returns-in-Stopped : goal.returns-in-Stopped
returns-in-Stopped c =
    rw c.in-Stopped.is

pub returns-in-Damaged : goal.returns-in-Damaged
returns-in-Damaged c =
    let damaged = c.damaged in
    rw c.in-Damaged.is damaged.ensures
