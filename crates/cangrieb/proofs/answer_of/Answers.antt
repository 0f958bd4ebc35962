-- One arm for each kind of answer; a fault's letter, level and frame are what their calls promise.
use Rattle.cangrieb.proofs.answer_of.Goals as goal

pub returns-in-Ok : goal.returns-in-Ok
returns-in-Ok c = rw c.in-Ok.is

pub returns-in-Value : goal.returns-in-Value
returns-in-Value c = rw c.in-Value.is

pub returns-in-Done : goal.returns-in-Done
returns-in-Done c = rw c.in-Done.is

pub returns-in-Faulted : goal.returns-in-Faulted
returns-in-Faulted c = rw (c.in-Faulted.is, c.letter_of.ensures, c.level_of.ensures, c.frame_of.ensures)

pub returns-in-Refused : goal.returns-in-Refused
returns-in-Refused c = rw c.in-Refused.is

pub returns-in-Figures : goal.returns-in-Figures
returns-in-Figures c = rw c.in-Figures.is
