-- By the kind of cut; each arm is the definition's.
use Rattle.drops.proofs.low.Goals as goal

pub returns-in-Word : goal.returns-in-Word
returns-in-Word c = rw c.in-Word.is

pub returns-in-Names : goal.returns-in-Names
returns-in-Names c = rw c.in-Names.is

pub returns-in-Slot : goal.returns-in-Slot
returns-in-Slot c = rw c.in-Slot.is
