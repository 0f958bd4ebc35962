-- By the kind of cut: the guest number is compared, any table may be cut, or the frame itself is compared.
use Rattle.drops.proofs.touches.Goals as goal

pub returns-in-Word : goal.returns-in-Word
returns-in-Word c = rw (c.in-Word.is, c.stands_for.ensures)

pub returns-in-Names : goal.returns-in-Names
returns-in-Names c = rw c.in-Names.is

pub returns-in-Slot : goal.returns-in-Slot
returns-in-Slot c = rw c.in-Slot.is
