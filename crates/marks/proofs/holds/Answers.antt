-- A key is found exactly if the table has it.
use Rattle.marks.proofs.Search.{place_known}
use Rattle.marks.proofs.holds.Goals as goal

pub returns : goal.returns
returns c = rw c.place_of.ensures (place_known c.args.place.now c.args.key c.args.set)
