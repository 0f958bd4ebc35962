-- Dividing by one changes nothing. Assumes nothing.
use Rattle.std.proofs.Common.{◌≡◌, ◌/◌, arith}
use Rattle.spec.specs.Entry.{bit_set, present}
use Rattle.entry.proofs.present.Goals as goal

pub returns : goal.returns
unfolding present bit_set
returns c = let same : c.args.e / 1 ≡ c.args.e = omega arith in rw same
