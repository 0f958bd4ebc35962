-- A number that is not 0 has a set bit below the place 64. Assumes nothing.
use mathlib.Core.Path.{refl}
use native.Mathlib.Omega.{arith}
use lib.Count.{trailing_le}
use Rattle.bits.proofs.Laws.{lowest_bit}
use Rattle.bits.proofs.lowest.Goals as goal

pub overflow_cast-result : goal.overflow_cast-result
overflow_cast-result c = omega (arith, trailing_le 64 c.args.x)

pub returns : goal.returns
returns c = (refl, (lowest_bit 64 c.args.x (omega arith) (omega arith)).0)
