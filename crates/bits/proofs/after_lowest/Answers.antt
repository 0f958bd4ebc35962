-- Less than x, as `&` never passes its second number. Assumes nothing.
use mathlib.Core.Path.{refl}
use Prim.Native.Nat.{◌-◌}
use native.Mathlib.Omega.{arith}
use lib.Bits.{and_le_r}
use Rattle.bits.proofs.after_lowest.Goals as goal

pub returns : goal.returns
returns c = (refl, omega (arith, and_le_r c.args.x (c.args.x - 1)))
