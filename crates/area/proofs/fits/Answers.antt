-- The code subtracts where the definition adds, so that no sum can overflow; either way the two tests agree.
use Prim.Native.Nat.{◌+◌, ◌-◌}
use native.Mathlib.Omega.{arith}
use Rattle.area.proofs.Laws.{leb_same}
use Rattle.area.proofs.fits.Goals as goal

pub returns-then-used-size : goal.returns-then-used-size
returns-then-used-size c = let args = c.args in
    leb_same args.more (args.size - args.used) (args.used + args.more) args.size (omega arith) (omega arith)

pub returns-else-used-size : goal.returns-else-used-size
returns-else-used-size c = let args = c.args in
    leb_same args.used args.size (args.used + args.more) args.size (omega arith) (omega arith)
