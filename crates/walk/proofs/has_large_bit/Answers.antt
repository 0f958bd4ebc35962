-- Level 1 first, then bit 7.
use mathlib.Core.Path.{sym, ap}
use mathlib.Core.Bool.{◌&&◌}
use Prim.Native.Nat.{◌/◌, ◌%◌, ◌<◌}
use native.Mathlib.Omega.{arith}
use lib.Dec.{eqb}
use borrow.Author.Tests.{lt-ltb}
use Rattle.spec.specs.Entry.{bit_set}
use Rattle.walk.proofs.has_large_bit.Goals as goal

pub returns : goal.returns
unfolding bit_set
returns c =
    let above : 1 < c.args.level = omega arith in
    sym (ap (λ x. x && eqb (c.args.e / 128 % 2) 1) (lt-ltb 1 _ above))
