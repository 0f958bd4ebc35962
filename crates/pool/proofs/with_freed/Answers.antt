-- Where nothing is in use the definition's subtraction stays at 0, so both arms of the code are its one line.
use Prim.Native.Nat.{◌-◌}
use native.Mathlib.Omega.{arith}
use mathlib.Core.Path.{◌≡◌, refl}
use Rattle.pool.specs.Pool.{link, with_freed}
use Rattle.pool.proofs.with_freed.Goals as goal

pub returns-then-pool-eq0 : goal.returns-then-pool-eq0
unfolding with_freed link
returns-then-pool-eq0 c =
    let none : c.args.pool.used - 1 ≡ 0 = omega arith in
    rw none

pub returns-else-pool-eq0 : goal.returns-else-pool-eq0
unfolding with_freed link
returns-else-pool-eq0 c = refl
