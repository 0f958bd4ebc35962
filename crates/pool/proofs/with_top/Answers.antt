-- By the definition: the other three fields are the pool's own.
use mathlib.Core.Path.{refl}
use Rattle.pool.specs.Pool.{with_top}
use Rattle.pool.proofs.with_top.Goals as goal

pub returns : goal.returns
unfolding with_top
returns c = refl
