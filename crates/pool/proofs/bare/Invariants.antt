-- The loop comes down from 512: while no entry from k on is present, the first k are bare exactly if all 512 are.
use Prim.Native.Nat.{◌≤◌}
use mathlib.Core.Path.{◌≡◌}
use Rattle.pool.specs.Header.{bare_of}
use Rattle.pool.proofs.bare.Given as goal

abbrev pub invariant-loop-k : goal.invariant-loop-k
invariant-loop-k l = (l.k ≤ 512) × (bare_of l.mem l.frame l.k ≡ bare_of l.mem l.frame 512)

abbrev pub decreases-loop-k : goal.decreases-loop-k
decreases-loop-k l = l.k
