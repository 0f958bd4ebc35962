-- The loop comes down over the places, as that of `knows` does.
use mathlib.Core.Path.{◌≡◌}
use Prim.Native.Nat.{◌≤◌}
use Rattle.spec.specs.Prefix.{any}
use Rattle.forecast.specs.Forecast.{newest, passes}
use Rattle.forecast.proofs.stands.Given as goal

abbrev pub invariant-loop-left : goal.invariant-loop-left
invariant-loop-left l = (l.left ≤ l.count) × (any (passes l.level l.indexes) (newest l.room l.left) ≡ any (passes l.level l.indexes) (newest l.room l.count))

abbrev pub decreases-loop-left : goal.decreases-loop-left
decreases-loop-left l = l.left
