-- The loop goes down the levels: n tables stand above, and those that stand below are still to be counted.
use mathlib.Core.Path.{◌≡◌}
use Prim.Native.Nat.{◌+◌, ◌≤◌}
use Rattle.forecast.specs.Forecast.{newest, met_from}
use Rattle.forecast.proofs.met.Given as goal

abbrev pub invariant-loop-left : goal.invariant-loop-left
invariant-loop-left l = (l.left ≤ l.steps) × (l.n + l.left ≡ l.steps) × (l.n + met_from (newest l.room l.count) l.levels l.address.0 l.depth l.left ≡ met_from (newest l.room l.count) l.levels l.address.0 l.depth l.steps)

abbrev pub decreases-loop-left : goal.decreases-loop-left
decreases-loop-left l = l.left
