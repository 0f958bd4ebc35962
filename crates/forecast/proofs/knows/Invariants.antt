-- The loop comes down over the places: none from `left` on holds the key, so any does exactly if one of the first `left` does.
use mathlib.Core.Path.{◌≡◌}
use Prim.Native.Nat.{◌≤◌}
use lib.Dec.{eqb}
use Rattle.spec.specs.Prefix.{any}
use Rattle.forecast.specs.Forecast.{newest}
use Rattle.forecast.proofs.knows.Given as goal

abbrev pub invariant-loop-left : goal.invariant-loop-left
invariant-loop-left l = (l.left ≤ l.count) × (any (eqb l.key) (newest l.room l.left) ≡ any (eqb l.key) (newest l.room l.count))

abbrev pub decreases-loop-left : goal.decreases-loop-left
decreases-loop-left l = l.left
