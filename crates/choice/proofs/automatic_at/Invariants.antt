-- The places left hold it exactly if all do.
use mathlib.Core.Path.{◌≡◌}
use Prim.Native.Nat.{◌-◌, ◌≤◌}
use lib.Dec.{eqb}
use lib.ListN.{take}
use lib.Seq.{slice}
use Rattle.spec.specs.Prefix.{any}
use Rattle.choice.proofs.automatic_at.Given as goal

abbrev pub invariant-loop-i : goal.invariant-loop-i
invariant-loop-i l = (l.i ≤ l.count) × (any (eqb l.place) (slice l.i l.count l.order) ≡ any (eqb l.place) (take l.count l.order))

abbrev pub decreases-loop-i : goal.decreases-loop-i
decreases-loop-i l = l.count - l.i
