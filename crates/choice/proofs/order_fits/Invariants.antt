-- The places left fit, with those set that were not met, exactly if all do.
use mathlib.Core.Path.{◌≡◌}
use Prim.Native.Nat.{◌-◌, ◌^◌, ◌<◌, ◌≤◌}
use lib.ListN.{take}
use lib.Seq.{slice}
use Rattle.choice.specs.Order.{order_fits}
use Rattle.choice.proofs.order_fits.Given as goal

abbrev pub invariant-loop-i : goal.invariant-loop-i
invariant-loop-i l =
    (l.i ≤ l.count) × (l.rest < 2 ^ 64) × (order_fits l.place l.rest (slice l.i l.count l.order) ≡ order_fits l.place l.set (take l.count l.order))

abbrev pub decreases-loop-i : goal.decreases-loop-i
decreases-loop-i l = l.count - l.i
