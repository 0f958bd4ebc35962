-- The one kept is the first of those met, seen from the last back, and `fewest` are its charges.
use mathlib.Core.Path.{◌≡◌}
use mathlib.Core.Option.{some}
use Prim.Native.Nat.{◌-◌, ◌≤◌}
use Rattle.choice.specs.Order.{charges_at, leaves_before}
use Rattle.choice.proofs.Loops.{first_in}
use Rattle.choice.proofs.leaving.Given as goal

abbrev pub invariant-loop-i : goal.invariant-loop-i
invariant-loop-i l =
    (1 ≤ l.i) × (l.i ≤ l.end) × (first_in (leaves_before l.levels l.ring l.t l.place) l.order l.i ≡ some l.best) × (l.fewest ≡ charges_at l.levels l.ring l.t l.place l.best)

abbrev pub decreases-loop-i : goal.decreases-loop-i
decreases-loop-i l = l.end - l.i
