use mathlib.Core.Path.{◌≡◌}
use Prim.Native.Nat.{◌-◌, ◌≤◌}
use Rattle.choice.proofs.Loops.{packed, packed_to}
use Rattle.choice.proofs.without.Given as goal

abbrev pub invariant-loop-i : goal.invariant-loop-i
invariant-loop-i l = (l.kept ≤ l.i) × (l.i ≤ l.end) × (l.kept ≡ packed_to l.place l.initial.order l.i) × (l.order ≡ packed l.place l.initial.order l.i)

abbrev pub decreases-loop-i : goal.decreases-loop-i
decreases-loop-i l = l.end - l.i
