-- Those found, with those among the words left, are all.
use mathlib.Core.Path.{◌≡◌}
use Prim.Native.Nat.{◌+◌, ◌<◌, ◌≤◌}
use Rattle.choice.proofs.Loops.{charges_in}
use Rattle.choice.proofs.charges.Given as goal

abbrev pub invariant-loop-left : goal.invariant-loop-left
invariant-loop-left l =
    (l.left ≤ 64) × (l.at < 64) × (l.found + l.left ≤ 64) × (l.found + charges_in l.levels l.prefix l.ring l.at l.left ≡ charges_in l.levels l.prefix l.ring l.initial.at l.initial.left)

abbrev pub decreases-loop-left : goal.decreases-loop-left
decreases-loop-left l = l.left
