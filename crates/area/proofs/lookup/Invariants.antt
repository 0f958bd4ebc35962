-- The loop goes down the path: the lookup of what is left, from the entry at hand with the words read, is the whole lookup.
use Prim.Native.Nat.{◌+◌, ◌≤◌}
use mathlib.Core.Path.{◌≡◌}
use Rattle.spec.specs.Entry.{indexes}
use Rattle.area.specs.Tree.{lookup_of}
use Rattle.area.proofs.lookup.Given as goal

abbrev pub invariant-loop-left : goal.invariant-loop-left
invariant-loop-left l = (l.n + l.left ≡ l.initial.left) × (l.left ≤ l.steps) × (lookup_of l.base l.size l.mem l.at (indexes l.left l.path) l.n ≡ lookup_of l.base l.size l.mem l.initial.at (indexes l.initial.left l.path) l.initial.n)

abbrev pub decreases-loop-left : goal.decreases-loop-left
decreases-loop-left l = l.left
