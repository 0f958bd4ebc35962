-- The loop goes down the path: the table that ends what is left, from the entry at hand, is the one that ends the whole.
use Prim.Native.Nat.{◌≤◌}
use mathlib.Core.Path.{◌≡◌}
use Rattle.spec.specs.Entry.{index, indexes}
use Rattle.prune.specs.Remove.{last_table_of}
use Rattle.prune.proofs.last_table.Given as goal

abbrev pub invariant-loop-left : goal.invariant-loop-left
invariant-loop-left l = (l.left ≤ 6) × (last_table_of l.base l.size l.mem l.at (index l.left l.path) (indexes l.left l.path) ≡ last_table_of l.base l.size l.mem l.initial.at (index l.initial.left l.path) (indexes l.initial.left l.path))

abbrev pub decreases-loop-left : goal.decreases-loop-left
decreases-loop-left l = l.left
