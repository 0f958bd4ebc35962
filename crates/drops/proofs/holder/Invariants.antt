-- The loop goes down the prefix: the holder of what is left, from the entry at hand, is the holder of the whole.
use mathlib.Core.Path.{◌≡◌}
use Prim.Native.Nat.{◌-◌, ◌≤◌}
use Rattle.layout.specs.Layout.{config}
use Rattle.spec.specs.Entry.{index, indexes}
use Rattle.drops.specs.Drop.{holder_of}
use Rattle.drops.proofs.holder.Given as goal

abbrev pub invariant-loop-left : goal.invariant-loop-left
invariant-loop-left l = (l.left ≤ l.steps - 1) × (holder_of (config l.layout) l.mem l.at (index l.left l.path) (indexes l.left l.path) ≡ holder_of (config l.layout) l.mem l.initial.at (index l.initial.left l.path) (indexes l.initial.left l.path))

abbrev pub decreases-loop-left : goal.decreases-loop-left
decreases-loop-left l = l.left
