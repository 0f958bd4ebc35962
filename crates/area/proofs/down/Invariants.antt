-- The loop goes down the path: what is left of the descent, from table t with the pool so far, gives what the whole gives.
use Prim.Native.Nat.{◌+◌, ◌-◌, ◌<◌}
use mathlib.Core.Path.{◌≡◌}
use lib.ListN.{length}
use Rattle.spec.specs.Entry.{index, indexes, frame_limit}
use Rattle.area.specs.Tree.{down_of}
use Rattle.area.proofs.down.Given as goal

abbrev pub invariant-loop-left : goal.invariant-loop-left
invariant-loop-left l = (l.left + l.depth ≡ l.steps - 1) × (l.t < frame_limit) × (length l.mem ≡ length l.initial.mem) × (down_of l.area l.guests l.cur l.mem l.depth l.t (index l.left l.path) (indexes l.left l.path) l.entry ≡ down_of l.area l.guests l.initial.cur l.initial.mem l.initial.depth l.initial.t (index l.initial.left l.path) (indexes l.initial.left l.path) l.entry)

abbrev pub decreases-loop-left : goal.decreases-loop-left
decreases-loop-left l = l.left
