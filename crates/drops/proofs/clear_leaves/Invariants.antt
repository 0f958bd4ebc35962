-- Invariant: clearing on from i, in the memory so far, ends as clearing all from lo on; a damaged entry ends it there.
use mathlib.Core.Path.{◌≡◌}
use Prim.Native.Nat.{◌-◌, ◌≤◌}
use Rattle.layout.specs.Layout.{config}
use lib.ListN.{length}
use Rattle.drops.specs.Drop.{clear_leaves_of}
use Rattle.drops.proofs.clear_leaves.Given as goal

abbrev pub invariant-loop-i : goal.invariant-loop-i
invariant-loop-i l = (l.lo ≤ l.i) × (l.i ≤ l.hi) × (length l.mem ≡ length l.initial.mem) × (clear_leaves_of (config l.layout) l.cut l.all l.lowest l.frame (l.hi - l.i) l.i l.mem ≡ clear_leaves_of (config l.layout) l.cut l.all l.lowest l.frame (l.hi - l.lo) l.lo l.initial.mem)

abbrev pub decreases-loop-i : goal.decreases-loop-i
decreases-loop-i l = l.hi - l.i
