-- Invariant: the scan on from frame i, with pool and memory so far, ends as the whole scan does; damage ends it there.
use mathlib.Core.Path.{◌≡◌}
use Prim.Native.Nat.{◌-◌, ◌≤◌}
use Rattle.layout.specs.Layout.{config}
use lib.ListN.{length}
use Rattle.drops.specs.Drop.{scan_from}
use Rattle.drops.proofs.scan.Given as goal

abbrev pub invariant-loop-i : goal.invariant-loop-i
invariant-loop-i l = (l.i ≤ l.fresh) × (length l.mem ≡ length l.initial.mem) × (scan_from (config l.layout) l.cut (l.fresh - l.i) l.i l.cur l.mem ≡ scan_from (config l.layout) l.cut (l.fresh - l.initial.i) l.initial.i l.initial.cur l.initial.mem)

abbrev pub decreases-loop-i : goal.decreases-loop-i
decreases-loop-i l = l.fresh - l.i
