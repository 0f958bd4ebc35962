-- The loop's invariant: what is left of the walk, with the tables noted so far, is handed out as the whole walk's trail.
use mathlib.Core.Path.{◌≡◌}
use Prim.Native.Nat.{◌+◌, ◌*◌, ◌≤◌, ◌<◌}
use Rattle.spec.specs.Entry.{indexes}
use Rattle.layout.specs.Layout.{config}
use Rattle.walk.specs.Memory.{trail_from}
use Rattle.walk.proofs.walk_tables.Given as goal

abbrev pub invariant-loop-left : goal.invariant-loop-left
invariant-loop-left l =
    (l.left ≤ l.steps) × (l.at + 70368744177664 * l.left < 2199023255552 + 70368744177664 * l.steps) × (l.n + 6 * l.left ≤ 1024 + 6 * l.steps) × (l.depth + l.left ≡ l.steps)
    × (trail_from (config l.space.layout) l.space.top l.mem l.tables l.depth l.n l.store (l.below + l.left) l.at l.w (indexes l.left l.path)
    ≡ trail_from (config l.space.layout) l.space.top l.mem l.initial.tables 0 l.initial.n l.store (l.below + l.steps) l.initial.at l.initial.w (indexes l.steps l.path))

abbrev pub decreases-loop-left : goal.decreases-loop-left
decreases-loop-left l = l.left
