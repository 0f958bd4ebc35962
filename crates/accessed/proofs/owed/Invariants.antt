-- What is left of the entries owes what all of them do.
use mathlib.Core.Path.{◌≡◌}
use Prim.Native.Nat.{◌+◌, ◌≤◌}
use Rattle.spec.specs.Entry.{indexes}
use Rattle.layout.specs.Layout.{config}
use Rattle.accessed.specs.Entries.{entries, owed_of}
use Rattle.accessed.proofs.owed.Given as goal

abbrev pub invariant-loop-left : goal.invariant-loop-left
invariant-loop-left l =
    (l.left ≤ l.steps) × (l.depth + l.left ≡ l.steps)
    × (owed_of (config l.space.layout) l.space.top l.mem l.store (l.below + l.left) l.at (entries l.tables l.depth (indexes l.left l.page))
    ≡ owed_of (config l.space.layout) l.space.top l.mem l.store (l.below + l.steps) l.initial.at (entries l.tables 0 (indexes l.steps l.page)))

abbrev pub decreases-loop-left : goal.decreases-loop-left
decreases-loop-left l = l.left
