-- The places before the depth are tables, and what is left has the rest of them.
use mathlib.Core.Path.{◌≡◌}
use Prim.Native.Nat.{◌+◌}
use Rattle.layout.specs.Layout.{config}
use Rattle.accessed.specs.Entries.{tables_in}
use Rattle.accessed.proofs.tables_in.Given as goal

abbrev pub invariant-loop-left : goal.invariant-loop-left
invariant-loop-left l =
    (l.depth + l.left ≡ l.steps) × (l.depth + tables_in (config l.layout) l.places l.depth l.left ≡ tables_in (config l.layout) l.places 0 l.steps)

abbrev pub decreases-loop-left : goal.decreases-loop-left
decreases-loop-left l = l.left
