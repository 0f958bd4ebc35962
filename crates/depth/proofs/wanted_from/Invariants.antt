-- A key that is not wanted is passed over.
use mathlib.Core.Path.{◌≡◌}
use Prim.Native.Nat.{◌<◌, ◌≤◌, ◌^◌}
use Rattle.marks.specs.Table.{keys}
use Rattle.marks.specs.ByLevel.{wanted_from}
use Rattle.depth.proofs.wanted_from.Given as goal

abbrev pub invariant-loop-rest : goal.invariant-loop-rest
invariant-loop-rest l = ((l.rest < 2 ^ 64) × (l.rest ≤ l.set)) × (wanted_from l.wants (keys l.place l.rest) ≡ wanted_from l.wants (keys l.place l.set))

abbrev pub decreases-loop-rest : goal.decreases-loop-rest
decreases-loop-rest l = l.rest
