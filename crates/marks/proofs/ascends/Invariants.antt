-- The keys left ascend from the last one exactly if all do from 0.
use mathlib.Core.Path.{◌≡◌}
use Prim.Native.Nat.{◌<◌, ◌^◌}
use Rattle.marks.specs.Key.{ascending}
use Rattle.marks.specs.Table.{keys}
use Rattle.marks.proofs.ascends.Given as goal

abbrev pub invariant-loop-rest : goal.invariant-loop-rest
invariant-loop-rest l = (l.rest < 2 ^ 64) × (ascending l.levels l.last (keys l.place l.rest) ≡ ascending l.levels 0 (keys l.place l.set))

abbrev pub decreases-loop-rest : goal.decreases-loop-rest
decreases-loop-rest l = l.rest
