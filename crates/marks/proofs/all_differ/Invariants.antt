-- The keys left fit exactly if all do.
use mathlib.Core.Path.{◌≡◌}
use Prim.Native.Nat.{◌<◌, ◌^◌}
use Rattle.marks.specs.Key.{keys_fit}
use Rattle.marks.specs.Table.{keys}
use Rattle.marks.proofs.all_differ.Given as goal

abbrev pub invariant-loop-rest : goal.invariant-loop-rest
invariant-loop-rest l = (l.rest < 2 ^ 64) × (keys_fit l.levels (keys l.place l.rest) ≡ keys_fit l.levels (keys l.place l.set))

abbrev pub decreases-loop-rest : goal.decreases-loop-rest
decreases-loop-rest l = l.rest
