-- The places filled so far, with the keys left, make the places of the whole.
use mathlib.Core.Path.{◌≡◌}
use Prim.Native.Nat.{◌+◌, ◌<◌, ◌^◌}
use lib.Count.{ones}
use lib.ListN.{length, replicate}
use Rattle.marks.specs.Table.{keys}
use Rattle.marks.proofs.Insert.{filled}
use Rattle.marks.proofs.Marks.inserted.Given as goal

abbrev pub invariant-loop-rest : goal.invariant-loop-rest
invariant-loop-rest l = (l.rest < 2 ^ 64) × (l.count + length (keys l.self.place l.rest) ≡ ones l.self.set) × (filled l.place l.count l.next (keys l.self.place l.rest) ≡ filled (replicate 64 0) 0 l.key (keys l.self.place l.self.set))

abbrev pub decreases-loop-rest : goal.decreases-loop-rest
decreases-loop-rest l = l.rest
