-- What is found so far and the lookup among the places left make the whole, at each page that wants these keys; a level above all
-- tables' is above what is found.
use mathlib.Core.Path.{◌≡◌}
use Prim.Native.Nat.{ℕ, ◌<◌, ◌≤◌, ◌^◌}
use Rattle.marks.specs.Key.{search_of}
use Rattle.marks.specs.Table.{keys}
use Rattle.marks.specs.ByLevel.{wants_of}
use Rattle.marks.proofs.ByLevel.{Onward}
use Rattle.depth.proofs.search.Given as goal

abbrev pub invariant-loop-rest : goal.invariant-loop-rest
invariant-loop-rest l = ((l.rest < 2 ^ 64) × (l.found ≤ l.levels)) × ((p : ℕ) → l.wants ≡ wants_of p → Onward l.found (keys l.place l.set) (keys l.place l.rest) (search_of l.levels p (keys l.place l.set)) (search_of l.levels p (keys l.place l.rest)))

abbrev pub decreases-loop-rest : goal.decreases-loop-rest
decreases-loop-rest l = l.rest
