-- The loop climbs the links: the prefix of the table that it has come to, with the slots met so far below it, is the whole. What a slot
-- counts for is bounded by the links left.
use mathlib.Core.Path.{◌≡◌}
use Prim.Native.Nat.{◌≤◌, ◌<◌}
use Rattle.spec.specs.Entry.{frame_limit}
use Rattle.layout.specs.Layout.{config}
use Rattle.charge.specs.Charge.{prefix_of}
use Rattle.charge.proofs.Laws.{over, place_limit}
use Rattle.charge.proofs.prefix_of.Given as goal

abbrev pub invariant-loop-links : goal.invariant-loop-links
invariant-loop-links l =
    (l.t < frame_limit) × (l.links ≤ 4) × (l.place ≤ place_limit l.links) × (l.number < l.place) × (over (prefix_of (config l.layout) l.mem l.links l.t) l.place l.number ≡ prefix_of (config l.layout) l.mem l.above l.frame)

abbrev pub decreases-loop-links : goal.decreases-loop-links
decreases-loop-links l = l.links
