-- The loop climbs the links: what is left of the climb ends as the whole does; a parent is below the frame limit.
use mathlib.Core.Path.{◌≡◌}
use Prim.Native.Nat.{◌<◌}
use Rattle.spec.specs.Entry.{frame_limit}
use Rattle.layout.specs.Layout.{config}
use Rattle.drops.specs.Cut.{links_up_of}
use Rattle.drops.proofs.links_up.Given as goal

abbrev pub invariant-loop-links : goal.invariant-loop-links
invariant-loop-links l = (l.t < frame_limit) × (links_up_of (config l.layout) l.cut l.mem l.links l.t ≡ links_up_of (config l.layout) l.cut l.mem l.initial.links l.initial.t)

abbrev pub decreases-loop-links : goal.decreases-loop-links
decreases-loop-links l = l.links
