-- The loop climbs from table to table: what is left of the release gives the whole; a table climbed to lies in the area.
use Prim.Native.Nat.{◌<◌}
use mathlib.Core.Path.{◌≡◌}
use lib.ListN.{length}
use Rattle.spec.specs.Entry.{frame_limit}
use Rattle.prune.specs.Remove.{release_of}
use Rattle.prune.proofs.release.Given as goal

abbrev pub invariant-loop-links : goal.invariant-loop-links
invariant-loop-links l = (l.t < frame_limit) × (length l.mem ≡ length l.initial.mem) × (release_of l.area l.stays l.cur l.mem l.links l.t ≡ release_of l.area l.stays l.initial.cur l.initial.mem l.initial.links l.initial.t)

abbrev pub decreases-loop-links : goal.decreases-loop-links
decreases-loop-links l = l.links
