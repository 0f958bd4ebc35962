-- The loop comes down over the frames handed out: none from k on watches, so any does exactly if one of the first k does.
use mathlib.Core.Path.{◌≡◌}
use Prim.Native.Nat.{◌≤◌}
use Rattle.shadow.specs.Watch.{watched_from}
use Rattle.shadow.proofs.watched.Given as goal

abbrev pub invariant-loop-k : goal.invariant-loop-k
invariant-loop-k l = (l.k ≤ l.fresh) × (watched_from l.mem l.layout.hosts l.frame.0 l.k ≡ watched_from l.mem l.layout.hosts l.frame.0 l.fresh)

abbrev pub decreases-loop-k : goal.decreases-loop-k
decreases-loop-k l = l.k
