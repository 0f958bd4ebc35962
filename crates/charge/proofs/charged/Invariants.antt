-- Invariant: what is found so far is the charge of the first k frames.
use mathlib.Core.Path.{◌≡◌}
use Prim.Native.Nat.{◌-◌, ◌≤◌}
use Rattle.layout.specs.Layout.{config}
use Rattle.charge.specs.Charge.{charged_from}
use Rattle.charge.proofs.charged.Given as goal

abbrev pub invariant-loop-k : goal.invariant-loop-k
invariant-loop-k l = (l.k ≤ l.fresh) × (l.best ≡ charged_from (config l.layout) l.mem l.frame.0 l.index l.k)

abbrev pub decreases-loop-k : goal.decreases-loop-k
decreases-loop-k l = l.fresh - l.k
