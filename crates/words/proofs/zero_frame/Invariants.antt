-- Invariant: i words from the frame's first place on are set to 0, the rest as lent; a round sets one more, and 512 are all.
use Prim.Native.Nat.{◌-◌, ◌*◌, ◌≤◌}
use mathlib.Core.Path.{◌≡◌}
use lib.ListN.{length}
use Rattle.words.specs.Words.{zeroed}
use Rattle.words.proofs.zero_frame.Given as goal

abbrev pub invariant-loop-i : goal.invariant-loop-i
invariant-loop-i l = (l.i ≤ 512) × (l.base ≡ l.frame * 512) × (length l.mem ≡ length l.initial.mem) × (l.mem ≡ zeroed l.initial.mem l.base l.i)

abbrev pub decreases-loop-i : goal.decreases-loop-i
decreases-loop-i l = 512 - l.i
