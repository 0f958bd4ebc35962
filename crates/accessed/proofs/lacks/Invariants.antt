-- What is left of the entries lacks a bit just where all of them do.
use mathlib.Core.Path.{◌≡◌}
use Prim.Native.Nat.{◌+◌, ◌≤◌}
use Rattle.spec.specs.Entry.{indexes}
use Rattle.spec.specs.Bits.{lacks}
use Rattle.accessed.specs.Entries.{entries, words_of}
use Rattle.accessed.proofs.lacks.Given as goal

abbrev pub invariant-loop-left : goal.invariant-loop-left
invariant-loop-left l =
    (l.left ≤ l.steps) × (l.depth + l.left ≡ l.steps)
    × (lacks (words_of l.mem) l.store (entries l.tables l.depth (indexes l.left l.page)) ≡ lacks (words_of l.mem) l.store (entries l.tables 0 (indexes l.steps l.page)))

abbrev pub decreases-loop-left : goal.decreases-loop-left
decreases-loop-left l = l.left
