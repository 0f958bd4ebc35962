-- With their bits set in what is left of the entries, memory is as with all of them set.
use mathlib.Core.Path.{◌≡◌}
use Prim.Native.Nat.{◌+◌, ◌≤◌}
use lib.ListN.{length}
use Rattle.spec.specs.Entry.{indexes}
use Rattle.accessed.specs.Entries.{entries, bits_in}
use Rattle.accessed.proofs.set_bits.Given as goal

abbrev pub invariant-loop-left : goal.invariant-loop-left
invariant-loop-left l =
    (l.left ≤ l.steps) × (l.depth + l.left ≡ l.steps) × (length l.mem ≡ length l.initial.mem)
    × (bits_in l.store l.mem (entries l.tables l.depth (indexes l.left l.page)) ≡ bits_in l.store l.initial.mem (entries l.tables 0 (indexes l.steps l.page)))

abbrev pub decreases-loop-left : goal.decreases-loop-left
decreases-loop-left l = l.left
