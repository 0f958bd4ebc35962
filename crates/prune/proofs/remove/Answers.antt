-- The path's last index is index 0 of g, under k - 1 tables; a frame that was followed to is below the frame limit.
use Prim.Native.Nat.{◌-◌}
use native.Mathlib.Omega.{arith}
use Rattle.spec.specs.Entry.{index, indexes}
use Rattle.prune.specs.Remove.{remove_of}
use Rattle.prune.proofs.Laws.{indexes_last, last_small}
use Rattle.spec_laws.proofs.Indexes.{indexes_step, indexes_length}
use Rattle.entry.proofs.Entries.{index_fits}
use Rattle.prune.proofs.remove.Goals as goal

pub clear-requires : goal.clear-requires
clear-requires c = let args = c.args in
    let last-table = c.last_table in
    let index_at = c.index_at in
    let good = rw (← last-table.ensures, c.in-To.is) at (last_small args.area.base args.area.size args.mem.now args.pool.top (index (args.steps - 1) args.path) (indexes (args.steps - 1) args.path)) in
    let i = rw (← index_at.ensures) at (index_fits 0 args.path) in
    (good, omega arith, i)

pub returns-in-To : goal.returns-in-To
unfolding remove_of
returns-in-To c = let args = c.args in
    let pre = c.requires in
    let last-table = c.last_table in
    let index_at = c.index_at in
    let clear = c.clear in
    rw (indexes_step args.steps args.path (omega (arith, pre.1)), ← last-table.ensures, c.in-To.is, indexes_length, indexes_last, ← index_at.ensures) clear.ensures

pub returns-in-Not : goal.returns-in-Not
unfolding remove_of
returns-in-Not c = let args = c.args in
    let last-table = c.last_table in
    rw (indexes_step args.steps args.path (omega arith), ← last-table.ensures, c.in-Not.is)

pub returns-in-Damaged : goal.returns-in-Damaged
unfolding remove_of
returns-in-Damaged c = let args = c.args in
    let last-table = c.last_table in
    rw (indexes_step args.steps args.path (omega arith), ← last-table.ensures, c.in-Damaged.is)
