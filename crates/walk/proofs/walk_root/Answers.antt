-- The root's host walk, then the tables; where it fails no table was read.
use mathlib.Core.Path.{ap, ◌∙◌}
use mathlib.Core.Bool.{true, false}
use native.Mathlib.Omega.{arith}
use Rattle.spec.specs.Entry.{indexes}
use Rattle.layout.specs.Layout.{config}
use Rattle.walk.specs.Memory.{trail_of}
use Rattle.walk.proofs.Laws.{table_fits}
use Rattle.walk.proofs.Trails.{trail_root}
use Rattle.walk.proofs.walk_root.Goals as goal

pub walk_tables-requires : goal.walk_tables-requires
walk_tables-requires c =
    let args = c.args in
    let pre = c.requires in
    let to-table = c.to_table in
    let fits = rw (← to-table.ensures, c.in-Arrived.is) at (table_fits (config args.space.layout) args.space.top args.mem.now 0 false args.root.0 true) in
    (pre.0, omega (arith, pre), omega (arith, fits.1, pre), omega (arith, fits.0.1, pre))

pub returns-in-Faulted : goal.returns-in-Faulted
returns-in-Faulted c =
    let args = c.args in
    let to-table = c.to_table in
    rw (trail_root (config args.space.layout) args.space.top args.mem.now args.store args.root.0 (indexes args.steps args.path), ← to-table.ensures, c.in-Faulted.is)

pub returns-in-Damaged : goal.returns-in-Damaged
returns-in-Damaged c =
    let args = c.args in
    let to-table = c.to_table in
    rw (trail_root (config args.space.layout) args.space.top args.mem.now args.store args.root.0 (indexes args.steps args.path), ← to-table.ensures, c.in-Damaged.is)

pub returns-in-Arrived : goal.returns-in-Arrived
returns-in-Arrived c =
    let args = c.args in
    let pre = c.requires in
    let to_table = c.to_table in
    let arm = c.in-Arrived in
    rw (trail_root (config args.space.layout) args.space.top args.mem.now args.store args.root.0 (indexes args.steps args.path), ← to_table.ensures, arm.is)
    (c.walk_tables.ensures ∙ ap (λ n. trail_of (config args.space.layout) args.space.top args.mem.now arm.reads args.store n arm.page.0 true (indexes args.steps args.path)) pre.1)
