-- A prefix of no index drops all; else the scan cuts at its last entry, in the table that holds it, if there is one.
use native.Mathlib.Omega.{arith}
use mathlib.Core.Path.{◌≡◌}
use Rattle.layout.specs.Layout.{config}
use Rattle.drops.proofs.Laws.{prefix_step, prefix_none}
use Rattle.drops.proofs.drop_prefix.Goals as goal

pub returns-then-steps-eq0 : goal.returns-then-steps-eq0
returns-then-steps-eq0 c =
    let args = c.args in
    let no-tables = c.no_tables in
    let z : args.steps ≡ 0 = omega arith in rw (z, prefix_none, no-tables.ensures)

pub returns-in-To : goal.returns-in-To
returns-in-To c =
    let args = c.args in
    let holder = c.holder in
    let index_at = c.index_at in
    let scan = c.scan in
    rw (prefix_step (config args.layout) args.pool args.mem.now args.path args.steps (omega arith), ← holder.ensures, c.in-To.is, ← index_at.ensures) scan.ensures

pub returns-in-Not : goal.returns-in-Not
returns-in-Not c =
    let args = c.args in
    let holder = c.holder in
    rw (prefix_step (config args.layout) args.pool args.mem.now args.path args.steps (omega arith), ← holder.ensures, c.in-Not.is)

pub returns-in-Damaged : goal.returns-in-Damaged
returns-in-Damaged c =
    let args = c.args in
    let holder = c.holder in
    rw (prefix_step (config args.layout) args.pool args.mem.now args.path args.steps (omega arith), ← holder.ensures, c.in-Damaged.is)
