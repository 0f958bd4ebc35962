-- By `table_step` the host walk's end decides; one that finds nothing read at most a word a level, so the count fits.
use mathlib.Core.Bool.{false}
use Rattle.layout.specs.Layout.{config}
use Rattle.host.proofs.Laws.{host_fits}
use native.Mathlib.Omega.{arith}
use Rattle.walk.proofs.Laws.{table_step}
use Rattle.walk.proofs.to_table.Goals as goal

pub overflow_add-result-in-Absent : goal.overflow_add-result-in-Absent
overflow_add-result-in-Absent c =
    let args = c.args in
    let pre = c.requires in
    let host-walk = c.host_walk in
    let good = rw (← host-walk.ensures, c.in-Absent.is) at (host_fits (config args.space.layout) args.space.top args.mem.now args.guest.0) in
    omega (arith, good, pre)

pub returns-in-Found : goal.returns-in-Found
returns-in-Found c =
    let args = c.args in
    let host-walk = c.host_walk in
    rw (table_step (config args.space.layout) args.space.top args.mem.now args.read false args.guest.0 args.right, ← host-walk.ensures, c.in-Found.is)

pub returns-in-Absent : goal.returns-in-Absent
returns-in-Absent c =
    let args = c.args in
    let host-walk = c.host_walk in
    rw (table_step (config args.space.layout) args.space.top args.mem.now args.read false args.guest.0 args.right, ← host-walk.ensures, c.in-Absent.is)

pub returns-in-Damaged : goal.returns-in-Damaged
returns-in-Damaged c =
    let args = c.args in
    let host-walk = c.host_walk in
    rw (table_step (config args.space.layout) args.space.top args.mem.now args.read false args.guest.0 args.right, ← host-walk.ensures, c.in-Damaged.is)
