-- By `page_step`: P before the host walk, else by its end; that walk reads at most a word a level, so the count fits.
use Rattle.layout.specs.Layout.{config}
use Rattle.host.proofs.Laws.{host_fits}
use native.Mathlib.Omega.{arith}
use Rattle.walk.proofs.Laws.{page_step}
use Rattle.walk.proofs.to_page.Goals as goal

pub overflow_add-result : goal.overflow_add-result
overflow_add-result c =
    let args = c.args in
    let pre = c.requires in
    let host-walk = c.host_walk in
    let good = rw (← host-walk.ensures, c.in-Absent.is) at (host_fits (config args.space.layout) args.space.top args.mem.now args.guest.0) in
    omega (arith, good, pre)

pub returns-in-Found : goal.returns-in-Found
returns-in-Found c =
    let args = c.args in
    let granted = c.granted in
    let if1 = c.if-granted in
    let host-walk = c.host_walk in
    let to-found = c.to_found in
    rw (page_step (config args.space.layout) args.space.top args.mem.now args.read args.store args.guest.0 args.right, ← granted.ensures, if1.true, ← host-walk.ensures, c.in-Found.is) to-found.ensures

pub returns-in-Absent : goal.returns-in-Absent
returns-in-Absent c =
    let args = c.args in
    let granted = c.granted in
    let if1 = c.if-granted in
    let host-walk = c.host_walk in
    rw (page_step (config args.space.layout) args.space.top args.mem.now args.read args.store args.guest.0 args.right, ← granted.ensures, if1.true, ← host-walk.ensures, c.in-Absent.is)

pub returns-in-Damaged : goal.returns-in-Damaged
returns-in-Damaged c =
    let args = c.args in
    let granted = c.granted in
    let if1 = c.if-granted in
    let host-walk = c.host_walk in
    rw (page_step (config args.space.layout) args.space.top args.mem.now args.read args.store args.guest.0 args.right, ← granted.ensures, if1.true, ← host-walk.ensures, c.in-Damaged.is)

pub returns-else-granted : goal.returns-else-granted
returns-else-granted c =
    let args = c.args in
    let granted = c.granted in
    let if1 = c.if-granted in
    rw (page_step (config args.space.layout) args.space.top args.mem.now args.read args.store args.guest.0 args.right, ← granted.ensures, if1.false)
