-- By the verdict on what the direct part came to.
use native.Mathlib.Omega.{arith}
use Rattle.layout.specs.Layout.{config}
use Rattle.translate.specs.Translate.{arrived_of}
use Rattle.translate.proofs.Fits.{exit_small, direct_reads}
use Rattle.translate.proofs.arrived.Goals as goal

pub ruled-requires : goal.ruled-requires
ruled-requires c =
    let direct = c.direct-walked in
    let args = c.args in
    let pre = c.requires in
    (pre.0, pre.1, pre.3, rw direct.ensures (direct_reads (config args.space.layout) args.space.top args.mem.now args.request.store args.request.address.0 args.request.depth args.page.0 args.writable pre.0.0 pre.1))

pub overflow_add-exit_of : goal.overflow_add-exit_of
overflow_add-exit_of c =
    let exit-of = c.exit_of in
    let direct = c.direct-walked in
    rw exit-of.ensures (let k = exit_small direct.result in omega arith)

pub returns-in-Fill : goal.returns-in-Fill
unfolding arrived_of
returns-in-Fill c =
    let filled = c.filled in
    let exit-of = c.exit_of in
    let ruled = c.ruled in
    let direct = c.direct-walked in
    rw (← direct.ensures, ← ruled.ensures, c.in-Fill.is, ← exit-of.ensures) filled.ensures

pub returns-in-End : goal.returns-in-End
unfolding arrived_of
returns-in-End c =
    let ruled = c.ruled in
    let direct = c.direct-walked in
    rw (← direct.ensures, ← ruled.ensures, c.in-End.is)

pub returns-in-Damaged : goal.returns-in-Damaged
unfolding arrived_of
returns-in-Damaged c =
    let damaged = c.damaged in
    let ruled = c.ruled in
    let direct = c.direct-walked in
    rw (← direct.ensures, ← ruled.ensures, c.in-Damaged.is, damaged.ensures)
