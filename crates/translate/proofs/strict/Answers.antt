-- By the end of the direct part, and where that arrived by its bits.
use native.Mathlib.Omega.{arith}
use Rattle.layout.specs.Layout.{config}
use Rattle.walk.specs.declared.Walked.TheVariants as walked
use Rattle.translate.proofs.Fits.{exit_few}
use Rattle.translate.proofs.Bits.{checked_once}
use Rattle.translate.proofs.strict.Goals as goal

pub end-requires : goal.end-requires
end-requires c =
    let check = c.check in
    let layout = c.layout-1 in
    let args = c.args in
    let pre = c.requires in
    let once = rw (← check.ensures, c.in-Stopped.is) at (checked_once (config args.space.layout) args.space.top args.mem.now args.root.0 args.request.store args.request.address.0 args.request.depth) in
    let reads = rw c.in-Arrived.is at pre.3 in
    (pre.1, reads.0, pre.2, reads.1, omega (arith, once))

pub end-requires-in-Faulted : goal.end-requires-in-Faulted
end-requires-in-Faulted c =
    let exit-of = c.exit_of in
    let pre = c.requires in
    let reads = rw c.in-Faulted.is at pre.3 in
    (pre.1, reads.0, pre.2, reads.1, rw exit-of.ensures (exit_few (walked.Faulted c.in-Faulted.fault c.in-Faulted.reads)))

pub returns-in-Clear : goal.returns-in-Clear
returns-in-Clear c =
    let passes = c.passes in
    let check = c.check in
    rw (c.in-Arrived.is, ← check.ensures, c.in-Clear.is, passes.ensures)

pub returns-in-Stopped : goal.returns-in-Stopped
returns-in-Stopped c =
    let end = c.end in
    let check = c.check in
    rw (c.in-Arrived.is, ← check.ensures, c.in-Stopped.is, end.ensures)

pub returns-in-Damaged-check : goal.returns-in-Damaged-check
returns-in-Damaged-check c =
    let check = c.check in
    rw (c.in-Arrived.is, ← check.ensures, c.in-Damaged-check.is)

pub returns-in-Faulted : goal.returns-in-Faulted
returns-in-Faulted c =
    let end2 = c.end-in-Faulted in
    let exit-of = c.exit_of in
    rw (c.in-Faulted.is, end2.ensures, exit-of.ensures)

pub returns-in-Damaged : goal.returns-in-Damaged
returns-in-Damaged c =
    rw c.in-Damaged.is
