-- By the end of the host walk.
use native.Mathlib.Omega.{arith}
use Rattle.layout.specs.Layout.{config}
use Rattle.spec.specs.Entry.{page_of}
use Rattle.request.specs.Access.{device_of}
use Rattle.request.proofs.Device.{device_in}
use Rattle.request.proofs.device_store.Goals as goal

pub written-requires : goal.written-requires
unfolding page_of
written-requires c =
    let to-page = c.to_page-walked in
    let args = c.args in
    let pre = c.requires in
    let at = rw (← to-page.ensures, c.in-Arrived.is) at (device_in (config args.space.layout) args.space.top args.mem.now (page_of args.address)) in
    (pre.0, pre.1, omega (arith, at.1, pre.0), pre.2, omega arith)

pub returns-in-Arrived : goal.returns-in-Arrived
unfolding device_of page_of
returns-in-Arrived c =
    let written = c.written in
    let to-page = c.to_page-walked in
    rw (← to-page.ensures, c.in-Arrived.is) written.ensures

pub returns-in-Faulted : goal.returns-in-Faulted
unfolding device_of page_of
returns-in-Faulted c =
    let exit-of = c.exit_of in
    let to-page = c.to_page-walked in
    rw (← to-page.ensures, c.in-Faulted.is, exit-of.ensures)

pub returns-in-Damaged : goal.returns-in-Damaged
unfolding device_of page_of
returns-in-Damaged c =
    let refused = c.refused in
    let to-page = c.to_page-walked in
    rw (← to-page.ensures, c.in-Damaged.is, refused.ensures)
