-- With bits off no entry is looked at; else by the end of the walk.
use mathlib.Core.Path.{sym}
use native.Mathlib.Omega.{arith}
use Rattle.spec.specs.Entry.{page_of}
use Rattle.layout.specs.Layout.{config}
use Rattle.accessed.proofs.Walks.{seen_frames, seen_sum}
use Rattle.translate.proofs.Bits.{chosen_off, chosen_on, lacking_none}
use Rattle.translate.proofs.lacking.Goals as goal

pub returns-then-layout-eq0 : goal.returns-then-layout-eq0
returns-then-layout-eq0 c =
    let if1 = c.if-layout-eq0 in
    let args = c.args in
    rw (chosen_off _ if1.true) (sym (lacking_none args.walked))

pub lacks-requires : goal.lacks-requires
lacks-requires c =
    let args = c.args in
    let pre = c.requires in
    let read_by_lem = c.read_by-read in
    let page = c.page in
    let sum = seen_sum (config args.layout) args.tables.now args.depth (page_of args.address.0) in
    rw (read_by_lem.ensures, page.ensures) (omega (arith, sum, pre.1), seen_frames (config args.layout) args.tables.now args.depth (page_of args.address.0) pre.0.3)

pub returns-in-Arrived : goal.returns-in-Arrived
returns-in-Arrived c =
    let lacks = c.lacks in
    let read_by_lem = c.read_by-read in
    let page = c.page in
    let if1 = c.if-layout-eq0 in
    let on = chosen_on _ if1.false in
    rw (c.in-Arrived.is, on) (rw (read_by_lem.ensures, page.ensures, on) at lacks.ensures)

pub returns-in-Faulted : goal.returns-in-Faulted
returns-in-Faulted c =
    rw c.in-Faulted.is

pub returns-in-Damaged : goal.returns-in-Damaged
returns-in-Damaged c =
    rw c.in-Damaged.is
