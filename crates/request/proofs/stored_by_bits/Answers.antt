-- By the end of the walk, then by what the drops left.
use native.Mathlib.Omega.{arith}
use Rattle.layout.specs.Layout.{config}
use Rattle.spec.specs.Entry.{word_of}
use Rattle.request.proofs.Leaves.{drop_leaves}
use Rattle.request.proofs.stored_by_bits.Goals as goal

pub drop_readers-put-requires : goal.drop_readers-put-requires
drop_readers-put-requires c =
    let pre = c.requires in
    (pre.0, pre.1, rw c.in-Arrived.is at pre.2)

pub finish-requires : goal.finish-requires
finish-requires c =
    let mem = c.mem-1 in
    let drop-readers = c.drop_readers-put in
    let held = c.held-1 in
    let args = c.args in
    let pre = c.requires in
    let left = rw (← drop-readers.ensures) at (drop_leaves (config args.space.layout) args.mem.now args.t.held.pool c.in-Arrived.page.0 (word_of args.address.0) pre.1) in
    (rw c.in-Arrived.is at pre.2, pre.3, pre.4, omega (arith, left.exits))

pub returns-in-Faulted : goal.returns-in-Faulted
returns-in-Faulted c =
    rw c.in-Faulted.is

pub returns-in-Damaged : goal.returns-in-Damaged
returns-in-Damaged c =
    let refused2 = c.refused-in-Damaged in
    rw (c.in-Damaged.is, refused2.ensures)
