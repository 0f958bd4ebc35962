-- The paths are cut, and then the mark leaves the table and the order.
use mathlib.Core.Path.{ap, ◌∙◌}
use Prim.Native.Nat.{◌-◌}
use native.Mathlib.Omega.{arith}
use borrow.Author.Tests.{not-true, not-false}
use Rattle.choice.specs.Order.{prefix_at, without_of}
use Rattle.record.specs.Record.{record_by}
use Rattle.automatic.specs.Moves.{marked_of, withdrawn_of}
use Rattle.automatic.proofs.Parts.{marked_damaged, marked_cut}
use Rattle.automatic.proofs.withdraw.Goals as goal

pub cut-m-requires : goal.cut-m-requires
cut-m-requires c =
    let pre = c.requires in
    (pre.0, rw c.links-kept.ensures (omega arith))

pub returns-then-not-m : goal.returns-then-not-m
unfolding withdrawn_of
returns-then-not-m c =
    let cut = c.cut-m in
    let prefix-at = c.prefix_at in
    let links = c.links-kept in
    let args = c.args in
    let h = args.head in
    let went = rw (links.ensures, prefix-at.ensures) at cut.ensures in
    let place = args.place.now in
    marked_damaged h place args.ring.now args.order.now args.mem.now (h.layout.levels - 1) (prefix_at place args.at) _ _ _ went (not-true c.cut-m.result.ok c.if-not-m.true)

pub returns : goal.returns
unfolding withdrawn_of without_of
returns c =
    let without2 = c.without-count in
    let without = c.without-set in
    let key-at = c.key_at in
    let if1 = c.if-not-m in
    let cut = c.cut-m in
    let prefix-at = c.prefix_at in
    let links = c.links-kept in
    let args = c.args in
    let h = args.head in
    let place = args.place.now in
    let went = rw (links.ensures, prefix-at.ensures) at cut.ensures in
    let x = without_of (record { tally = h.tally; ring = args.ring.now; order = args.order.now }) args.at in
    let key = rw key-at.ensures at without.ensures in
    let k = h.layout.levels - 1 in
    let p = prefix_at place args.at in
    rw (c.with_marks.ensures, c.with_count.ensures, without2.ensures.0, without2.ensures.1)
    (marked_cut h place args.ring.now args.order.now args.mem.now k p (record { set = without.result; place = place }) x _ went (not-false c.cut-m.result.ok if1.false)
    ∙ ap (λ t. marked_of (record_by h place args.ring.now args.order.now) args.mem.now k p t x) key)
