-- The paths are cut, and then the mark leaves the order; it stays in the table.
use mathlib.Core.Path.{◌≡◌}
use Prim.Native.Nat.{◌-◌}
use native.Mathlib.Omega.{arith}
use borrow.Author.Tests.{not-true, not-false}
use Rattle.choice.specs.Order.{without_of}
use Rattle.record.specs.Record.{head_tally, head_marks}
use Rattle.automatic.specs.Moves.{above, taken_over_of}
use Rattle.automatic.proofs.Parts.{cut_set, marked_damaged, marked_cut}
use Rattle.automatic.proofs.take_over.Goals as goal

pub cut-m-requires : goal.cut-m-requires
cut-m-requires c =
    let pre = c.requires in
    (pre.0.0, rw c.links.ensures (omega arith))

pub returns-then-not-m : goal.returns-then-not-m
unfolding taken_over_of
returns-then-not-m c =
    let cut = c.cut-m in
    let page = c.page in
    let links = c.links in
    let args = c.args in
    let h = args.head in
    marked_damaged h args.place.now args.ring.now args.order.now args.mem.now (h.layout.levels - args.level) (above args.address.0 args.level) _ _ _ (rw (links.ensures, page.ensures) at cut.ensures) (not-true c.cut-m.result.ok c.if-not-m.true)

pub returns : goal.returns
unfolding taken_over_of without_of head_tally head_marks
returns c =
    let without = c.without-count in
    let if1 = c.if-not-m in
    let cut = c.cut-m in
    let page = c.page in
    let links = c.links in
    let args = c.args in
    let h = args.head in
    let place = args.place.now in
    let ring = args.ring.now in
    let order = args.order.now in
    let k = h.layout.levels - args.level in
    let p = above args.address.0 args.level in
    let x = without_of (record { tally = h.tally; ring = ring; order = order }) args.at in
    let kept : cut.result.head.set ≡ h.set = cut_set h args.mem.now k p _ (rw (links.ensures, page.ensures) at cut.ensures) in
    rw (c.with_tally.ensures, c.with_count.ensures, without.ensures.0, without.ensures.1, kept)
    (marked_cut h place ring order args.mem.now k p (record { set = h.set; place = place }) x _ (rw (links.ensures, page.ensures) at cut.ensures) (not-false c.cut-m.result.ok if1.false))
