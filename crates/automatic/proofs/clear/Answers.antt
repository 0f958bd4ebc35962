-- The paths are cut, and then the mark leaves the table.
use mathlib.Core.Path.{ap, ◌∙◌}
use Prim.Native.Nat.{◌-◌}
use native.Mathlib.Omega.{arith}
use borrow.Author.Tests.{not-true, not-false}
use Rattle.choice.specs.declared.Choice.{Choice}
use Rattle.record.specs.Record.{record_by}
use Rattle.automatic.specs.Moves.{above, marked_of, cleared_of}
use Rattle.automatic.proofs.Parts.{marked_damaged, marked_cut}
use Rattle.automatic.proofs.clear.Goals as goal

pub cut-m-requires : goal.cut-m-requires
cut-m-requires c =
    let pre = c.requires in
    (pre.0.0, rw c.links.ensures (omega arith))

pub returns-then-not-m : goal.returns-then-not-m
unfolding cleared_of
returns-then-not-m c =
    let cut = c.cut-m in
    let page = c.page in
    let links = c.links in
    let args = c.args in
    let h = args.head in
    marked_damaged h args.place.now args.ring.now args.order.now args.mem.now (h.layout.levels - args.level) (above args.address.0 args.level) _ _ _ (rw (links.ensures, page.ensures) at cut.ensures) (not-true c.cut-m.result.ok c.if-not-m.true)

pub returns : goal.returns
unfolding cleared_of
returns c =
    let without = c.without-set in
    let if1 = c.if-not-m in
    let cut = c.cut-m in
    let page = c.page in
    let links = c.links in
    let args = c.args in
    let h = args.head in
    let place = args.place.now in
    let ring = args.ring.now in
    let order = args.order.now in
    let k = h.layout.levels - args.level in
    let p = above args.address.0 args.level in
    let x : Choice = record { tally = h.tally; ring = ring; order = order } in
    rw c.with_marks.ensures
    (marked_cut h place ring order args.mem.now k p (record { set = without.result; place = place }) x _ (rw (links.ensures, page.ensures) at cut.ensures) (not-false c.cut-m.result.ok if1.false)
    ∙ ap (λ t. marked_of (record_by h place ring order) args.mem.now k p t x) (rw c.key_of.ensures at without.ensures))
