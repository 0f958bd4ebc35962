-- The paths are cut, and then the key goes into the table and its place behind the order.
use mathlib.Core.Path.{ap, ◌∙◌}
use Prim.Native.Nat.{◌+◌, ◌-◌, ◌*◌}
use native.Mathlib.Omega.{arith}
use borrow.Author.Tests.{not-true, not-false}
use Rattle.marks.specs.declared.Marks.{Marks}
use Rattle.marks.specs.Table.{place_of}
use Rattle.choice.specs.declared.Choice.{Choice}
use Rattle.choice.specs.Order.{with_order, with_of, count_with, order_with, moved_of}
use Rattle.record.specs.Record.{record_by}
use Rattle.automatic.specs.Moves.{marked_of, appointed_of}
use Rattle.automatic.proofs.Parts.{marked_damaged, marked_cut, with_parts}
use Rattle.automatic.proofs.appoint.Goals as goal

pub cut-m-requires : goal.cut-m-requires
cut-m-requires c =
    let pre = c.requires in
    (pre.0.0, rw c.links-kept.ensures (omega arith))

pub returns-then-not-m : goal.returns-then-not-m
unfolding appointed_of
returns-then-not-m c =
    let cut = c.cut-m in
    let links = c.links-kept in
    let args = c.args in
    let h = args.head in
    marked_damaged h args.place.now args.ring.now args.order.now args.mem.now (h.layout.levels - 1) args.prefix _ _ _ (rw links.ensures at cut.ensures) (not-true c.cut-m.result.ok c.if-not-m.true)

pub returns : goal.returns
unfolding appointed_of moved_of
returns c =
    let with = c.with-count in
    let place_of_call = c.place_of-at in
    let insert = c.insert-set in
    let if1 = c.if-not-m in
    let cut = c.cut-m in
    let links = c.links-kept in
    let args = c.args in
    let h = args.head in
    let place = args.place.now in
    let ring = args.ring.now in
    let order = args.order.now in
    let k = h.layout.levels - 1 in
    let key = args.prefix * 8 + 1 in
    let went = rw links.ensures at cut.ensures in
    let r = record_by h place ring order in
    let y : Marks → Choice = λ t. moved_of (record { tally = h.tally; ring = ring; order = order }) place t.place t.set in
    let u : Marks = record { set = insert.result; place = insert.new.place } in
    let at = place_of u.place u.set key in
    rw (c.with_marks.ensures, c.with_count.ensures, with.ensures.0, with.ensures.1, insert.ensures.1, place_of_call.ensures)
    (marked_cut h place ring order args.mem.now k args.prefix u (with_order (y u) (count_with h.tally.count) (order_with h.tally.count (y u).order at)) _ went (not-false c.cut-m.result.ok if1.false)
    ∙ ap (λ x. marked_of r args.mem.now k args.prefix u x) (with_parts (y u) at)
    ∙ ap (λ (t : Marks). marked_of r args.mem.now k args.prefix t (with_of (y t) (place_of t.place t.set key))) insert.ensures.0)
