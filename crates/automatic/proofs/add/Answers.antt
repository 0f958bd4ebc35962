-- The paths are cut, and then the key goes into the table.
use mathlib.Core.Path.{ap, ◌∙◌}
use Prim.Native.Nat.{◌-◌}
use native.Mathlib.Omega.{arith}
use borrow.Author.Tests.{not-true, not-false}
use Rattle.marks.specs.declared.Marks.{Marks}
use Rattle.choice.specs.declared.Choice.{Choice}
use Rattle.choice.specs.Order.{moved_of}
use Rattle.record.specs.Record.{record_by}
use Rattle.automatic.specs.Moves.{above, marked_of}
use Rattle.automatic.proofs.Parts.{marked_damaged, marked_cut}
use Rattle.automatic.proofs.add.Goals as goal

pub cut-m-requires : goal.cut-m-requires
cut-m-requires c =
    let pre = c.requires in
    (pre.0.0, rw c.links.ensures (omega arith))

pub returns-then-not-m : goal.returns-then-not-m
returns-then-not-m c =
    let cut = c.cut-m in
    let page = c.page in
    let links = c.links in
    let args = c.args in
    let h = args.head in
    marked_damaged h args.place.now args.ring.now args.order.now args.mem.now (h.layout.levels - args.level) (above args.address.0 args.level) _ _ _ (rw (links.ensures, page.ensures) at cut.ensures) (not-true c.cut-m.result.ok c.if-not-m.true)

pub returns : goal.returns
unfolding moved_of
returns c =
    let insert = c.insert-set in
    let if1 = c.if-not-m in
    let cut = c.cut-m in
    let page = c.page in
    let links = c.links in
    let args = c.args in
    let h = args.head in
    let place = args.place.now in
    let ring = args.ring.now in
    let order = args.order.now in
    let k = h.layout.levels - args.level in
    let p = above args.address.0 args.level in
    let y : Marks → Choice = λ t. moved_of (record { tally = h.tally; ring = ring; order = order }) place t.place t.set in
    let u : Marks = record { set = insert.result; place = insert.new.place } in
    rw (c.with_marks.ensures, insert.ensures.1)
    (marked_cut h place ring order args.mem.now k p u (y u) _ (rw (links.ensures, page.ensures) at cut.ensures) (not-false c.cut-m.result.ok if1.false)
    ∙ ap (λ (t : Marks). marked_of (record_by h place ring order) args.mem.now k p t (y t)) (rw c.key_of.ensures at insert.ensures.0))
