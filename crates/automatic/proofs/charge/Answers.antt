-- The charge enters the window, and the rest is judged; where that meets damage, the word of the ring is put back.
use mathlib.Core.Path.{◌≡◌, ap, ◌∙◌}
use Prim.Native.Nat.{◌%◌}
use lib.ListN.{set}
use lib.Seq.{set-set, set-get_or}
use borrow.Author.Tests.{not-true, not-false}
use Rattle.words.specs.After.{After, yields}
use Rattle.choice.specs.Window as window
use Rattle.choice.specs.Window.{tally_charged}
use Rattle.record.specs.Record.{record_by, head_tally, with_marks}
use Rattle.automatic.specs.Moves.{Move, entered_of, judged_of, charged_of, moved_in, kept_by}
use Rattle.automatic.proofs.Parts.{kept_goes, kept_back, kept_instead}
use Rattle.automatic.proofs.charge.Goals as goal

pub judge-m-requires : goal.judge-m-requires
unfolding tally_charged head_tally
judge-m-requires c =
    let with-tally = c.with_tally in
    let charged = c.charged in
    let pre = c.requires in
    rw (with-tally.ensures, charged.ensures) (pre.0, pre.1)

pub returns-then-not-m : goal.returns-then-not-m
unfolding charged_of window.charged_of head_tally with_marks
returns-then-not-m c =
    let judge = c.judge-m in
    let with-tally = c.with_tally in
    let charged = c.charged in
    let put_word = c.put_word in
    let next_word = c.next_word-before in
    let args = c.args in
    let h = args.head in
    let place = args.place.now in
    let ring = args.ring.now in
    let order = args.order.now in
    let r = record_by h place ring order in
    let q = entered_of r args.prefix in
    let x = judged_of q args.mem.now args.prefix in
    let y : After Move = yields (moved_in judge.new.place (set args.ring.now (args.head.tally.at % 64) args.prefix) judge.new.order judge.result) judge.new.mem in
    let told : y ≡ kept_by q x = rw (with-tally.ensures, charged.ensures, put_word.ensures) at judge.ensures in
    let bad = (not-true c.judge-m.result.ok c.if-not-m.true) in
    let back = kept_back r q x y told bad in
    let places : judge.new.place ≡ place = ap (λ (z : After Move). z.result.unit.guest.marks.place) back in
    let orders : judge.new.order ≡ order = ap (λ (z : After Move). z.result.unit.guest.choice.order) back in
    let rings : c.put_word-then-not-m.new.ring ≡ ring = c.put_word-then-not-m.ensures ∙ rw (put_word.ensures, next_word.ensures) (set-set ring (h.tally.at % 64) _ _ ∙ set-get_or ring (h.tally.at % 64) 0) in
    rw (places, orders, rings) (kept_instead r q x y told bad)

pub returns : goal.returns
unfolding charged_of window.charged_of head_tally with_marks
returns c =
    let judge = c.judge-m in
    let with-tally = c.with_tally in
    let charged = c.charged in
    let put_word = c.put_word in
    let args = c.args in
    let r = record_by args.head args.place.now args.ring.now args.order.now in
    let q = entered_of r args.prefix in
    let x = judged_of q args.mem.now args.prefix in
    let y : After Move = yields (moved_in judge.new.place (set args.ring.now (args.head.tally.at % 64) args.prefix) judge.new.order judge.result) judge.new.mem in
    rw put_word.ensures
    (kept_goes r q x y (rw (with-tally.ensures, charged.ensures, put_word.ensures) at judge.ensures) (not-false c.judge-m.result.ok c.if-not-m.false))
