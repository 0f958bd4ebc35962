-- An automatic mark becomes the operator's; for any other room is made first.
use mathlib.Core.Path.{◌≡◌, sym, ap, ◌∙◌, subst}
use mathlib.Core.Bool.{false}
use borrow.Author.Tests.{not-true, not-false}
use Rattle.words.specs.After.{After, yields}
use Rattle.record.specs.Record.{record_by}
use Rattle.automatic.specs.Moves.{Move, Ready, then_by, room_made_of, added_of, taken_over_of, set_of, moved_in, kept_by}
use Rattle.automatic.proofs.Ready.{room_ready}
use Rattle.automatic.proofs.Parts.{marked_kept, room_kept, kept_damaged, then_damaged, second_damaged, second_goes}
use Rattle.automatic.proofs.set.Goals as goal

pub returns-then-automatic_at : goal.returns-then-automatic_at
unfolding set_of taken_over_of
returns-then-automatic_at c =
    let if1 = c.if-automatic_at in
    let automatic-at = c.automatic_at in
    let place_of_call = c.place_of-at in
    let key_of = c.key_of-key in
    let args = c.args in
    let r = record_by args.head args.place.now args.ring.now args.order.now in
    let a = args.address.0 in
    let n = args.level in
    rw (← key_of.ensures, ← place_of_call.ensures, ← automatic-at.ensures, if1.true) (c.take_over.ensures ∙ marked_kept r _ _ _ _ _)

pub add-m-requires : goal.add-m-requires
add-m-requires c =
    let make-room = c.make_room-made in
    let args = c.args in
    let pre = c.requires in
    (subst (λ (o : After Move). Ready o.result.unit) (sym make-room.ensures) (room_ready (record_by args.head args.place.now args.ring.now args.order.now) args.mem.now pre.0), pre.1)

pub returns-then-not-made : goal.returns-then-not-made
unfolding set_of
returns-then-not-made c =
    let make-room = c.make_room-made in
    let if1 = c.if-automatic_at in
    let automatic-at = c.automatic_at in
    let place_of_call = c.place_of-at in
    let key_of = c.key_of-key in
    let args = c.args in
    let r = record_by args.head args.place.now args.ring.now args.order.now in
    let a = args.address.0 in
    let n = args.level in
    let made = room_made_of r args.mem.now in
    let bad : made.result.ok ≡ false = sym (ap (λ (o : After Move). o.result.ok) make-room.ensures) ∙ (not-true c.make_room-made.result.ok c.if-not-made.true) in
    rw (← key_of.ensures, ← place_of_call.ensures, ← automatic-at.ensures, if1.false) (make-room.ensures ∙ kept_damaged r made (room_kept r args.mem.now) bad ∙ then_damaged r made (added_of a n) bad)

pub returns-then-not-m : goal.returns-then-not-m
unfolding set_of
returns-then-not-m c =
    let add = c.add-m in
    let if2 = c.if-not-made in
    let make-room = c.make_room-made in
    let if1 = c.if-automatic_at in
    let automatic-at = c.automatic_at in
    let place_of_call = c.place_of-at in
    let key_of = c.key_of-key in
    let args = c.args in
    let r = record_by args.head args.place.now args.ring.now args.order.now in
    let a = args.address.0 in
    let n = args.level in
    let o : After Move = yields (moved_in args.place.now args.ring.now make-room.new.order make-room.result) make-room.new.mem in
    let y : After Move = yields (moved_in add.new.place args.ring.now add.new.order add.result) add.new.mem in
    let good = (not-false c.make_room-made.result.ok if2.false) in
    let bad = (not-true c.add-m.result.ok c.if-not-m.true) in
    let same = kept_damaged o.result.unit _ (marked_kept o.result.unit o.memory _ _ _ _) (sym (ap (λ (z : After Move). z.result.ok) add.ensures) ∙ bad) in
    let places : add.new.place ≡ args.place.now = ap (λ (z : After Move). z.result.unit.guest.marks.place) (add.ensures ∙ same) in
    rw (← key_of.ensures, ← place_of_call.ensures, ← automatic-at.ensures, if1.false, places)
    (second_damaged r o (added_of a n) good y add.ensures bad ∙ ap (λ z. kept_by r (then_by z (added_of a n))) make-room.ensures)

pub returns : goal.returns
unfolding set_of
returns c =
    let add = c.add-m in
    let if2 = c.if-not-made in
    let make-room = c.make_room-made in
    let if1 = c.if-automatic_at in
    let automatic-at = c.automatic_at in
    let place_of_call = c.place_of-at in
    let key_of = c.key_of-key in
    let args = c.args in
    let r = record_by args.head args.place.now args.ring.now args.order.now in
    let a = args.address.0 in
    let n = args.level in
    let o : After Move = yields (moved_in args.place.now args.ring.now make-room.new.order make-room.result) make-room.new.mem in
    let y : After Move = yields (moved_in add.new.place args.ring.now add.new.order add.result) add.new.mem in
    let good = (not-false c.make_room-made.result.ok if2.false) in
    rw (← key_of.ensures, ← place_of_call.ensures, ← automatic-at.ensures, if1.false)
    (second_goes r o (added_of a n) good y add.ensures (not-false c.add-m.result.ok c.if-not-m.false) ∙ ap (λ z. kept_by r (then_by z (added_of a n))) make-room.ensures)
