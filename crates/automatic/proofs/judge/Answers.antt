-- By the charges; then room is made, and the mark set.
use mathlib.Core.Path.{◌≡◌, sym, ap, ◌∙◌, subst}
use mathlib.Core.Bool.{false}
use native.Mathlib.Omega.{arith}
use borrow.Author.Tests.{le-leb, not-true, not-false}
use Rattle.words.specs.After.{After, yields}
use Rattle.record.specs.Record.{record_by}
use Rattle.automatic.specs.Moves.{Move, Ready, then_by, room_made_of, appointed_in, moved_in, kept_by}
use Rattle.automatic.proofs.Ready.{room_ready}
use Rattle.automatic.proofs.Parts.{room_kept, appointed_kept, kept_damaged, then_damaged, second_damaged, second_goes}
use Rattle.automatic.proofs.judge.Goals as goal

pub appoint_in-m-requires : goal.appoint_in-m-requires
appoint_in-m-requires c =
    let make-room = c.make_room-made in
    let args = c.args in
    let pre = c.requires in
    (subst (λ (o : After Move). Ready o.result.unit) (sym make-room.ensures) (room_ready (record_by args.head args.place.now args.ring.now args.order.now) args.mem.now pre.0), pre.1)

pub returns-then-not-made : goal.returns-then-not-made
returns-then-not-made c =
    let make-room = c.make_room-made in
    let charges = c.charges in
    let args = c.args in
    let r = record_by args.head args.place.now args.ring.now args.order.now in
    let made = room_made_of r args.mem.now in
    let bad : made.result.ok ≡ false = sym (ap (λ (o : After Move). o.result.ok) make-room.ensures) ∙ (not-true c.make_room-made.result.ok c.if-not-made.true) in
    rw (← charges.ensures, le-leb 3 charges.result (omega arith))
    (make-room.ensures ∙ kept_damaged r made (room_kept r args.mem.now) bad ∙ then_damaged r made (appointed_in args.prefix) bad)

pub returns-then-not-m : goal.returns-then-not-m
returns-then-not-m c =
    let appoint-in = c.appoint_in-m in
    let if2 = c.if-not-made in
    let make-room = c.make_room-made in
    let charges = c.charges in
    let args = c.args in
    let r = record_by args.head args.place.now args.ring.now args.order.now in
    let p = args.prefix in
    let o : After Move = yields (moved_in args.place.now args.ring.now make-room.new.order make-room.result) make-room.new.mem in
    let y : After Move = yields (moved_in appoint-in.new.place args.ring.now appoint-in.new.order appoint-in.result) appoint-in.new.mem in
    let good = (not-false c.make_room-made.result.ok if2.false) in
    let bad = (not-true c.appoint_in-m.result.ok c.if-not-m.true) in
    let same = kept_damaged o.result.unit _ (appointed_kept p o.result.unit o.memory) (sym (ap (λ (z : After Move). z.result.ok) appoint-in.ensures) ∙ bad) in
    let places : appoint-in.new.place ≡ args.place.now = ap (λ (z : After Move). z.result.unit.guest.marks.place) (appoint-in.ensures ∙ same) in
    rw (← charges.ensures, le-leb 3 charges.result (omega arith), places)
    (second_damaged r o (appointed_in p) good y appoint-in.ensures bad ∙ ap (λ z. kept_by r (then_by z (appointed_in p))) make-room.ensures)

pub returns : goal.returns
returns c =
    let appoint-in = c.appoint_in-m in
    let if2 = c.if-not-made in
    let make-room = c.make_room-made in
    let charges = c.charges in
    let args = c.args in
    let r = record_by args.head args.place.now args.ring.now args.order.now in
    let p = args.prefix in
    let o : After Move = yields (moved_in args.place.now args.ring.now make-room.new.order make-room.result) make-room.new.mem in
    let y : After Move = yields (moved_in appoint-in.new.place args.ring.now appoint-in.new.order appoint-in.result) appoint-in.new.mem in
    rw (← charges.ensures, le-leb 3 charges.result (omega arith))
    (second_goes r o (appointed_in p) (not-false c.make_room-made.result.ok if2.false) y appoint-in.ensures (not-false c.appoint_in-m.result.ok c.if-not-m.false) ∙ ap (λ z. kept_by r (then_by z (appointed_in p))) make-room.ensures)
