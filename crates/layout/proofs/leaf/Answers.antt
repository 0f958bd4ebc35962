-- Absent, damaged or found: by the present bit, then by whether the frame lies in the guest area.
use Rattle.layout.specs.Layout.{leaf_of}
use Rattle.layout.proofs.leaf.Goals as goal

pub returns-then-in_guest_area : goal.returns-then-in_guest_area
unfolding leaf_of
returns-then-in_guest_area c = let present = c.present in
    let if1 = c.if-present in
    let frame-of = c.frame_of-f in
    let in_guest_area_lem = c.in_guest_area in
    let if2 = c.if-in_guest_area in
    let writable = c.writable in
    rw (← present.ensures, if1.true, ← frame-of.ensures, ← in_guest_area_lem.ensures, if2.true, ← writable.ensures)

pub returns-else-in_guest_area : goal.returns-else-in_guest_area
unfolding leaf_of
returns-else-in_guest_area c = let present = c.present in
    let if1 = c.if-present in
    let frame-of = c.frame_of-f in
    let in_guest_area_lem = c.in_guest_area in
    let if2 = c.if-in_guest_area in
    rw (← present.ensures, if1.true, ← frame-of.ensures, ← in_guest_area_lem.ensures, if2.false)

pub returns-else-present : goal.returns-else-present
unfolding leaf_of
returns-else-present c = rw (← c.present.ensures, c.if-present.false)
