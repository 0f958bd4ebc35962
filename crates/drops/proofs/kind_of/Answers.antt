-- Five ends: absent, a leaf in the guest area or not, a table in the shadow area or not.
use Rattle.drops.specs.Cut.{kind_of}
use Rattle.drops.proofs.kind_of.Goals as goal

pub returns-then-in_guest_area : goal.returns-then-in_guest_area
unfolding kind_of
returns-then-in_guest_area c =
    let present = c.present in
    let if1 = c.if-present in
    let frame-of = c.frame_of-f in
    let is_leaf_lem = c.is_leaf in
    let if2 = c.if-is_leaf in
    let in_guest_area_lem = c.in_guest_area in
    let if3 = c.if-in_guest_area in
    rw (← present.ensures, if1.true, ← frame-of.ensures, ← is_leaf_lem.ensures, if2.true, ← in_guest_area_lem.ensures, if3.true)

pub returns-else-in_guest_area : goal.returns-else-in_guest_area
unfolding kind_of
returns-else-in_guest_area c =
    let present = c.present in
    let if1 = c.if-present in
    let frame-of = c.frame_of-f in
    let is_leaf_lem = c.is_leaf in
    let if2 = c.if-is_leaf in
    let in_guest_area_lem = c.in_guest_area in
    let if3 = c.if-in_guest_area in
    rw (← present.ensures, if1.true, ← frame-of.ensures, ← is_leaf_lem.ensures, if2.true, ← in_guest_area_lem.ensures, if3.false)

pub returns-then-inside : goal.returns-then-inside
unfolding kind_of
returns-then-inside c =
    let present = c.present in
    let if1 = c.if-present in
    let frame-of = c.frame_of-f in
    let is_leaf_lem = c.is_leaf in
    let if2 = c.if-is_leaf in
    let inside = c.inside in
    let if4 = c.if-inside in
    rw (← present.ensures, if1.true, ← frame-of.ensures, ← is_leaf_lem.ensures, if2.false, ← inside.ensures, if4.true)

pub returns-else-inside : goal.returns-else-inside
unfolding kind_of
returns-else-inside c =
    let present = c.present in
    let if1 = c.if-present in
    let frame-of = c.frame_of-f in
    let is_leaf_lem = c.is_leaf in
    let if2 = c.if-is_leaf in
    let inside = c.inside in
    let if4 = c.if-inside in
    rw (← present.ensures, if1.true, ← frame-of.ensures, ← is_leaf_lem.ensures, if2.false, ← inside.ensures, if4.false)

pub returns-else-present : goal.returns-else-present
unfolding kind_of
returns-else-present c = rw (← c.present.ensures, c.if-present.false)
