-- Refusals 8 and 9 by their tests; a frame of the guest area is below 65,536, so its entry fits; the layout bounds the rest.
use native.Mathlib.Omega.{arith}
use Rattle.layout.specs.Layout.{config}
use Rattle.host.specs.Map.{map_of}
use Rattle.layout.proofs.Laws.{in_guest_area_lem}
use Rattle.host.proofs.map.Goals as goal

pub leaf_word-e-requires : goal.leaf_word-e-requires
leaf_word-e-requires c =
    let args = c.args in
    let pre = c.requires in
    let in-guest-area-told = c.in_guest_area in
    let if2 = c.if-in_guest_area in
    let b = in_guest_area_lem (config args.layout) args.frame.0 (rw (← in-guest-area-told.ensures, if2.true) tt) in
    omega (arith, b.1, pre)

pub insert-went-requires : goal.insert-went-requires
insert-went-requires c =
    let pre = c.requires in
    let tables = c.tables in
    rw tables.ensures (omega (arith, pre), omega (arith, pre), omega (arith, pre), omega (arith, pre))

pub returns-then-in_guest_area : goal.returns-then-in_guest_area
unfolding map_of
returns-then-in_guest_area c =
    let frame_fits_lem = c.frame_fits in
    let if1 = c.if-frame_fits in
    let in-guest-area-told = c.in_guest_area in
    let if2 = c.if-in_guest_area in
    let leaf-word = c.leaf_word-e in
    let tables = c.tables in
    let insert = c.insert-went in
    let settled = c.settled in
    let q = rw (tables.ensures, leaf-word.ensures) at insert.ensures in
    rw (← frame_fits_lem.ensures, if1.true, ← in-guest-area-told.ensures, if2.true, ← q, settled.ensures)

pub returns-else-in_guest_area : goal.returns-else-in_guest_area
unfolding map_of
returns-else-in_guest_area c = rw (← c.frame_fits.ensures, c.if-frame_fits.true, ← c.in_guest_area.ensures, c.if-in_guest_area.false)

pub returns-else-frame_fits : goal.returns-else-frame_fits
unfolding map_of
returns-else-frame_fits c = rw (← c.frame_fits.ensures, c.if-frame_fits.false)
