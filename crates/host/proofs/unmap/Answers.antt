-- Refusal 8 by its test; else the way of the removal is settled with 12. The layout bounds the host area.
use native.Mathlib.Omega.{arith}
use Rattle.host.specs.Map.{unmap_of}
use Rattle.host.proofs.unmap.Goals as goal

pub remove-went-requires : goal.remove-went-requires
remove-went-requires c =
    let pre = c.requires in
    let tables = c.tables in
    rw tables.ensures (omega (arith, pre), omega (arith, pre), omega (arith, pre))

pub returns-then-frame_fits : goal.returns-then-frame_fits
unfolding unmap_of
returns-then-frame_fits c =
    let frame_fits_lem = c.frame_fits in
    let if1 = c.if-frame_fits in
    let tables = c.tables in
    let remove = c.remove-went in
    let settled = c.settled in
    let q = rw tables.ensures at remove.ensures in
    rw (← frame_fits_lem.ensures, if1.true, ← q, settled.ensures)

pub returns-else-frame_fits : goal.returns-else-frame_fits
unfolding unmap_of
returns-else-frame_fits c = rw (← c.frame_fits.ensures, c.if-frame_fits.false)
