-- The number says which test failed; where none did, the record has its layout and what it holds in range.
use mathlib.Core.Path.{sym, ap, ◌∙◌}
use mathlib.Core.Bool.{true}
use lib.ListN.{length}
use Rattle.spec.specs.Bytes.{width_fits}
use Rattle.spec.specs.Refusal.{device_fits}
use Rattle.record.specs.Record.{record_by, config_of, head_tables, fits_of}
use Rattle.calls.specs.Calls.{address_ok, head_held, served_by, device_call}
use Rattle.calls.proofs.Laws.{turned_away, taken, all_taken}
use Rattle.calls.proofs.Ranges.{fits_levels, fits_sound, fits_inside}
use Rattle.calls.proofs.device_store_at.Goals as goal

pub request_refusal-refusal-requires : goal.request_refusal-refusal-requires
request_refusal-refusal-requires c =
    let args = c.args in
    λ e. fits_levels (record_by args.head args.place.now args.ring.now args.order.now) _ (sym c.requires ∙ e)

pub returns-then-refusal-ne0 : goal.returns-then-refusal-ne0
unfolding device_call head_held head_tables
returns-then-refusal-ne0 c =
    let held_in_lem = c.held_in-held in
    let args = c.args in
    let pre = c.requires in
    let r = record_by args.head args.place.now args.ring.now args.order.now in
    let told = rw pre at c.request_refusal-refusal.ensures in
    rw (c.refused.ensures, held_in_lem.ensures) (turned_away r args.mem.now args.width (address_ok true (config_of r) args.address args.width) _ _ told c.if-refusal-ne0.true)

pub device_store-requires : goal.device_store-requires
device_store-requires c =
    let request-refusal = c.request_refusal-refusal in
    let held_in_lem = c.held_in-held in
    let args = c.args in
    let pre = c.requires in
    let r = record_by args.head args.place.now args.ring.now args.order.now in
    let told = rw pre at request-refusal.ensures in
    let t = all_taken (fits_of r (length args.mem.now)) (width_fits args.width) (address_ok true (config_of r) args.address args.width) (sym c.if-refusal-ne0.false ∙ told) in
    let s = fits_sound r _ t.0 in
    rw (c.space_in.ensures, held_in_lem.ensures) (s.0, s.1, fits_inside (device_fits (config_of r) args.address) args.address args.width t.1 t.2)

pub returns : goal.returns
unfolding device_call head_held head_tables
returns c =
    let space-in = c.space_in in
    let if1 = c.if-refusal-ne0 in
    let request-refusal = c.request_refusal-refusal in
    let held_in_lem = c.held_in-held in
    let args = c.args in
    let pre = c.requires in
    let r = record_by args.head args.place.now args.ring.now args.order.now in
    let told = rw pre at request-refusal.ensures in
    ap (served_by r) (rw (held_in_lem.ensures, space-in.ensures) at c.device_store.ensures)
    ∙ taken r args.mem.now args.width (address_ok true (config_of r) args.address args.width) _ (sym if1.false ∙ told)
