-- The number says which test failed; where none did, the record has its layout and what it holds in range, and its marks give the depth.
use mathlib.Core.Path.{sym, ap, ◌∙◌}
use mathlib.Core.Bool.{false}
use lib.ListN.{length}
use Rattle.spec.specs.Bytes.{width_fits}
use Rattle.spec.specs.Refusal.{address_fits}
use Rattle.record.specs.Record.{record_by, config_of, head_tables, head_tally, fits_of}
use Rattle.calls.specs.Calls.{address_ok, head_held, windowed_by, load_call}
use Rattle.calls.proofs.Laws.{turned_away, taken, all_taken}
use Rattle.calls.proofs.Ranges.{fits_levels, fits_sound, fits_held, fits_turns, fits_inside}
use Rattle.calls.proofs.load_at.Goals as goal

pub request_refusal-refusal-requires : goal.request_refusal-refusal-requires
request_refusal-refusal-requires c =
    let args = c.args in
    λ e. fits_levels (record_by args.head args.place.now args.ring.now args.order.now) _ (sym c.requires ∙ e)

pub returns-then-refusal-ne0 : goal.returns-then-refusal-ne0
unfolding load_call head_held head_tables head_tally
returns-then-refusal-ne0 c =
    let held_in_lem = c.held_in-held in
    let args = c.args in
    let pre = c.requires in
    let r = record_by args.head args.place.now args.ring.now args.order.now in
    let told = rw pre at c.request_refusal-refusal.ensures in
    rw (c.refused.ensures, held_in_lem.ensures) (turned_away r args.mem.now args.width (address_ok false (config_of r) args.address args.width) _ _ told c.if-refusal-ne0.true)

pub load-requires : goal.load-requires
load-requires c =
    let if1 = c.if-refusal-ne0 in
    let request-refusal = c.request_refusal-refusal in
    let held_in_lem = c.held_in-held in
    let args = c.args in
    let pre = c.requires in
    let r = record_by args.head args.place.now args.ring.now args.order.now in
    let told = rw pre at request-refusal.ensures in
    let t = all_taken (fits_of r (length args.mem.now)) (width_fits args.width) (address_ok false (config_of r) args.address args.width) (sym if1.false ∙ told) in
    rw (c.space_in.ensures, held_in_lem.ensures) ((fits_sound r _ t.0).0, fits_held r _ t.0, fits_inside (address_fits (config_of r) args.address) args.address args.width t.1 t.2, fits_turns r _ t.0)

pub returns : goal.returns
unfolding load_call head_held head_tables head_tally
returns c =
    let space-in = c.space_in in
    let depth = c.depth-d in
    let if1 = c.if-refusal-ne0 in
    let request-refusal = c.request_refusal-refusal in
    let held_in_lem = c.held_in-held in
    let args = c.args in
    let pre = c.requires in
    let r = record_by args.head args.place.now args.ring.now args.order.now in
    let told = rw pre at request-refusal.ensures in
    ap (windowed_by r) (rw (depth.ensures, held_in_lem.ensures, space-in.ensures) at c.load.ensures)
    ∙ taken r args.mem.now args.width (address_ok false (config_of r) args.address args.width) _ (sym if1.false ∙ told)
