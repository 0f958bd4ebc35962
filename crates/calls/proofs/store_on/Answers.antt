-- The number says which test failed. Where none did, the common case is charged to nobody; any other store goes by its translation, with the memory as it was.
use mathlib.Core.Path.{sym, ap, ◌∙◌}
use mathlib.Core.Bool.{false}
use lib.ListN.{length}
use Rattle.spec.specs.Bytes.{width_fits}
use Rattle.spec.specs.Refusal.{address_fits}
use Rattle.words.specs.After.{yields}
use Rattle.record.specs.Record.{record_by, config_of, fits_of}
use Rattle.request.proofs.Held.{plainly_keeps}
use Rattle.calls.specs.Calls.{address_ok, held_of, depth_at, store_call}
use Rattle.calls.proofs.Laws.{turned_away, taken, all_taken}
use Rattle.calls.proofs.Ranges.{fits_levels, fits_sound, fits_held, fits_turns, fits_inside, fits_ready}
use Rattle.calls.proofs.Stores.{plain_stored}
use Rattle.calls.proofs.store_on.Goals as goal

pub request_refusal-refusal-requires : goal.request_refusal-refusal-requires
request_refusal-refusal-requires c =
    let args = c.args in
    let r = record_by args.head args.place.now args.ring.now args.order.now in
    λ e. fits_levels r _ (sym c.requires.0 ∙ e)

pub returns-then-refusal-ne0 : goal.returns-then-refusal-ne0
unfolding store_call
returns-then-refusal-ne0 c =
    let pre = c.requires in
    let args = c.args in
    let r = record_by args.head args.place.now args.ring.now args.order.now in
    let told = rw pre.0 at c.request_refusal-refusal.ensures in
    rw c.refused_in.ensures (turned_away r args.mem.now args.width (address_ok false (config_of r) args.address args.width) _ _ told c.if-refusal-ne0.true)

pub store_plainly-requires : goal.store_plainly-requires
store_plainly-requires c =
    let held_in_lem = c.held_in-held in
    let if1 = c.if-refusal-ne0 in
    let request-refusal = c.request_refusal-refusal in
    let pre = c.requires in
    let args = c.args in
    let r = record_by args.head args.place.now args.ring.now args.order.now in
    let told = rw pre.0 at request-refusal.ensures in
    let t = all_taken (fits_of r (length args.mem.now)) (width_fits args.width) (address_ok false (config_of r) args.address args.width) (sym if1.false ∙ told) in
    rw held_in_lem.ensures ((fits_sound r _ t.0).0, fits_held r _ t.0, fits_inside (address_fits (config_of r) args.address) args.address args.width t.1 t.2)

pub returns-then-store_plainly : goal.returns-then-store_plainly
unfolding store_call
returns-then-store_plainly c =
    let store_plainly = c.store_plainly in
    let depth = c.depth-d in
    let held_in_lem = c.held_in-held in
    let if1 = c.if-refusal-ne0 in
    let request-refusal = c.request_refusal-refusal in
    let pre = c.requires in
    let args = c.args in
    let r = record_by args.head args.place.now args.ring.now args.order.now in
    let told = rw pre.0 at request-refusal.ensures in
    rw (c.windowed.ensures, held_in_lem.ensures) (plain_stored r args.mem.now args.address args.width args.value _ (rw (depth.ensures, held_in_lem.ensures) at (ap (λ b. yields b store_plainly.new.mem) (sym c.if-store_plainly.true) ∙ store_plainly.ensures)))
    ∙ taken r args.mem.now args.width (address_ok false (config_of r) args.address args.width) _ (sym if1.false ∙ told)

pub store_translated-requires : goal.store_translated-requires
store_translated-requires c =
    let depth = c.depth-d in
    let if1 = c.if-refusal-ne0 in
    let request-refusal = c.request_refusal-refusal in
    let pre = c.requires in
    let args = c.args in
    let r = record_by args.head args.place.now args.ring.now args.order.now in
    let told = rw pre.0 at request-refusal.ensures in
    let t = all_taken (fits_of r (length args.mem.now)) (width_fits args.width) (address_ok false (config_of r) args.address args.width) (sym if1.false ∙ told) in
    (fits_ready r _ t.0, pre.1, fits_held r _ t.0, fits_inside (address_fits (config_of r) args.address) args.address args.width t.1 t.2, fits_turns r _ t.0, depth.ensures)

pub returns : goal.returns
unfolding store_call
returns c =
    let if2 = c.if-store_plainly in
    let store_plainly = c.store_plainly in
    let depth = c.depth-d in
    let held_in_lem = c.held_in-held in
    let if1 = c.if-refusal-ne0 in
    let request-refusal = c.request_refusal-refusal in
    let pre = c.requires in
    let args = c.args in
    let r = record_by args.head args.place.now args.ring.now args.order.now in
    let told = rw pre.0 at request-refusal.ensures in
    let kept = plainly_keeps (config_of r) args.mem.now (held_of r) args.address args.width (depth_at r args.address) args.value _ (rw (depth.ensures, held_in_lem.ensures) at (ap (λ b. yields b store_plainly.new.mem) (sym if2.false) ∙ store_plainly.ensures)) in
    rw (kept) at c.store_translated.ensures
    ∙ taken r args.mem.now args.width (address_ok false (config_of r) args.address args.width) _ (sym if1.false ∙ told)
