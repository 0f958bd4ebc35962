-- The translation is that of the call, and the rest goes by its charge.
use mathlib.Core.Path.{sym, ap, ◌∙◌}
use mathlib.Core.Bool.{true}
use native.Mathlib.Omega.{arith}
use Rattle.words.specs.After.{After}
use Rattle.record.specs.Record.{record_by, config_of}
use Rattle.translate.specs.declared.Translated.{Translated}
use Rattle.request.proofs.Held.{leaves_as, reaches_as}
use Rattle.calls.specs.Calls.{host_top, root_of, held_of, request_depth, translated_of, stored_by}
use Rattle.calls.proofs.store_translated.Goals as goal

pub reached-t-requires : goal.reached-t-requires
reached-t-requires c =
    let pre = c.requires in
    rw (c.space_in.ensures, c.held_in.ensures) (pre.0.0.0, pre.2, pre.4)

pub store_from-requires : goal.store_from-requires
store_from-requires c =
    let reached = c.reached-t in
    let held_in_lem = c.held_in in
    let space-in = c.space_in in
    let pre = c.requires in
    let args = c.args in
    let r = record_by args.head args.place.now args.ring.now args.order.now in
    let went = rw (held_in_lem.ensures, space-in.ensures, pre.5) at reached.ensures in
    let leaves = leaves_as (config_of r) (host_top r) args.mem.now (held_of r) (root_of r) true args.address.0 (request_depth r args.mem.now args.address.0) pre.2 pre.0.0.0.0 _ (sym went) in
    let reaches = reaches_as (config_of r) (host_top r) args.mem.now (held_of r) (root_of r) true args.address.0 (request_depth r args.mem.now args.address.0) pre.2 pre.0.0.0.0 _ pre.0.0.0.3 (sym went) in
    (pre.0, pre.1, leaves.held.0, reaches, pre.3, (let k = leaves.exits in omega arith))

pub returns : goal.returns
unfolding translated_of
returns c =
    let reached = c.reached-t in
    let held_in_lem = c.held_in in
    let space-in = c.space_in in
    let pre = c.requires in
    let args = c.args in
    let r = record_by args.head args.place.now args.ring.now args.order.now in
    let went = rw (held_in_lem.ensures, space-in.ensures, pre.5) at reached.ensures in
    c.store_from.ensures ∙ ap (λ (o : After Translated). stored_by r args.address.0 args.width args.value o o.result.walked) went
