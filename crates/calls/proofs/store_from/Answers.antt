-- By what the translation came to, and by the charge.
use mathlib.Core.Path.{sym, ap, ap₂, ◌∙◌, subst}
use Prim.Native.Nat.{◌-◌}
use Rattle.words.specs.After.{yields}
use Rattle.record.specs.Record.{record_by}
use Rattle.request.specs.Access.{ReachesFrame, store_from}
use Rattle.layout.specs.Layout.{config}
use Rattle.host.specs.declared.Space.{Space}
use Rattle.translate.specs.declared.Held.{Held}
use Rattle.charge.specs.declared.Charge.{Charge}
use Rattle.charge.proofs.Laws.{SmallCharge}
use Rattle.calls.specs.Calls.{windowed_by}
use Rattle.calls.proofs.Stores.{charge_small, on_store, not_arrived, not_walked}
use Rattle.calls.proofs.store_from.Goals as goal

pub charge_at-requires : goal.charge_at-requires
charge_at-requires c =
    let pre = c.requires in
    (pre.0.0.0, pre.2, subst ReachesFrame c.in-Arrived.is pre.3, c.word_of.ensures.1)

pub stored_by_bits-requires : goal.stored_by_bits-requires
stored_by_bits-requires c =
    let pre = c.requires in
    rw c.space_in.ensures (pre.0.0.0, pre.2, pre.3, pre.4, pre.5)

pub store_charged-requires : goal.store_charged-requires
store_charged-requires c =
    let charge-at = c.charge_at in
    let word_of_call = c.word_of in
    let args = c.args in
    let pre = c.requires in
    let small = subst (λ (x : Charge). SmallCharge (args.head.layout.levels - 1) x) (sym (rw word_of_call.ensures.0 at charge-at.ensures) ∙ c.in-To.is) (charge_small _ _ _ _ _) in
    (pre.0, pre.4, (pre.2, subst ReachesFrame c.in-Arrived.is pre.3, pre.5, small))

pub returns-in-To : goal.returns-in-To
returns-in-To c =
    let charge-at = c.charge_at in
    let word_of_call = c.word_of in
    let args = c.args in
    let pre = c.requires in
    let r = record_by args.head args.place.now args.ring.now args.order.now in
    c.store_charged.ensures ∙ on_store r pre.1 args.address.0 args.width args.value (yields args.t args.mem.now) _ _ _ _ c.in-Arrived.is (sym (rw word_of_call.ensures.0 at charge-at.ensures) ∙ c.in-To.is)

pub returns-in-Damaged-charge_at : goal.returns-in-Damaged-charge_at
returns-in-Damaged-charge_at c =
    let charge-at = c.charge_at in
    let word_of_call = c.word_of in
    let args = c.args in
    let pre = c.requires in
    let r = record_by args.head args.place.now args.ring.now args.order.now in
    rw c.refused_in.ensures (on_store r pre.1 args.address.0 args.width args.value (yields args.t args.mem.now) _ _ _ _ c.in-Arrived.is (sym (rw word_of_call.ensures.0 at charge-at.ensures) ∙ c.in-Damaged-charge_at.is))

pub returns-in-Faulted : goal.returns-in-Faulted
returns-in-Faulted c =
    let args = c.args in
    let r = record_by args.head args.place.now args.ring.now args.order.now in
    rw c.windowed-in-Faulted.ensures (not_arrived r args.address.0 args.width args.value (yields args.t args.mem.now) _ _ c.in-Faulted.is)

pub returns-in-Damaged : goal.returns-in-Damaged
returns-in-Damaged c =
    let args = c.args in
    let r = record_by args.head args.place.now args.ring.now args.order.now in
    rw c.refused_in-in-Damaged.ensures (not_walked r args.address.0 args.width args.value (yields args.t args.mem.now) c.in-Damaged.is)

pub returns-in-Nobody : goal.returns-in-Nobody
returns-in-Nobody c =
    let stored-by-bits = c.stored_by_bits in
    let held-in = c.held_in in
    let space-in = c.space_in in
    let charge-at = c.charge_at in
    let word_of_call = c.word_of in
    let args = c.args in
    let pre = c.requires in
    let r = record_by args.head args.place.now args.ring.now args.order.now in
    let done = stored-by-bits.ensures
    ∙ ap₂ (λ (s : Space) (h : Held). store_from (config s.layout) s.top args.head.root.0 h args.address.0 args.width args.value (yields args.t args.mem.now)) space-in.ensures held-in.ensures in
    rw c.windowed.ensures (ap (windowed_by r) done ∙ on_store r pre.1 args.address.0 args.width args.value (yields args.t args.mem.now) _ _ _ _ c.in-Arrived.is (sym (rw word_of_call.ensures.0 at charge-at.ensures) ∙ c.in-Nobody.is))
