-- 3 by its test; past it the change, and what the host walk came to before it.
use mathlib.Core.Path.{sym, ap₂, ◌∙◌}
use Rattle.record.specs.Record.{record_by, head_tables}
use Rattle.calls.specs.Calls.{changed_by, map_call}
use Rattle.calls.proofs.Laws.{broken, unbroken}
use Rattle.calls.proofs.Ranges.{fits_sound, fits_deep}
use Rattle.calls.proofs.map_at.Goals as goal

pub returns-then-not-fits : goal.returns-then-not-fits
unfolding map_call head_tables
returns-then-not-fits c =
    let args = c.args in
    let pre = c.requires in
    rw c.unmoved.ensures (broken (record_by args.head args.place.now args.ring.now args.order.now) args.mem.now _ (sym pre ∙ c.if-not-fits.true))

pub host_walk-was-requires : goal.host_walk-was-requires
host_walk-was-requires c =
    let args = c.args in
    let pre = c.requires in
    rw c.space_in.ensures (fits_sound (record_by args.head args.place.now args.ring.now args.order.now) _ (sym pre ∙ c.if-not-fits.false)).0

pub map-change-requires : goal.map-change-requires
map-change-requires c =
    let if1 = c.if-not-fits in
    let args = c.args in
    let pre = c.requires in
    ((fits_sound (record_by args.head args.place.now args.ring.now args.order.now) _ (sym pre ∙ if1.false)).0, fits_deep (record_by args.head args.place.now args.ring.now args.order.now) _ (sym pre ∙ if1.false))

pub changed-requires : goal.changed-requires
changed-requires c =
    let if1 = c.if-not-fits in
    let args = c.args in
    let pre = c.requires in
    fits_sound (record_by args.head args.place.now args.ring.now args.order.now) _ (sym pre ∙ if1.false)

pub returns : goal.returns
unfolding map_call
returns c =
    let map = c.map-change in
    let host-walk = c.host_walk-was in
    let space-in = c.space_in in
    let if1 = c.if-not-fits in
    let args = c.args in
    let pre = c.requires in
    let r = record_by args.head args.place.now args.ring.now args.order.now in
    c.changed.ensures ∙ ap₂ (changed_by r args.number) (rw space-in.ensures at host-walk.ensures) map.ensures ∙ unbroken r args.mem.now _ (sym pre ∙ if1.false)
