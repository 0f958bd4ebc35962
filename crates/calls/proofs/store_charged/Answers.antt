-- Damage met by the drops, or the charge on what they left, and then the rest.
use mathlib.Core.Path.{◌≡◌, refl, sym, ap, ◌∙◌, subst}
use Prim.Native.Nat.{◌+◌, ◌-◌, ◌*◌, ◌^◌, ◌≤◌}
use native.Mathlib.Omega.{arith}
use mathlib.Core.Bool.{true, false}
use borrow.Author.Tests.{not-true, not-false}
use lib.Pow.{pow_mono}
use Rattle.spec.specs.Entry.{word_of}
use Rattle.words.specs.After.{After, yields}
use Rattle.record.specs.Record.{record_by, config_of, head_tables}
use Rattle.request.specs.declared.Put.{Put}
use Rattle.request.proofs.Leaves.{drop_leaves}
use Rattle.automatic.specs.Moves as automatic
use Rattle.automatic.specs.Moves.{moved_in, kept_by}
use Rattle.calls.specs.declared.Turn.{Turn}
use Rattle.calls.specs.Calls.{head_held, with_held, turn_in, store_charged_of}
use Rattle.calls.proofs.Stores.{settled_turn_lem}
use Rattle.calls.proofs.store_charged.Goals as goal

pub charge-moved-requires : goal.charge-moved-requires
unfolding head_tables
charge-moved-requires c =
    let with-shadow = c.with_shadow in
    let drop-readers = c.drop_readers-put in
    let args = c.args in
    let pre = c.requires in
    let r = record_by args.head args.place.now args.ring.now args.order.now in
    let fresh = subst (λ (o : After Put). o.result.pool.fresh ≤ args.head.layout.shadows) (sym drop-readers.ensures) (drop_leaves (config_of r) args.mem.now args.owed.held.pool args.owed.page.0 (word_of args.address) pre.2.0).fresh in
    let few : 2 ^ (9 * (args.head.layout.levels - 1)) ≤ 2 ^ 45 = pow_mono {i = 9 * (args.head.layout.levels - 1)} {j = 45} (omega (arith, pre.0.1)) in
    (rw with-shadow.ensures ((pre.0.0.0, fresh), pre.0.1, pre.0.2), omega (arith, pre.2.3))

pub overflow_add-exits : goal.overflow_add-exits
overflow_add-exits c =
    let drop-readers = c.drop_readers-put in
    let args = c.args in
    let pre = c.requires in
    let r = record_by args.head args.place.now args.ring.now args.order.now in
    let one = subst (λ (o : After Put). o.result.exits ≤ 1) (sym drop-readers.ensures) (drop_leaves (config_of r) args.mem.now args.owed.held.pool args.owed.page.0 (word_of args.address) pre.2.0).exits in
    omega (arith, pre.2.2, one)

pub store_settled-requires : goal.store_settled-requires
store_settled-requires c =
    let pre = c.requires in
    (pre.0.0.0, pre.2.1, pre.1)

pub returns-then-not-put : goal.returns-then-not-put
unfolding store_charged_of
returns-then-not-put c =
    let drop-readers = c.drop_readers-put in
    let args = c.args in
    let r = record_by args.head args.place.now args.ring.now args.order.now in
    let bad : drop-readers.result.ok ≡ false = not-true _ c.if-not-put.true in
    rw (← drop-readers.ensures, bad, c.refused_in.ensures)

pub shape_of-mem : goal.shape_of-mem
shape_of-mem c =
    let charge = c.charge-moved in
    let drop-readers = c.drop_readers-put in
    c.store_settled.auto.mem ∙ charge.auto.mem ∙ drop-readers.auto.mem

pub returns : goal.returns
unfolding store_charged_of head_held head_tables
returns c =
    let charge = c.charge-moved in
    let with-shadow = c.with_shadow in
    let drop-readers = c.drop_readers-put in
    let good : drop-readers.result.ok ≡ true = not-false _ c.if-not-put.false in
    let args = c.args in
    let r = record_by args.head args.place.now args.ring.now args.order.now in
    let x = args.owed in
    let y = yields (moved_in charge.new.place charge.new.ring charge.new.order charge.result) charge.new.mem in
    let q = with_held r (record { pool = drop-readers.result.pool; frame = x.held.frame }) in
    let m = automatic.charged_of q drop-readers.new.mem x.prefix in
    let went : y ≡ kept_by q m = rw with-shadow.ensures at charge.ensures in
    rw (← drop-readers.ensures, good)
    (ap (λ (t : After Turn). yields (turn_in charge.new.place charge.new.ring charge.new.order t.result) t.memory) c.store_settled.ensures
    ∙ settled_turn_lem args.head args.place.now args.ring.now args.order.now args.address args.width args.value x (x.exits + drop-readers.result.exits) q m (yields charge.result charge.new.mem) _ _ _ refl refl refl went)
