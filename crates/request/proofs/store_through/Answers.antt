-- The direct part reads no bit, and the store is done; or it goes by its bits where one lacks.
use mathlib.Core.Path.{sym, ap, ◌∙◌, subst}
use mathlib.Core.Bool.{true, false}
use Prim.Native.Nat.{◌≤◌}
use native.Mathlib.Omega.{arith}
use Rattle.words.specs.After.{yields}
use Rattle.layout.specs.Layout.{config}
use Rattle.translate.specs.declared.Translated.{Translated}
use Rattle.translate.specs.Translate.{translation, exit_by}
use Rattle.translate.proofs.Fits.{exit_few, held_small}
use Rattle.translate.proofs.Bits.{bitless_none}
use Rattle.request.specs.Access.{ReachesFrame, store_from, store_of}
use Rattle.request.proofs.Held.{path_plainly, path_serves, path_small, reaches_as, leaves_as, store_plainly}
use Rattle.request.proofs.store_through.Goals as goal

pub direct-walked-requires : goal.direct-walked-requires
direct-walked-requires c =
    let args = c.args in
    let pre = c.requires in
    (pre.0, pre.3, path_small (config args.space.layout) args.space.top args.mem.now args.held args.root.0 true args.address.0 args.depth pre.0.3 (held_small (config args.space.layout) args.held pre.1 pre.0.3) _ _ pre.4)

pub stored-requires : goal.stored-requires
stored-requires c =
    let exit-of = c.exit_of-exits in
    let direct = c.direct-walked in
    let if1 = c.if-bitless in
    let bitless = c.bitless in
    let args = c.args in
    let pre = c.requires in
    let none = bitless_none (config args.space.layout) args.space.top args.mem.now true args.address.0 args.depth args.page.0 args.writable (sym bitless.ensures ∙ if1.true) in
    let went = path_plainly (config args.space.layout) args.space.top args.mem.now args.held args.root.0 true args.address.0 args.depth _ _ none pre.3 pre.4 in
    (pre.0, pre.1.0, subst ReachesFrame (sym direct.ensures) (reaches_as (config args.space.layout) args.space.top args.mem.now args.held args.root.0 true args.address.0 args.depth pre.1 pre.0.0 _ pre.0.3 went), pre.2, rw exit-of.ensures (exit_few direct.result))

pub returns-then-bitless : goal.returns-then-bitless
unfolding store_of
returns-then-bitless c =
    let stored = c.stored in
    let exit-of = c.exit_of-exits in
    let direct = c.direct-walked in
    let if1 = c.if-bitless in
    let bitless = c.bitless in
    let args = c.args in
    let pre = c.requires in
    let none = bitless_none (config args.space.layout) args.space.top args.mem.now true args.address.0 args.depth args.page.0 args.writable (sym bitless.ensures ∙ if1.true) in
    let went = path_plainly (config args.space.layout) args.space.top args.mem.now args.held args.root.0 true args.address.0 args.depth _ _ none pre.3 pre.4 in
    let end = direct.result in
    stored.ensures ∙ store_plainly (config args.space.layout) args.space.top args.root.0 args.held args.held args.address.0 args.width args.value exit-of.result end args.mem.now
    ∙ ap (λ e. (store_from (config args.space.layout) args.space.top args.root.0 args.held args.address.0 args.width args.value) (yields (translation args.held e end false) args.mem.now)) exit-of.ensures
    ∙ ap (λ r. (store_from (config args.space.layout) args.space.top args.root.0 args.held args.address.0 args.width args.value) (yields (translation args.held (exit_by r) r false) args.mem.now)) direct.ensures ∙ sym (ap (store_from (config args.space.layout) args.space.top args.root.0 args.held args.address.0 args.width args.value) went)

pub through-t-requires : goal.through-t-requires
through-t-requires c =
    let args = c.args in
    let pre = c.requires in
    (pre.0, pre.3, path_small (config args.space.layout) args.space.top args.mem.now args.held args.root.0 true args.address.0 args.depth pre.0.3 (held_small (config args.space.layout) args.held pre.1 pre.0.3) _ _ pre.4)

pub stored_by_bits-requires : goal.stored_by_bits-requires
stored_by_bits-requires c =
    let through = c.through-t in
    let args = c.args in
    let pre = c.requires in
    let went = path_serves (config args.space.layout) args.space.top args.mem.now args.held args.root.0 true args.address.0 args.depth _ _ pre.3 pre.4 in
    (pre.0, subst (λ (o : Translated). o.held.pool.fresh ≤ args.space.layout.shadows) (sym through.ensures) (leaves_as (config args.space.layout) args.space.top args.mem.now args.held args.root.0 true args.address.0 args.depth pre.1 pre.0.0 _ went).held.0, subst (λ (o : Translated). ReachesFrame o.walked) (sym through.ensures) (reaches_as (config args.space.layout) args.space.top args.mem.now args.held args.root.0 true args.address.0 args.depth pre.1 pre.0.0 _ pre.0.3 went), pre.2, subst (λ (o : Translated). o.exits ≤ 65536) (sym through.ensures) (let k = (leaves_as (config args.space.layout) args.space.top args.mem.now args.held args.root.0 true args.address.0 args.depth pre.1 pre.0.0 _ went).exits in omega (arith, k)))

pub returns : goal.returns
unfolding store_of
returns c =
    let stored-by-bits = c.stored_by_bits in
    let through = c.through-t in
    let args = c.args in
    let pre = c.requires in
    let went = path_serves (config args.space.layout) args.space.top args.mem.now args.held args.root.0 true args.address.0 args.depth _ _ pre.3 pre.4 in
    stored-by-bits.ensures ∙ ap (λ (o : Translated). (store_from (config args.space.layout) args.space.top args.root.0 args.held args.address.0 args.width args.value) (yields o args.mem.now)) through.ensures ∙ sym (ap (store_from (config args.space.layout) args.space.top args.root.0 args.held args.address.0 args.width args.value) went)
