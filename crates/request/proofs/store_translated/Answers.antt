-- Through a held path; else by its translation.
use mathlib.Core.Path.{refl, sym, ap, ◌∙◌, subst}
use mathlib.Core.Bool.{true}
use Prim.Native.Nat.{◌≤◌}
use native.Mathlib.Omega.{arith}
use Rattle.words.specs.After.{After}
use Rattle.layout.specs.Layout.{config}
use Rattle.translate.specs.declared.Translated.{Translated}
use Rattle.translate.specs.Translate.{depth_of}
use Rattle.request.specs.Access.{ReachesFrame, store_from, store_of}
use Rattle.request.proofs.Held.{reaches_as, leaves_as}
use Rattle.request.proofs.Depths.{depth_found}
use Rattle.request.proofs.store_translated.Goals as goal

pub store_through-requires : goal.store_through-requires
store_through-requires c =
    let path_held = c.path_held in
    let if1 = c.if-depth-space in
    let pre = c.requires in
    (pre.0, pre.1, pre.2, if1.true, sym path_held.ensures ∙ c.in-Found.is)

pub returns-in-Found : goal.returns-in-Found
returns-in-Found c =
    let store-through = c.store_through in
    let path_held = c.path_held in
    let args = c.args in
    store-through.ensures ∙ sym (ap (λ d. store_of (config args.space.layout) args.space.top args.mem.now args.held args.root.0 args.address.0 args.width d args.value) (depth_found (config args.space.layout) args.space.top args.mem.now args.held args.root.0 args.address.0 args.depth true _ _ (sym path_held.ensures ∙ c.in-Found.is)))

pub stored_by_bits-requires : goal.stored_by_bits-requires
stored_by_bits-requires c =
    let reached = c.reached-t in
    let args = c.args in
    let pre = c.requires in
    let left = leaves_as (config args.space.layout) args.space.top args.mem.now args.held args.root.0 true args.address.0 (depth_of (config args.space.layout) args.space.top args.mem.now args.held args.root.0 args.address.0 args.depth) pre.1 pre.0.0 _ refl in
    (pre.0, subst (λ (o : After Translated). o.result.held.pool.fresh ≤ args.space.layout.shadows) (sym reached.ensures) left.held.0, subst (λ (o : After Translated). ReachesFrame o.result.walked) (sym reached.ensures) (reaches_as (config args.space.layout) args.space.top args.mem.now args.held args.root.0 true args.address.0 (depth_of (config args.space.layout) args.space.top args.mem.now args.held args.root.0 args.address.0 args.depth) pre.1 pre.0.0 _ pre.0.3 refl), pre.2, subst (λ (o : After Translated). o.result.exits ≤ 65536) (sym reached.ensures) (let k = left.exits in omega (arith, k)))

pub returns : goal.returns
unfolding store_of
returns c =
    let stored-by-bits = c.stored_by_bits in
    let reached = c.reached-t in
    let args = c.args in
    stored-by-bits.ensures ∙ ap (store_from (config args.space.layout) args.space.top args.root.0 args.held args.address.0 args.width args.value) reached.ensures
