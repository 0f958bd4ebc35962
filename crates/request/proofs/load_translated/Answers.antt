-- The translation is that of the load.
use mathlib.Core.Path.{refl, sym, ap, ◌∙◌, subst}
use mathlib.Core.Bool.{false}
use Rattle.words.specs.After.{After}
use Rattle.layout.specs.Layout.{config}
use Rattle.translate.specs.declared.Translated.{Translated}
use Rattle.translate.specs.Translate.{depth_of}
use Rattle.request.specs.Access.{ReachesFrame, load_from, load_of}
use Rattle.request.proofs.Held.{reaches_as}
use Rattle.request.proofs.load_translated.Goals as goal

pub load_by-requires : goal.load_by-requires
load_by-requires c =
    let reached = c.reached-t in
    let args = c.args in
    let pre = c.requires in
    (pre.0, subst (λ (o : After Translated). ReachesFrame o.result.walked) (sym reached.ensures) (reaches_as (config args.space.layout) args.space.top args.mem.now args.held args.root.0 false args.address.0 (depth_of (config args.space.layout) args.space.top args.mem.now args.held args.root.0 args.address.0 args.depth) pre.1 pre.0.0 _ pre.0.3 refl), pre.2)

pub returns : goal.returns
unfolding load_of
returns c =
    let load-by = c.load_by in
    let reached = c.reached-t in
    let args = c.args in
    load-by.ensures ∙ ap (load_from (config args.space.layout) args.space.top args.root.0 args.held args.address.0 args.width) reached.ensures
