-- Through a held path, without one, or damage, all at depth 0.
use mathlib.Core.Path.{sym, ap, ◌∙◌}
use native.Mathlib.Omega.{arith}
use Rattle.words.specs.After.{yields}
use Rattle.layout.specs.Layout.{config}
use Rattle.translate.proofs.Fits.{held_small}
use Rattle.request.proofs.Held.{path_serves, path_small, path_missed, path_broken}
use Rattle.request.proofs.reached_large.Goals as goal

pub through-requires : goal.through-requires
through-requires c =
    let path_held = c.path_held in
    let args = c.args in
    let pre = c.requires in
    (pre.0, omega arith, path_small (config args.space.layout) args.space.top args.mem.now args.held args.root.0 args.store args.address.0 0 pre.0.3 (held_small (config args.space.layout) args.held pre.1 pre.0.3) _ _ (sym path_held.ensures ∙ c.in-Found.is))

pub returns-in-Found : goal.returns-in-Found
returns-in-Found c =
    let through = c.through in
    let path_held = c.path_held in
    let args = c.args in
    ap (λ x. yields x args.mem.now) through.ensures
    ∙ sym (path_serves (config args.space.layout) args.space.top args.mem.now args.held args.root.0 args.store args.address.0 0 _ _ (omega arith) (sym path_held.ensures ∙ c.in-Found.is))

pub returns-in-Absent : goal.returns-in-Absent
returns-in-Absent c =
    let unserved = c.unserved in
    let path_held = c.path_held in
    let args = c.args in
    unserved.ensures ∙ sym (path_missed (config args.space.layout) args.space.top args.mem.now args.held args.root.0 args.store args.address.0 0 _ (omega arith) (sym path_held.ensures ∙ c.in-Absent.is))

pub returns-in-Damaged : goal.returns-in-Damaged
returns-in-Damaged c =
    let damaged = c.damaged in
    let path_held = c.path_held in
    let args = c.args in
    ap (λ x. yields x args.mem.now) damaged.ensures
    ∙ sym (path_broken (config args.space.layout) args.space.top args.mem.now args.held args.root.0 args.store args.address.0 0 (omega arith) (sym path_held.ensures ∙ c.in-Damaged.is))
