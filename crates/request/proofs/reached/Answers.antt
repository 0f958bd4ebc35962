-- Through the path held for it; else at depth 0 into a large page, or damage, or without a path: each case is the definition's.
use mathlib.Core.Path.{sym, ap, ◌∙◌}
use Rattle.words.specs.After.{yields}
use Rattle.layout.specs.Layout.{config}
use Rattle.translate.specs.Translate.{translate_of}
use Rattle.translate.proofs.Fits.{held_small}
use Rattle.request.proofs.Held.{path_serves, path_small, path_missed, path_none, path_broken}
use Rattle.request.proofs.Depths.{depth_kept, depth_by_lem, depth_found, depth_missed, depth_high, turned_same, turned_zero}
use Rattle.request.proofs.reached.Goals as goal
use Rattle.request.proofs.reached.Goals.{then-depth-space+in-Absent+else-is_turned, else-depth-space}

pub through-requires : goal.through-requires
through-requires c =
    let path_held = c.path_held in
    let if1 = c.if-depth-space in
    let args = c.args in
    let pre = c.requires in
    (pre.0, if1.true, path_small (config args.space.layout) args.space.top args.mem.now args.held args.root.0 args.request.store args.request.address.0 args.request.depth pre.0.3 (held_small (config args.space.layout) args.held pre.1 pre.0.3) _ _ (sym path_held.ensures ∙ c.in-Found.is))

pub returns-in-Found : goal.returns-in-Found
returns-in-Found c =
    let through = c.through in
    let path_held = c.path_held in
    let if1 = c.if-depth-space in
    let args = c.args in
    ap (λ x. yields x args.mem.now) through.ensures
    ∙ sym (path_serves (config args.space.layout) args.space.top args.mem.now args.held args.root.0 args.request.store args.request.address.0 args.request.depth _ _ if1.true (sym path_held.ensures ∙ c.in-Found.is))
    ∙ sym (ap (translate_of (config args.space.layout) args.space.top args.mem.now args.held args.root.0 args.request.store args.request.address.0) (depth_found (config args.space.layout) args.space.top args.mem.now args.held args.root.0 args.request.address.0 args.request.depth args.request.store _ _ (sym path_held.ensures ∙ c.in-Found.is)))

pub returns-then-is_turned : goal.returns-then-is_turned
returns-then-is_turned c =
    let reached-large = c.reached_large in
    let if2 = c.if-is_turned in
    let is_turned = c.is_turned in
    let path_held = c.path_held in
    let args = c.args in
    reached-large.ensures ∙ sym (ap (translate_of (config args.space.layout) args.space.top args.mem.now args.held args.root.0 args.request.store args.request.address.0) (depth_missed (config args.space.layout) args.space.top args.mem.now args.held args.root.0 args.request.address.0 args.request.depth args.request.store _ (sym path_held.ensures ∙ c.in-Absent.is) ∙ turned_zero (config args.space.layout) args.space.top args.mem.now args.held args.root.0 args.request.address.0 args.request.depth (sym is_turned.ensures ∙ if2.true)))

pub returns-then-may_turn : goal.returns-then-may_turn
returns-then-may_turn c =
    let reached-large2 = c.reached_large-then-may_turn in
    let if3 = c.if-may_turn in
    let may-turn = c.may_turn in
    let path_held = c.path_held in
    let args = c.args in
    reached-large2.ensures ∙ sym (ap (translate_of (config args.space.layout) args.space.top args.mem.now args.held args.root.0 args.request.store args.request.address.0) (depth_by_lem (config args.space.layout) args.space.top args.mem.now args.held args.root.0 args.request.address.0 args.request.depth args.request.store _ (sym may-turn.ensures ∙ if3.true) (sym path_held.ensures ∙ c.in-Damaged.is)))

pub returns-in-Damaged : goal.returns-in-Damaged
returns-in-Damaged c =
    let damaged = c.damaged in
    let if3 = c.if-may_turn in
    let may-turn = c.may_turn in
    let path_held = c.path_held in
    let if1 = c.if-depth-space in
    let args = c.args in
    ap (λ x. yields x args.mem.now) damaged.ensures
    ∙ sym (path_broken (config args.space.layout) args.space.top args.mem.now args.held args.root.0 args.request.store args.request.address.0 args.request.depth if1.true (sym path_held.ensures ∙ c.in-Damaged.is))
    ∙ sym (ap (translate_of (config args.space.layout) args.space.top args.mem.now args.held args.root.0 args.request.store args.request.address.0) (depth_kept (config args.space.layout) args.space.top args.mem.now args.held args.root.0 args.request.address.0 args.request.depth (sym may-turn.ensures ∙ if3.false)))

pub returns : goal.returns
returns c =
    let args = c.args in
    let q = args.request in
    let at = translate_of (config args.space.layout) args.space.top args.mem.now args.held args.root.0 q.store q.address.0 in
    c.unserved.ensures ∙ elim c.if-depth-space.branch [
      | then-depth-space+in-Absent+else-is_turned w ↦
          let missed = sym w.path_held.ensures ∙ w.in-Absent.is in
          sym (path_missed (config args.space.layout) args.space.top args.mem.now args.held args.root.0 q.store q.address.0 q.depth _ w.if-depth-space.true missed)
          ∙ sym (ap at (depth_missed (config args.space.layout) args.space.top args.mem.now args.held args.root.0 q.address.0 q.depth q.store _ missed
          ∙ turned_same (config args.space.layout) args.space.top args.mem.now args.held args.root.0 q.address.0 q.depth (sym w.is_turned.ensures ∙ w.if-is_turned.false)))
      | else-depth-space w ↦
          sym (path_none (config args.space.layout) args.space.top args.mem.now args.held args.root.0 q.store q.address.0 q.depth w.if-depth-space.false)
          ∙ sym (ap at (depth_high (config args.space.layout) args.space.top args.mem.now args.held args.root.0 q.address.0 q.depth c.requires.2 w.if-depth-space.false))
    ]
