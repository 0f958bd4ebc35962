-- Beyond the levels it is translated without a path, and so where none is held and no large page can lie above; through a held path, to its
-- page at depth 0; else by its translation.
use mathlib.Core.Path.{sym, ap, ◌∙◌}
use mathlib.Core.Bool.{false}
use Rattle.layout.specs.Layout.{config}
use Rattle.request.specs.Access.{path_held_of, load_of}
use Rattle.request.proofs.Held.{path_missed, path_none}
use Rattle.request.proofs.Depths.{depth_kept, depth_found, depth_high}
use Rattle.request.proofs.load.Goals as goal

pub load_unserved-requires : goal.load_unserved-requires
load_unserved-requires c =
    let if1 = c.if-space-depth in
    let args = c.args in
    let pre = c.requires in
    (pre.0, pre.1, pre.2, path_none (config args.space.layout) args.space.top args.mem.now args.held args.root.0 false args.address.0 args.depth if1.true)

pub returns-then-space-depth : goal.returns-then-space-depth
returns-then-space-depth c =
    let load-unserved = c.load_unserved in
    let if1 = c.if-space-depth in
    let args = c.args in
    let pre = c.requires in
    load-unserved.ensures ∙ sym (ap (load_of (config args.space.layout) args.space.top args.mem.now args.held args.root.0 args.address.0 args.width) (depth_high (config args.space.layout) args.space.top args.mem.now args.held args.root.0 args.address.0 args.depth pre.3 if1.true))

pub load_page-requires : goal.load_page-requires
load_page-requires c =
    let if2 = c.if-depth-eq0 in
    let path_held = c.path_held in
    let args = c.args in
    let pre = c.requires in
    (pre.0, pre.1, pre.2, ap (path_held_of (config args.space.layout) args.mem.now args.held false args.address.0) (sym if2.true) ∙ sym path_held.ensures ∙ c.in-Found.is)

pub returns-then-depth-eq0 : goal.returns-then-depth-eq0
returns-then-depth-eq0 c =
    let load_page = c.load_page in
    let if2 = c.if-depth-eq0 in
    let path_held = c.path_held in
    let args = c.args in
    load_page.ensures ∙ sym (ap (load_of (config args.space.layout) args.space.top args.mem.now args.held args.root.0 args.address.0 args.width) (depth_found (config args.space.layout) args.space.top args.mem.now args.held args.root.0 args.address.0 args.depth false _ _ (sym path_held.ensures ∙ c.in-Found.is) ∙ if2.true))

pub load_through-requires : goal.load_through-requires
load_through-requires c =
    let path_held = c.path_held in
    let if1 = c.if-space-depth in
    let pre = c.requires in
    (pre.0, pre.1, pre.2, if1.false, sym path_held.ensures ∙ c.in-Found.is)

pub returns-in-Found : goal.returns-in-Found
returns-in-Found c =
    let load-through = c.load_through in
    let path_held = c.path_held in
    let args = c.args in
    load-through.ensures ∙ sym (ap (load_of (config args.space.layout) args.space.top args.mem.now args.held args.root.0 args.address.0 args.width) (depth_found (config args.space.layout) args.space.top args.mem.now args.held args.root.0 args.address.0 args.depth false _ _ (sym path_held.ensures ∙ c.in-Found.is)))

pub load_unserved-requires-then-not-may_turn : goal.load_unserved-requires-then-not-may_turn
load_unserved-requires-then-not-may_turn c =
    let path_held = c.path_held in
    let if1 = c.if-space-depth in
    let args = c.args in
    let pre = c.requires in
    (pre.0, pre.1, pre.2, path_missed (config args.space.layout) args.space.top args.mem.now args.held args.root.0 false args.address.0 args.depth _ if1.false (sym path_held.ensures ∙ c.in-Absent.is))

pub returns-then-not-may_turn : goal.returns-then-not-may_turn
returns-then-not-may_turn c =
    let load-unserved2 = c.load_unserved-then-not-may_turn in
    let if3 = c.if-not-may_turn in
    let may-turn = c.may_turn in
    let args = c.args in
    load-unserved2.ensures ∙ sym (ap (load_of (config args.space.layout) args.space.top args.mem.now args.held args.root.0 args.address.0 args.width) (depth_kept (config args.space.layout) args.space.top args.mem.now args.held args.root.0 args.address.0 args.depth (sym may-turn.ensures ∙ if3.true)))
