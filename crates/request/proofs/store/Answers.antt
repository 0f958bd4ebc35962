-- The common case is a store; else the memory is as it was, and the store goes by its translation.
use mathlib.Core.Path.{sym, ap, ◌∙◌}
use Rattle.words.specs.After.{yields}
use Rattle.layout.specs.Layout.{config}
use Rattle.request.specs.Access.{store_of}
use Rattle.request.proofs.Held.{plainly_one, plainly_stores, plainly_keeps}
use Rattle.request.proofs.Depths.{turn_none, depth_kept}
use Rattle.request.proofs.store.Goals as goal

pub returns-then-store_plainly : goal.returns-then-store_plainly
returns-then-store_plainly c =
    let store_plainly = c.store_plainly in
    let args = c.args in
    let done = ap (λ b. yields b store_plainly.new.mem) (sym c.if-store_plainly.true) ∙ store_plainly.ensures in
    plainly_stores (config args.space.layout) args.space.top args.mem.now args.held args.root.0 args.address.0 args.width args.depth args.value _ done
    ∙ sym (ap (λ d. store_of (config args.space.layout) args.space.top args.mem.now args.held args.root.0 args.address.0 args.width d args.value) (depth_kept (config args.space.layout) args.space.top args.mem.now args.held args.root.0 args.address.0 args.depth (turn_none args.depth (plainly_one (config args.space.layout) args.mem.now args.held args.address.0 args.width args.depth args.value _ done).none)))

pub returns : goal.returns
returns c =
    let if1 = c.if-store_plainly in
    let store_plainly = c.store_plainly in
    let args = c.args in
    let kept = plainly_keeps (config args.space.layout) args.mem.now args.held args.address.0 args.width args.depth args.value _ (ap (λ b. yields b store_plainly.new.mem) (sym if1.false) ∙ store_plainly.ensures) in
    rw (kept) at c.store_translated.ensures
