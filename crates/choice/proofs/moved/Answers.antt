use mathlib.Core.Path.{◌≡◌, sym, ◌∙◌}
use native.Mathlib.Omega.{arith}
use lib.ListN.{length}
use Rattle.choice.proofs.Loops.{again, mapped_none, mapped_word, mapped_turn, mapped_is}
use Rattle.choice.proofs.moved.Goals as goal

pub loop-i-init : goal.loop-i-init
loop-i-init c = (omega arith, sym (mapped_none _ c.args.order.now))

pub loop-i-preserved : goal.loop-i-preserved
loop-i-preserved c = let loop = c.loop-i in
    let whole = c.whole in
    let args = c.args in
    let xs = args.order.now in
    let long : length xs ≡ 64 = whole.ensures in
    let g = again args.old.now args.place.now args.set in
    let word = mapped_word g xs loop.i (omega (arith, long)) in
    let turn = mapped_turn g xs loop.i (omega (arith, long)) in
    (omega arith, rw (turn, ← word, ← loop.invariant.1, c.place_of.ensures))

pub returns : goal.returns
returns c = let loop = c.loop-i in
    let args = c.args in
    let end : loop.i ≡ args.count = omega arith in
    (rw end at loop.invariant.1) ∙ mapped_is args.count args.order.now args.old.now args.place.now args.set
