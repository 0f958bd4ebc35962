use mathlib.Core.Path.{◌≡◌, sym, ◌∙◌}
use native.Mathlib.Omega.{arith}
use lib.ListN.{length, get_or}
use Rattle.choice.proofs.Loops.{packed_none, packed_word, packed_skip, packed_put, packed_is}
use Rattle.choice.proofs.without.Goals.{then-at-place, else-at-place}
use Rattle.choice.proofs.without.Goals as goal

pub loop-i-init : goal.loop-i-init
loop-i-init c = let args = c.args in
    let none = packed_none args.place args.order.now in
    (omega arith, omega arith, sym none.0, sym none.1)

pub loop-i-preserved : goal.loop-i-preserved
loop-i-preserved c = let loop = c.loop-i in
    let whole = c.whole in
    let args = c.args in
    let xs = args.order.now in
    let long : length xs ≡ 64 = whole.ensures in
    let word : get_or loop.order loop.i 0 ≡ get_or xs loop.i 0 = rw loop.invariant.3 (packed_word args.place xs loop.i (omega arith)) in
    let skip = packed_skip args.place xs loop.i (omega (arith, long)) in
    let put = packed_put args.place xs loop.i (omega (arith, long)) (omega arith) in
    elim c.if-at-place.branch [
      | then-at-place w ↦ let p = put (λ e. w.if-at-place.true (word ∙ e)) in (omega arith, omega arith, omega (arith, p.0), cc p.1)
      | else-at-place w ↦ let p = skip (sym word ∙ w.if-at-place.false) in (omega arith, omega arith, omega (arith, p.0), cc p.1)
    ]

pub returns : goal.returns
returns c = let loop = c.loop-i in
    let args = c.args in
    let is = packed_is args.place args.order.now args.count in
    let end : loop.i ≡ args.count = omega arith in
    ((rw end at loop.invariant.2) ∙ is.0, (rw end at loop.invariant.3) ∙ is.1)
