-- Where the whole walk arrives its entries are judged.
use mathlib.Core.Path.{◌≡◌, sym, ap, ◌∙◌}
use native.Mathlib.Omega.{arith}
use Rattle.layout.specs.Layout.{config}
use Rattle.walk.specs.declared.Trail.{Trail}
use Rattle.walk.specs.Memory.{walked_of, root_trail}
use Rattle.translate.specs.Translate.{whole as wholeWalk, checked_of}
use Rattle.translate.proofs.Bits.{whole_checked}
use Rattle.translate.proofs.check.Goals as goal

pub returns-in-Arrived : goal.returns-in-Arrived
unfolding root_trail
returns-in-Arrived c =
    let judge = c.judge in
    let whole = c.whole-trail in
    let args = c.args in
    let pre = c.requires in
    let came : walked_of (config args.space.layout) args.space.top args.mem.now 0 (wholeWalk (config args.space.layout) args.request.store args.root.0 args.request.address.0) ≡ _ = sym (ap (λ (t : Trail). t.walked) whole.ensures) ∙ c.in-Arrived.is in
    judge.ensures ∙ rw whole.ensures (whole_checked (config args.space.layout) args.space.top args.mem.now args.root.0 args.request.store args.request.address.0 _ _ _ (omega (arith, pre.0)) came args.request.depth)

pub returns-in-Faulted : goal.returns-in-Faulted
unfolding checked_of root_trail
returns-in-Faulted c =
    let exit-of = c.exit_of in
    let whole = c.whole-trail in
    rw (← ap (λ (t : Trail). t.walked) whole.ensures, c.in-Faulted.is, exit-of.ensures)

pub returns-in-Damaged : goal.returns-in-Damaged
unfolding checked_of root_trail
returns-in-Damaged c =
    let whole = c.whole-trail in
    rw (← ap (λ (t : Trail). t.walked) whole.ensures, c.in-Damaged.is)
