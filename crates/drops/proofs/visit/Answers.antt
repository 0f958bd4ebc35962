-- No table, under a cut, cut itself, not cut, damaged; a cut's range ends by 512, which is what the sweep asks.
use native.Mathlib.Omega.{arith}
use borrow.Author.Tests.{eq-eqb, ne_eqb}
use Rattle.drops.specs.Drop.{visit_of}
use Rattle.drops.proofs.Laws.{range_fits}
use Rattle.drops.proofs.visit.Goals as goal

pub returns-then-n-eq0 : goal.returns-then-n-eq0
unfolding visit_of
returns-then-n-eq0 c = rw (← c.level-n.ensures, eq-eqb _ _ c.if-n-eq0.true)

pub sweep-requires-then-touches : goal.sweep-requires-then-touches
sweep-requires-then-touches c =
    let args = c.args in
    let pre = c.requires in
    let low = c.low in
    let end = c.end in
    let r = range_fits args.cut in
    (pre.0, pre.1, omega (arith, r.1, end.ensures), omega (arith, r.0, low.ensures, end.ensures))

pub returns-in-Met : goal.returns-in-Met
unfolding visit_of
returns-in-Met c =
    let level = c.level-n in
    let if1 = c.if-n-eq0 in
    let links = c.links in
    let links-up = c.links_up in
    let sweep = c.sweep in
    rw (← level.ensures, ne_eqb _ _ if1.false, ← links.ensures, ← links-up.ensures, c.in-Met.is) sweep.ensures

pub returns-then-touches : goal.returns-then-touches
unfolding visit_of
returns-then-touches c =
    let level = c.level-n in
    let if1 = c.if-n-eq0 in
    let links = c.links in
    let links-up = c.links_up in
    let touches = c.touches in
    let if2 = c.if-touches in
    let low = c.low in
    let end = c.end in
    let sweep2 = c.sweep-then-touches in
    rw (← level.ensures, ne_eqb _ _ if1.false, ← links.ensures, ← links-up.ensures, c.in-To.is, ← touches.ensures, if2.true, ← low.ensures, ← end.ensures) sweep2.ensures

pub returns-else-touches : goal.returns-else-touches
unfolding visit_of
returns-else-touches c =
    let level = c.level-n in
    let if1 = c.if-n-eq0 in
    let links = c.links in
    let links-up = c.links_up in
    let touches = c.touches in
    let if2 = c.if-touches in
    rw (← level.ensures, ne_eqb _ _ if1.false, ← links.ensures, ← links-up.ensures, c.in-To.is, ← touches.ensures, if2.false)

pub returns-in-Damaged : goal.returns-in-Damaged
unfolding visit_of
returns-in-Damaged c =
    let level = c.level-n in
    let if1 = c.if-n-eq0 in
    let links = c.links in
    let links-up = c.links_up in
    rw (← level.ensures, ne_eqb _ _ if1.false, ← links.ensures, ← links-up.ensures, c.in-Damaged.is)
