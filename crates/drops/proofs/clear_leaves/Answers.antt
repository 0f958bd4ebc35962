-- Invariant: clearing on from i, in the memory so far, ends as clearing all from lo on; a damaged entry ends it there.
use mathlib.Core.Path.{refl, ◌∙◌}
use native.Mathlib.Omega.{arith}
use Rattle.layout.specs.Layout.{config}
use Rattle.drops.proofs.Laws.{clear_step, clear_none}
use Rattle.drops.proofs.clear_leaves.Goals as goal

pub loop-i-init : goal.loop-i-init
loop-i-init c = (omega arith, omega arith, refl, refl)

pub loop-i-preserved : goal.loop-i-preserved
loop-i-preserved c =
    let args = c.args in
    let loop = c.loop-i in
    let loop-test = c.loop-i-test in
    let clear-one = c.clear_one in
    let if1 = c.if-clear_one in
    (omega (arith, loop.invariant.0), omega arith, clear-one.auto.mem ∙ loop.invariant.2, rw (clear_step (config args.layout) args.cut args.all args.lowest args.frame args.hi loop.i loop.mem loop-test.true, ← clear-one.ensures, if1.true) at loop.invariant.3)

pub returns-else-clear_one : goal.returns-else-clear_one
returns-else-clear_one c =
    let args = c.args in
    let loop = c.loop-i in
    let loop-test = c.loop-i-test in
    let clear-one = c.clear_one in
    let if1 = c.if-clear_one in
    rw (clear_step (config args.layout) args.cut args.all args.lowest args.frame args.hi loop.i loop.mem loop-test.true, ← clear-one.ensures, if1.false) at loop.invariant.3

pub returns : goal.returns
returns c =
    let args = c.args in
    let loop = c.loop-i in
    let loop-test = c.loop-i-test in
    rw (clear_none (config args.layout) args.cut args.all args.lowest args.frame args.hi loop.i loop.mem loop-test.false) at loop.invariant.3
