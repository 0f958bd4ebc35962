-- Invariant: the scan on from frame i, with pool and memory so far, ends as the whole scan does; damage ends it there.
use mathlib.Core.Path.{◌≡◌, refl, ◌∙◌}
use Prim.Native.Nat.{◌-◌}
use native.Mathlib.Omega.{arith}
use Rattle.layout.specs.Layout.{config}
use Rattle.drops.specs.Drop.{scan_of}
use Rattle.drops.proofs.Laws.{scan_step, scan_none}
use Rattle.drops.proofs.scan.Goals as goal

pub loop-i-init : goal.loop-i-init
loop-i-init c = (omega arith, refl, refl)

pub loop-i-preserved : goal.loop-i-preserved
loop-i-preserved c =
    let args = c.args in
    let loop = c.loop-i in
    let loop-test = c.loop-i-test in
    let visit = c.visit-left in
    let if1 = c.if-left in
    (omega arith, visit.auto.mem ∙ loop.invariant.1, rw (scan_step (config args.layout) args.cut args.pool.fresh loop.i loop.cur loop.mem loop-test.true, ← visit.ensures, if1.true) at loop.invariant.2)

pub returns-else-left : goal.returns-else-left
unfolding scan_of
returns-else-left c =
    let args = c.args in
    let loop = c.loop-i in
    let loop-test = c.loop-i-test in
    let visit = c.visit-left in
    let if1 = c.if-left in
    let z : args.pool.fresh - 0 ≡ args.pool.fresh = omega arith in
    rw if1.false (rw (scan_step (config args.layout) args.cut args.pool.fresh loop.i loop.cur loop.mem loop-test.true, ← visit.ensures, if1.false, z) at loop.invariant.2)

pub returns : goal.returns
unfolding scan_of
returns c =
    let args = c.args in
    let loop = c.loop-i in
    let loop-test = c.loop-i-test in
    let z : args.pool.fresh - 0 ≡ args.pool.fresh = omega arith in
    rw (scan_none (config args.layout) args.cut args.pool.fresh loop.i loop.cur loop.mem loop-test.false, z) at loop.invariant.2
