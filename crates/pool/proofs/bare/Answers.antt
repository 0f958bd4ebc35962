-- The loop comes down from 512: while no entry from k on is present, the first k are bare exactly if all 512 are.
use native.Mathlib.Omega.{arith}
use mathlib.Core.Path.{◌≡◌, refl}
use Rattle.pool.proofs.Laws.{bare_more, bare_none}
use Rattle.pool.proofs.bare.Goals as goal

pub loop-k-init : goal.loop-k-init
loop-k-init c = (omega arith, refl)

pub returns-then-present : goal.returns-then-present
returns-then-present c = let args = c.args in
    let loop = c.loop-k in
    let loop-test = c.loop-k-test in
    let entry_at = c.entry_at in
    let present = c.present in
    let if1 = c.if-present in
    rw (bare_more args.mem.now args.frame loop.k loop-test.true, ← entry_at.ensures, ← present.ensures, if1.true) at loop.invariant.1

pub loop-k-preserved : goal.loop-k-preserved
loop-k-preserved c = let args = c.args in
    let loop = c.loop-k in
    let loop-test = c.loop-k-test in
    let entry_at = c.entry_at in
    let present = c.present in
    let if1 = c.if-present in
    (omega arith, rw (bare_more args.mem.now args.frame loop.k loop-test.true, ← entry_at.ensures, ← present.ensures, if1.false) at loop.invariant.1)

pub returns : goal.returns
returns c = let args = c.args in
    let loop = c.loop-k in
    let z : loop.k ≡ 0 = omega arith in
    rw (bare_none args.mem.now args.frame loop.k z) at loop.invariant.1
