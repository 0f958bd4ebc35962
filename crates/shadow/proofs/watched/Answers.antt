-- The loop comes down over the frames handed out: none from k on watches, so any does exactly if one of the first k does.
use mathlib.Core.Path.{◌≡◌, refl}
use native.Mathlib.Omega.{arith}
use Rattle.shadow.specs.Watch.{watched_of}
use Rattle.shadow.proofs.Laws.{watched_step, watched_none}
use Rattle.shadow.proofs.watched.Goals as goal

pub loop-k-init : goal.loop-k-init
loop-k-init c = (omega arith, refl)

pub returns-then-watches : goal.returns-then-watches
unfolding watched_of
returns-then-watches c = let args = c.args in
    let loop = c.loop-k in
    let loop-test = c.loop-k-test in
    let watches = c.watches in
    let if1 = c.if-watches in
    rw (watched_step args.mem.now args.layout.hosts args.frame.0 loop.k loop-test.true, ← watches.ensures, if1.true) at loop.invariant.1

pub loop-k-preserved : goal.loop-k-preserved
loop-k-preserved c = let args = c.args in
    let loop = c.loop-k in
    let loop-test = c.loop-k-test in
    let watches = c.watches in
    let if1 = c.if-watches in
    (omega (arith, loop.invariant.0), rw (watched_step args.mem.now args.layout.hosts args.frame.0 loop.k loop-test.true, ← watches.ensures, if1.false) at loop.invariant.1)

pub returns : goal.returns
unfolding watched_of
returns c = let z : c.loop-k.k ≡ 0 = omega arith in rw (z, watched_none) at c.loop-k.invariant.1
