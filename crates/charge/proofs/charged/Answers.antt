-- Invariant: what is found so far is the charge of the first k frames.
use mathlib.Core.Path.{◌≡◌, sym}
use native.Mathlib.Omega.{arith}
use Rattle.layout.specs.Layout.{config}
use Rattle.charge.specs.Charge.{charged_of}
use Rattle.charge.proofs.Laws.{charged_none, charged_step}
use Rattle.charge.proofs.charged.Goals as goal

pub loop-k-init : goal.loop-k-init
loop-k-init c =
    let args = c.args in
    (omega arith, sym (charged_none (config args.layout) args.mem.now args.frame.0 args.index))

pub loop-k-preserved : goal.loop-k-preserved
loop-k-preserved c =
    let visit = c.visit-best in
    let loop = c.loop-k in
    let args = c.args in
    (omega arith, rw (charged_step (config args.layout) args.mem.now args.frame.0 args.index loop.k, ← loop.invariant.1) visit.ensures)

pub returns : goal.returns
unfolding charged_of
returns c =
    let loop = c.loop-k in
    let args = c.args in
    let end : loop.k ≡ args.fresh = omega arith in
    rw (← end) loop.invariant.1
