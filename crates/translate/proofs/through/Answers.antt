-- By whether a bit lacks.
use mathlib.Core.Path.{sym, ◌∙◌}
use native.Mathlib.Omega.{arith}
use Rattle.layout.specs.Layout.{config}
use Rattle.translate.proofs.Bits.{trail_came, trail_lacking, through_by}
use Rattle.translate.proofs.through.Goals as goal

pub lacking-requires : goal.lacking-requires
lacking-requires c =
    let pre = c.requires in
    (pre.0, omega (arith, pre.0.0, pre.1))

pub returns-then-not-lacking : goal.returns-then-not-lacking
returns-then-not-lacking c =
    let as_walked = c.as_walked in
    let if1 = c.if-not-lacking in
    let lacking = c.lacking in
    let direct-trail = c.direct_trail-trail in
    let args = c.args in
    let pre = c.requires in
    rw as_walked.ensures (sym (rw (if1.true) at (through_by (config args.space.layout) args.space.top args.mem.now args.held args.root.0 args.request.store args.request.address.0 args.request.depth args.page.0 args.writable direct-trail.result.walked lacking.result (trail_came (config args.space.layout) args.space.top args.mem.now args.request.store args.request.address.0 args.request.depth args.page.0 args.writable direct-trail.result direct-trail.ensures) (lacking.ensures ∙ trail_lacking (config args.space.layout) args.space.top args.mem.now args.request.store args.request.address.0 args.request.depth args.page.0 args.writable direct-trail.result direct-trail.ensures (omega (arith, pre.0.0, pre.1))))))

pub returns : goal.returns
returns c =
    let judged = c.judged in
    let if1 = c.if-not-lacking in
    let lacking = c.lacking in
    let direct-trail = c.direct_trail-trail in
    let args = c.args in
    let pre = c.requires in
    rw judged.ensures (sym (rw (if1.false) at (through_by (config args.space.layout) args.space.top args.mem.now args.held args.root.0 args.request.store args.request.address.0 args.request.depth args.page.0 args.writable direct-trail.result.walked lacking.result (trail_came (config args.space.layout) args.space.top args.mem.now args.request.store args.request.address.0 args.request.depth args.page.0 args.writable direct-trail.result direct-trail.ensures) (lacking.ensures ∙ trail_lacking (config args.space.layout) args.space.top args.mem.now args.request.store args.request.address.0 args.request.depth args.page.0 args.writable direct-trail.result direct-trail.ensures (omega (arith, pre.0.0, pre.1))))))
