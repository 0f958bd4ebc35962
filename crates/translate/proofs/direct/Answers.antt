-- At depth 0 the held path leads to the page, and nothing is read.
use mathlib.Core.Path.{sym}
use Rattle.layout.specs.Layout.{config}
use Rattle.walk.specs.Memory.{trail_from}
use Rattle.translate.specs.Translate.{direct_of}
use Rattle.translate.proofs.Bits.{direct_page}
use Rattle.translate.proofs.direct.Goals as goal

pub returns-then-request-eq0 : goal.returns-then-request-eq0
returns-then-request-eq0 c =
    let args = c.args in
    sym (direct_page (config args.space.layout) args.space.top args.mem.now args.request.store args.request.address.0 args.request.depth args.page.0 args.writable c.if-request-eq0.true)

pub returns : goal.returns
unfolding direct_of trail_from
returns c =
    let direct-trail = c.direct_trail-trail in
    rw direct-trail.ensures
