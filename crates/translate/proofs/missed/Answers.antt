-- The walk of the shadow part hands out the places that a fill notes; on from where it came to.
use mathlib.Core.Path.{◌≡◌, sym, ap}
use native.Mathlib.Omega.{arith}
use borrow.Author.Tests.{le-leb, lt-leb}
use Rattle.spec.specs.Plain.{is_span, walk}
use Rattle.layout.specs.Layout.{config}
use Rattle.walk.specs.declared.Trail.{Trail}
use Rattle.walk.specs.Memory.{walked_of, root_trail}
use Rattle.translate.specs.Translate.{path_indexes, missed_of}
use Rattle.translate.proofs.Fits.{shadow_most}
use Rattle.translate.proofs.missed.Goals as goal

pub returns-then-page-space : goal.returns-then-page-space
unfolding missed_of is_span
returns-then-page-space c =
    let args = c.args in
    let damaged = c.damaged in
    let if1 = c.if-page-space in
    let walk-root = c.walk_root-trail in
    let path-of = c.path_of-path in
    rw (← path-of.ensures, ← walk-root.ensures, c.in-Arrived.is, le-leb args.space.layout.frames _ if1.true, damaged.ensures)

pub arrived-requires : goal.arrived-requires
unfolding root_trail
arrived-requires c =
    let args = c.args in
    let pre = c.requires in
    let if1 = c.if-page-space in
    let walk-root = c.walk_root-trail in
    let path-of = c.path_of-path in
    let came : walked_of (config args.space.layout) args.space.top args.mem.now 0 (walk (config args.space.layout) args.request.store args.root.0 (path_indexes (config args.space.layout) args.request.depth args.request.address.0)) ≡ walk-root.result.walked = sym (ap (λ (t : Trail). t.walked) (rw path-of.ensures at walk-root.ensures)) in
    let most = rw (came, c.in-Arrived.is) at (shadow_most (config args.space.layout) args.space.top args.mem.now args.request.store args.root.0 args.request.address.0 args.request.depth pre.0.0) in
    (pre.0, pre.1, omega (arith, if1.false, pre.0), omega (arith, most))

pub returns-else-page-space : goal.returns-else-page-space
unfolding missed_of is_span
returns-else-page-space c =
    let args = c.args in
    let arrived = c.arrived in
    let if1 = c.if-page-space in
    let walk-root = c.walk_root-trail in
    let path-of = c.path_of-path in
    rw (← path-of.ensures, ← walk-root.ensures, c.in-Arrived.is, lt-leb args.space.layout.frames _ if1.false) arrived.ensures

pub returns-in-Faulted : goal.returns-in-Faulted
unfolding missed_of
returns-in-Faulted c =
    let walk-root = c.walk_root-trail in
    let path-of = c.path_of-path in
    rw (← path-of.ensures, ← walk-root.ensures, c.in-Faulted.is)

pub returns-in-Damaged : goal.returns-in-Damaged
unfolding missed_of
returns-in-Damaged c =
    let damaged2 = c.damaged-in-Damaged in
    let walk-root = c.walk_root-trail in
    let path-of = c.path_of-path in
    rw (← path-of.ensures, ← walk-root.ensures, c.in-Damaged.is, damaged2.ensures)
