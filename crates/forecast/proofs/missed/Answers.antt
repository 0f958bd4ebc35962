-- A walk comes to a frame, tested, or a span after 35 words at most; the rest is what the calls promise.
use mathlib.Core.Path.{◌≡◌, sym, ap}
use native.Mathlib.Omega.{arith}
use mathlib.Core.Bool.{false, not}
use borrow.Author.Tests.{le-leb, lt-leb}
use Rattle.spec.specs.Plain.{is_span, walk}
use Rattle.layout.specs.Layout.{config}
use Rattle.walk.specs.Memory.{walked_of, root_trail}
use Rattle.walk.specs.declared.Trail.{Trail}
use Rattle.translate.specs.Translate.{path_indexes}
use Rattle.forecast.specs.Forecast.{missed_of}
use Rattle.spec_laws.proofs.Counts.{one_most}
use Rattle.forecast.proofs.Fits.{served_most, served_exits, path_most}
use Rattle.forecast.proofs.missed.Goals.{After-walk_root-trail}
use Rattle.forecast.proofs.missed.Goals as goal

-- where the walk of the shadow part came to
came : (c : After-walk_root-trail) →
    let args = c.args in
    walked_of (config args.space.layout) args.space.top args.mem.now 0 (walk (config args.space.layout) false args.root.0 (path_indexes (config args.space.layout) args.depth args.address.0))
    ≡ c.walk_root-trail.result.walked
unfolding root_trail
came c =
    let path-of = c.path_of-path in
    rw path-of.ensures at (sym (ap (λ (t : Trail). t.walked) c.walk_root-trail.ensures))

pub returns-then-page-space : goal.returns-then-page-space
unfolding missed_of is_span
returns-then-page-space c =
    rw (came (goal.at.returns-then-page-space c).After-walk_root-trail, c.in-Arrived.is, le-leb _ _ c.if-page-space.true)

pub held_after-after-requires : goal.held_after-after-requires
held_after-after-requires c =
    let pre = c.requires in
    (pre.0, omega (arith, pre.2.1), pre.2.1.0, pre.1)

pub serve-t-requires : goal.serve-t-requires
serve-t-requires c =
    let pre = c.requires in
    let knows = c.knows-known in
    let exit-unless = c.exit_unless-exits in
    let if1 = c.if-page-space in
    (pre.0, pre.1, omega (arith, if1.false, pre.0), omega (arith, exit-unless.ensures, one_most (not knows.result)))

pub pay-requires : goal.pay-requires
pay-requires c =
    let pre = c.requires in
    let knows = c.knows-known in
    let exit-unless = c.exit_unless-exits in
    let args = c.args in
    let k = config args.space.layout in (
      (omega (arith, pre.2.0), omega (arith, pre.2.0)),
      rw c.serve-t.ensures (served_exits k args.space.top args.mem.now pre.0.0 args.held false args.address.0 args.depth _ _ exit-unless.result (omega (arith, exit-unless.ensures, one_most (not knows.result)))),
      rw c.serve-t.ensures (served_most k args.space.top args.mem.now pre.0.0 args.held false args.address.0 args.depth _ _ exit-unless.result pre.1),
    )

pub added_to-requires : goal.added_to-requires
added_to-requires c =
    let pre = c.requires in
    let knows = c.knows-known in
    let exit-unless = c.exit_unless-exits in
    let args = c.args in
    let at = rw (came (goal.at.added_to-requires c).After-walk_root-trail, c.in-Faulted.is) at (path_most (config args.space.layout) args.space.top args.mem.now pre.0.0 false args.root.0 args.address.0 args.depth pre.1) in
    ((omega (arith, pre.2.0), omega (arith, pre.2.0)), at, omega (arith, exit-unless.ensures, one_most (not knows.result)))

pub returns-else-page-space : goal.returns-else-page-space
unfolding missed_of is_span
returns-else-page-space c =
    let key_of = c.key_of in
    let knows = c.knows-known in
    let exit-unless = c.exit_unless-exits in
    let if1 = c.if-page-space in
    let held_after = c.held_after-after in
    let serve = c.serve-t in
    rw (← key_of.ensures, ← knows.ensures, came (goal.at.returns-else-page-space c).After-walk_root-trail, c.in-Arrived.is, lt-leb _ _ if1.false, ← held_after.ensures, ← exit-unless.ensures, c.pay.ensures, serve.ensures)

pub returns-in-Faulted : goal.returns-in-Faulted
unfolding missed_of
returns-in-Faulted c =
    let key_of = c.key_of in
    let knows = c.knows-known in
    let exit-unless = c.exit_unless-exits in
    rw (← key_of.ensures, ← knows.ensures, came (goal.at.returns-in-Faulted c).After-walk_root-trail, c.in-Faulted.is, ← exit-unless.ensures, c.added_to.ensures)

pub returns-in-Damaged : goal.returns-in-Damaged
unfolding missed_of
returns-in-Damaged c = rw (came (goal.at.returns-in-Damaged c).After-walk_root-trail, c.in-Damaged.is)
