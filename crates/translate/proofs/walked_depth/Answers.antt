-- The walk's end says it: a place beyond the frames is a span. There is no walk to a depth above all levels.
use mathlib.Core.Path.{◌≡◌, sym, ap}
use mathlib.Core.Bool.{false}
use borrow.Author.Tests.{le-leb, lt-leb}
use Rattle.spec.specs.Plain.{is_span, walk}
use Rattle.layout.specs.Layout.{config}
use Rattle.walk.specs.declared.Trail.{Trail}
use Rattle.walk.specs.Memory.{walked_of, root_trail}
use Rattle.translate.specs.Translate.{path_indexes, walked_depth}
use Rattle.translate.proofs.Fits.{walked_above}
use Rattle.translate.proofs.walked_depth.Goals.{After-walk_root-trail}
use Rattle.translate.proofs.walked_depth.Goals as goal

-- where the walk came to
came : (c : After-walk_root-trail) →
    let args = c.args in
    let k = config args.space.layout in
    walked_of k args.space.top args.mem.now 0 (walk k false args.root.0 (path_indexes k args.depth args.address.0)) ≡ c.walk_root-trail.result.walked
unfolding root_trail
came c =
    let path-of = c.path_of in
    rw path-of.ensures at (sym (ap (λ (t : Trail). t.walked) c.walk_root-trail.ensures))

pub returns-then-space-depth : goal.returns-then-space-depth
returns-then-space-depth c =
    let args = c.args in
    sym (walked_above (config args.space.layout) args.space.top args.mem.now args.root.0 args.address.0 args.depth c.if-space-depth.true)

pub returns-then-page-space : goal.returns-then-page-space
unfolding walked_depth is_span
returns-then-page-space c =
    rw (came (goal.at.returns-then-page-space c).After-walk_root-trail, c.in-Arrived.is, le-leb _ _ c.if-page-space.true)

pub returns-else-page-space : goal.returns-else-page-space
unfolding walked_depth is_span
returns-else-page-space c =
    rw (came (goal.at.returns-else-page-space c).After-walk_root-trail, c.in-Arrived.is, lt-leb _ _ c.if-page-space.false)

pub returns-in-Faulted : goal.returns-in-Faulted
unfolding walked_depth
returns-in-Faulted c =
    rw (came (goal.at.returns-in-Faulted c).After-walk_root-trail, c.in-Faulted.is)

pub returns-in-Damaged : goal.returns-in-Damaged
unfolding walked_depth
returns-in-Damaged c = rw (came (goal.at.returns-in-Damaged c).After-walk_root-trail, c.in-Damaged.is)
