-- The loop climbs from table to table: what is left of the release gives the whole; a table climbed to lies in the area.
use native.Mathlib.Omega.{arith}
use mathlib.Core.Path.{◌≡◌, refl, ◌∙◌}
use Rattle.prune.proofs.Laws.{detach_good, release_step, release_none}
use Rattle.prune.proofs.release.Goals as goal

pub loop-links-init : goal.loop-links-init
loop-links-init c = (omega arith, refl, refl)

pub returns-in-Not : goal.returns-in-Not
returns-in-Not c = let args = c.args in
    let loop = c.loop-links in
    let detach = c.detach-went in
    rw (release_step args.area args.stays loop.cur loop.mem loop.links loop.t (omega arith), ← detach.ensures, c.in-Not.is) at loop.invariant.2

pub returns-in-Damaged : goal.returns-in-Damaged
returns-in-Damaged c = let args = c.args in
    let loop = c.loop-links in
    let detach = c.detach-went in
    rw (release_step args.area args.stays loop.cur loop.mem loop.links loop.t (omega arith), ← detach.ensures, c.in-Damaged.is) at loop.invariant.2

pub loop-links-preserved : goal.loop-links-preserved
loop-links-preserved c = let args = c.args in
    let loop = c.loop-links in
    let detach = c.detach-went in
    let good = rw (← detach.ensures, c.in-To.is) at (detach_good args.area loop.cur loop.mem loop.t) in
    (omega (arith, good.1), detach.auto.mem ∙ loop.invariant.1, rw (release_step args.area args.stays loop.cur loop.mem loop.links loop.t (omega arith), ← detach.ensures, c.in-To.is) at loop.invariant.2)

pub returns : goal.returns
returns c = let loop = c.loop-links in
    let release-top = c.release_top in
    let z : loop.links ≡ 0 = omega arith in
    rw (← loop.invariant.2, z, release_none) release-top.ensures
