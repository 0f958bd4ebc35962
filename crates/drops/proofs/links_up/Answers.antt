-- The loop climbs the links: what is left of the climb ends as the whole does; a parent is below the frame limit.
use mathlib.Core.Path.{◌≡◌, refl}
use native.Mathlib.Omega.{arith}
use Rattle.layout.specs.Layout.{config}
use Rattle.drops.proofs.Laws.{above_small, up_step, up_none}
use Rattle.drops.proofs.links_up.Goals as goal

pub loop-links-init : goal.loop-links-init
loop-links-init c = (c.requires.1, refl)

pub returns-in-Met : goal.returns-in-Met
returns-in-Met c =
    let args = c.args in
    let loop = c.loop-links in
    let Link-up = c.link_up in
    rw (up_step (config args.layout) args.cut args.mem.now loop.links loop.t (omega arith), ← Link-up.ensures, c.in-Met.is) at loop.invariant.1

pub returns-in-Damaged : goal.returns-in-Damaged
returns-in-Damaged c =
    let args = c.args in
    let loop = c.loop-links in
    let Link-up = c.link_up in
    rw (up_step (config args.layout) args.cut args.mem.now loop.links loop.t (omega arith), ← Link-up.ensures, c.in-Damaged.is) at loop.invariant.1

pub loop-links-preserved : goal.loop-links-preserved
loop-links-preserved c =
    let args = c.args in
    let loop = c.loop-links in
    let Link-up = c.link_up in
    let g = rw (← Link-up.ensures, c.in-To.is) at (above_small (config args.layout) args.cut args.mem.now loop.t) in
    (omega (arith, g), rw (up_step (config args.layout) args.cut args.mem.now loop.links loop.t (omega arith), ← Link-up.ensures, c.in-To.is) at loop.invariant.1)

pub returns : goal.returns
returns c = let z : c.loop-links.links ≡ 0 = omega arith in rw (z, up_none) at c.loop-links.invariant.1
