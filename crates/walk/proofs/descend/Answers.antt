-- By `turn_led` the level's end is what follows from where it led; `led_fits` has the ranges.
use mathlib.Core.Path.{◌≡◌}
use native.Mathlib.Omega.{arith}
use Rattle.layout.specs.Layout.{config}
use Rattle.walk.specs.Memory.{walked_of}
use Rattle.spec.specs.Plain.{turn}
use Rattle.walk.proofs.Laws.{followed, turn_led, LedFits, led_fits}
use Rattle.walk.proofs.descend.Goals.{After-lead}
use Rattle.walk.proofs.descend.Goals as goal

fits : (c : After-lead) → LedFits c.args.read c.lead.result
fits c =
    let args = c.args in
    let pre = c.requires in
    rw c.lead.ensures (led_fits (config args.space.layout) args.mem.now args.read args.level args.table.0 args.index args.right pre.2 pre.4 pre.3)

-- the level's end, by where it led
ends : (c : After-lead) →
    let args = c.args in
    followed (config args.space.layout) args.space.top args.mem.now args.store args.level c.lead.result
    ≡ walked_of (config args.space.layout) args.space.top args.mem.now args.read (turn (config args.space.layout) args.store args.level args.table.0 args.index args.right)
ends c =
    let args = c.args in
    rw (c.lead.ensures, turn_led (config args.space.layout) args.space.top args.mem.now args.read args.store args.level args.table.0 args.index args.right)

pub to_frame-requires : goal.to_frame-requires
to_frame-requires c =
    let pre = c.requires in
    let good = rw c.in-To.is at (fits (goal.at.to_frame-requires c).After-lead) in
    (pre.0, omega (arith, good, pre.1))

pub into_span-requires : goal.into_span-requires
into_span-requires c =
    let pre = c.requires in
    let good = rw c.in-Into.is at (fits (goal.at.into_span-requires c).After-lead) in
    (pre.0, good.1)

pub returns-in-To : goal.returns-in-To
returns-in-To c = rw (← ends (goal.at.returns-in-To c).After-lead, c.in-To.is) c.to_frame.ensures

pub returns-in-Into : goal.returns-in-Into
returns-in-Into c = rw (← ends (goal.at.returns-in-Into c).After-lead, c.in-Into.is) c.into_span.ensures

pub returns-in-Stopped : goal.returns-in-Stopped
returns-in-Stopped c = rw c.in-Stopped.is at (ends (goal.at.returns-in-Stopped c).After-lead)
