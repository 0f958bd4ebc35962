-- The loop's invariant: what is left of the walk, with the tables noted so far, is handed out as the whole walk's trail.
use mathlib.Core.Path.{◌≡◌, refl, sym, ◌∙◌}
use Prim.Native.Nat.{◌+◌, ◌-◌}
use native.Mathlib.Omega.{arith}
use lib.ListN.{set}
use Rattle.spec.specs.Entry.{indexes}
use Rattle.layout.specs.Layout.{config}
use Rattle.entry.proofs.Entries.{index_fits}
use Rattle.walk.specs.Memory.{trail_from, trail_of}
use Rattle.walk.proofs.Laws.{Few, StepFits, turn_fits, near_room}
use Rattle.walk.proofs.Trails.{then_trail, trail_step, trail_end}
use borrow.Author.Rules.{rules}
use Rattle.walk.proofs.walk_tables.Goals.{After-descend}
use Rattle.walk.proofs.walk_tables.Goals as goal

-- the walk's trail, by where the turn came to
turned : (c : After-descend) →
    let args = c.args in
    let loop = c.loop-left in
    then_trail c.descend.result (set loop.tables loop.depth loop.at) (λ u v j. trail_from (config args.space.layout) args.space.top args.mem.now (set loop.tables loop.depth loop.at) (loop.depth + 1) j args.store (args.below + (loop.left - 1)) u v (indexes (loop.left - 1) args.path))
    ≡ trail_of (config args.space.layout) args.space.top args.mem.now args.read args.store (args.below + args.steps) args.table.0 args.right (indexes args.steps args.path)
turned c =
    let args = c.args in
    let loop = c.loop-left in
    let loop-test = c.loop-left-test in
    let index_of = c.index_of-i in
    let descend = c.descend in
    rw (descend.ensures, index_of.ensures, ← trail_step (config args.space.layout) args.space.top args.mem.now loop.tables loop.depth loop.n args.store args.below loop.left loop.at args.path loop.w loop-test.true) loop.invariant.4

-- where the turn arrived
arrived : (c : After-descend) → StepFits (config c.args.space.layout) (Few (c.args.below + (c.loop-left.left - 1) + 1) c.index_of-i.result) c.loop-left.n c.loop-left.at c.descend.result
arrived c =
    let args = c.args in
    let loop = c.loop-left in
    let descend = c.descend in
    rw descend.ensures (turn_fits (config args.space.layout) args.space.top args.mem.now loop.n args.store _ loop.at _ loop.w)

pub loop-left-init : goal.loop-left-init
loop-left-init c = (search rules, search rules, search rules, search rules, refl)

pub descend-requires : goal.descend-requires
descend-requires c =
    let pre = c.requires in
    let args = c.args in
    let loop = c.loop-left in
    let index_of = c.index_of-i in
    (pre.0, omega (arith, loop.invariant.2, pre), omega (arith, loop.invariant.0, pre), omega (arith, loop.invariant.0, loop.invariant.1, pre), rw index_of.ensures (index_fits (loop.left - 1) args.path))

pub loop-left-preserved : goal.loop-left-preserved
loop-left-preserved c =
    let pre = c.requires in
    let loop = c.loop-left in
    let index_of = c.index_of-i in
    let told = c.in-Arrived.is in
    let fits = rw told at (arrived (goal.at.loop-left-preserved c).After-descend) in
    let args = c.args in
    (omega arith, near_room (config args.space.layout) loop.at _ loop.left args.steps pre.0.3 (omega arith) loop.invariant.0 loop.invariant.1 (fits.0 (omega (arith, loop.invariant.0, pre), rw index_of.ensures (index_fits (loop.left - 1) args.path))), omega (arith, fits.2, pre), omega arith, rw told at (turned (goal.at.loop-left-preserved c).After-descend))

pub returns-in-Faulted : goal.returns-in-Faulted
returns-in-Faulted c = rw c.in-Faulted.is at (turned (goal.at.returns-in-Faulted c).After-descend)

pub returns-in-Damaged : goal.returns-in-Damaged
returns-in-Damaged c = rw c.in-Damaged.is at (turned (goal.at.returns-in-Damaged c).After-descend)

pub returns : goal.returns
returns c =
    let args = c.args in
    let loop = c.loop-left in
    let none : loop.left ≡ 0 = omega arith in
    sym (trail_end (config args.space.layout) args.space.top args.mem.now loop.tables loop.depth loop.n args.store args.below loop.left loop.at args.path loop.w none) ∙ loop.invariant.4
