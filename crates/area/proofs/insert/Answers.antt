-- A path of k indexes is index k - 1 and the rest, as k is not 0; then the room that is found decides.
use Prim.Native.Nat.{◌-◌}
use native.Mathlib.Omega.{arith}
use mathlib.Core.Path.{◌≡◌, ap, ◌∙◌}
use mathlib.Core.List.{◌∷◌}
use Rattle.spec.specs.Entry.{index, indexes}
use Rattle.area.specs.Tree.{room_of, insert_of}
use Rattle.spec_laws.proofs.Indexes.{indexes_step}
use Rattle.area.proofs.insert.Goals.{After-room}
use Rattle.area.proofs.insert.Goals as goal

seen : (c : After-room) →
    let a = c.args in
    c.room.result ≡ room_of a.area a.pool a.mem.now (index (a.steps - 1) a.path ∷ indexes (a.steps - 1) a.path)
seen c =
    let a = c.args in
    c.room.ensures ∙ ap (room_of a.area a.pool a.mem.now) (indexes_step a.steps a.path (omega arith))

pub returns-in-To : goal.returns-in-To
unfolding insert_of
returns-in-To c = let args = c.args in
    let pre = c.requires in
    let place = c.place in
    rw (indexes_step args.steps args.path (omega (arith, pre.1)), ← seen (goal.at.returns-in-To c).After-room, c.in-To.is) place.ensures

pub returns-in-Not : goal.returns-in-Not
unfolding insert_of
returns-in-Not c = let args = c.args in
    rw (indexes_step args.steps args.path (omega arith), ← seen (goal.at.returns-in-Not c).After-room, c.in-Not.is)

pub returns-in-Damaged : goal.returns-in-Damaged
unfolding insert_of
returns-in-Damaged c = let args = c.args in
    rw (indexes_step args.steps args.path (omega arith), ← seen (goal.at.returns-in-Damaged c).After-room, c.in-Damaged.is)
