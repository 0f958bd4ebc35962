-- A lookup reads at most a word for each index of the path, so k - n, the tables that lack, does not go below 0.
use native.Mathlib.Omega.{arith}
use Rattle.spec.specs.Entry.{indexes}
use Rattle.area.specs.Tree.{room_of}
use Rattle.area.proofs.Laws.{LookGood, look_good}
use Rattle.spec_laws.proofs.Indexes.{indexes_length}
use Rattle.area.proofs.room.Goals.{After-lookup}
use Rattle.area.proofs.room.Goals as goal

counted : (c : After-lookup) → LookGood c.args.steps c.lookup.result
counted c =
    let args = c.args in
    let lookup = c.lookup in
    let l = indexes_length args.steps args.path in rw (← lookup.ensures) at (look_good args.area.base args.area.size args.mem.now args.pool.top (indexes args.steps args.path) 0 args.steps (omega arith))

pub overflow_sub-steps : goal.overflow_sub-steps
overflow_sub-steps c = let n = rw c.in-Seen.is at (counted (goal.at.overflow_sub-steps c).After-lookup) in omega arith

pub overflow_sub-result : goal.overflow_sub-result
overflow_sub-result c = let n = rw c.in-Seen.is at (counted (goal.at.overflow_sub-result c).After-lookup) in omega arith

pub returns-then-fits : goal.returns-then-fits
unfolding room_of
returns-then-fits c = let lookup = c.lookup in
    let fits2 = c.fits in
    let if1 = c.if-fits in
    rw (indexes_length, ← lookup.ensures, c.in-Seen.is, ← fits2.ensures, if1.true)

pub returns-else-fits : goal.returns-else-fits
unfolding room_of
returns-else-fits c = let lookup = c.lookup in
    let fits2 = c.fits in
    let if1 = c.if-fits in
    rw (indexes_length, ← lookup.ensures, c.in-Seen.is, ← fits2.ensures, if1.false)

pub returns-in-Damaged : goal.returns-in-Damaged
unfolding room_of
returns-in-Damaged c = let lookup = c.lookup in
    rw (← lookup.ensures, c.in-Damaged.is)
