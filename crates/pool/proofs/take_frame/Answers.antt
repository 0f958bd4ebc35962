-- By room first, then by where the list of freed frames leads; a frame it leads to lies in the area, so below the limit.
use native.Mathlib.Omega.{arith}
use borrow.Author.Tests.{lt-ltb, le-ltb}
use Rattle.pool.specs.Pool.{take_of}
use Rattle.pool.proofs.Laws.{follow_good}
use Rattle.pool.proofs.take_frame.Goals as goal

pub take_freed-requires : goal.take_freed-requires
take_freed-requires c = let args = c.args in
    let follow = c.follow in
    let good = rw (← follow.ensures, c.in-To.is) at (follow_good args.area.base args.area.size args.pool.free) in
    (omega arith, omega arith)

pub returns-in-To : goal.returns-in-To
unfolding take_of
returns-in-To c = let if1 = c.if-pool-area in
    let follow = c.follow in
    let take-freed = c.take_freed in
    rw (lt-ltb _ _ if1.true, ← follow.ensures, c.in-To.is) take-freed.ensures

pub returns-in-Not : goal.returns-in-Not
unfolding take_of
returns-in-Not c = let if1 = c.if-pool-area in
    let follow = c.follow in
    let take-fresh = c.take_fresh in
    rw (lt-ltb _ _ if1.true, ← follow.ensures, c.in-Not.is) take-fresh.ensures

pub returns-in-Damaged : goal.returns-in-Damaged
unfolding take_of
returns-in-Damaged c = rw (lt-ltb _ _ c.if-pool-area.true, ← c.follow.ensures, c.in-Damaged.is)

pub returns-else-pool-area : goal.returns-else-pool-area
unfolding take_of
returns-else-pool-area c = rw (le-ltb _ _ c.if-pool-area.false)
