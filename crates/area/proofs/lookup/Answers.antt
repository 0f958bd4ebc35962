-- The loop goes down the path: the lookup of what is left, from the entry at hand with the words read, is the whole lookup.
use Prim.Native.Nat.{◌-◌}
use native.Mathlib.Omega.{arith}
use mathlib.Core.Path.{◌≡◌, sym, ◌∙◌}
use Rattle.pool.proofs.Laws.{follow_small}
use Rattle.area.proofs.Laws.{look_step, look_last}
use Rattle.entry.proofs.Entries.{index_fits}
use Rattle.area.proofs.lookup.Goals as goal

pub entry_at-at-requires : goal.entry_at-at-requires
entry_at-at-requires c = let args = c.args in
    let loop = c.loop-left in
    let follow = c.follow in
    let index_at = c.index_at in
    let good = rw (← follow.ensures, c.in-To.is) at (follow_small args.base args.size loop.at) in
    let i = rw (← index_at.ensures) at (index_fits (loop.left - 1) args.path) in
    (good, i)

pub loop-left-preserved : goal.loop-left-preserved
loop-left-preserved c = let args = c.args in
    let loop = c.loop-left in
    let loop-test = c.loop-left-test in
    let follow = c.follow in
    let index_at = c.index_at in
    let entry_at = c.entry_at-at in
    (omega (arith, loop.invariant.0), omega (arith, loop.invariant.1), rw (entry_at.ensures, index_at.ensures) (rw (← follow.ensures, c.in-To.is) at (sym (look_step args.base args.size args.mem.now loop.at args.path loop.left loop.n loop-test.true) ∙ loop.invariant.2)))

pub returns-in-Not : goal.returns-in-Not
returns-in-Not c = let loop = c.loop-left in
    let loop-test = c.loop-left-test in
    let follow = c.follow in
    rw (← loop.invariant.2, look_step _ _ _ _ _ _ _ loop-test.true, ← follow.ensures, c.in-Not.is)

pub returns-in-Damaged : goal.returns-in-Damaged
returns-in-Damaged c = let loop = c.loop-left in
    let loop-test = c.loop-left-test in
    let follow = c.follow in
    rw (← loop.invariant.2, look_step _ _ _ _ _ _ _ loop-test.true, ← follow.ensures, c.in-Damaged.is)

pub returns : goal.returns
returns c =
    let z : c.loop-left.left ≡ 0 = omega arith in
    rw (← c.loop-left.invariant.2, z, look_last)
