-- The loop goes down the path: the table that ends what is left, from the entry at hand, is the one that ends the whole.
use native.Mathlib.Omega.{arith}
use mathlib.Core.Path.{◌≡◌, sym, ◌∙◌}
use Rattle.pool.proofs.Laws.{follow_small}
use Rattle.prune.proofs.Laws.{last_step, last_none}
use Rattle.entry.proofs.Entries.{index_fits}
use Rattle.prune.proofs.last_table.Goals as goal

pub entry_at-at-requires : goal.entry_at-at-requires
entry_at-at-requires c = let args = c.args in
    let loop = c.loop-left in
    let follow = c.follow in
    let index_at = c.index_at in
    let good = rw (← follow.ensures, c.in-To.is) at (follow_small args.base args.size loop.at) in
    let i = rw (← index_at.ensures) at (index_fits loop.left args.path) in
    (good, i)

pub returns-in-Not : goal.returns-in-Not
returns-in-Not c = let loop = c.loop-left in
    let loop-test = c.loop-left-test in
    let follow = c.follow in
    rw (← loop.invariant.1, last_step _ _ _ _ _ _ loop-test.true, ← follow.ensures, c.in-Not.is)

pub returns-in-Damaged : goal.returns-in-Damaged
returns-in-Damaged c = let loop = c.loop-left in
    let loop-test = c.loop-left-test in
    let follow = c.follow in
    rw (← loop.invariant.1, last_step _ _ _ _ _ _ loop-test.true, ← follow.ensures, c.in-Damaged.is)

pub loop-left-preserved : goal.loop-left-preserved
loop-left-preserved c = let args = c.args in
    let loop = c.loop-left in
    let loop-test = c.loop-left-test in
    let follow = c.follow in
    let index_at = c.index_at in
    let entry_at = c.entry_at-at in
    (omega (arith, loop.invariant.0), rw (entry_at.ensures, index_at.ensures) (rw (← follow.ensures, c.in-To.is) at (sym (last_step args.base args.size args.mem.now loop.at args.path loop.left loop-test.true) ∙ loop.invariant.1)))

pub returns : goal.returns
returns c =
    let z : c.loop-left.left ≡ 0 = omega arith in
    rw (← c.loop-left.invariant.1, z, last_none) c.follow-2.ensures
