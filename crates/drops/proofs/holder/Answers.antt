-- The loop goes down the prefix: the holder of what is left, from the entry at hand, is the holder of the whole.
use mathlib.Core.Path.{◌≡◌, refl}
use native.Mathlib.Omega.{arith}
use Rattle.layout.specs.Layout.{config}
use Rattle.entry.proofs.Entries.{index_fits}
use Rattle.drops.proofs.Laws.{named_small, holder_step, holder_none}
use Rattle.drops.proofs.holder.Goals as goal

pub loop-left-init : goal.loop-left-init
loop-left-init c = (omega arith, refl)

pub entry_at-at-requires : goal.entry_at-at-requires
entry_at-at-requires c =
    let args = c.args in
    let loop = c.loop-left in
    let table-named = c.table_named in
    let index_at = c.index_at in
    let g = rw (← table-named.ensures, c.in-To.is) at (named_small (config args.layout) loop.at) in
    let i = rw (← index_at.ensures) at (index_fits loop.left args.path) in
    (g, i)

pub returns-in-Not : goal.returns-in-Not
returns-in-Not c =
    let args = c.args in
    let loop = c.loop-left in
    let loop-test = c.loop-left-test in
    let table-named = c.table_named in
    rw (holder_step (config args.layout) args.mem.now loop.at args.path loop.left loop-test.true, ← table-named.ensures, c.in-Not.is) at loop.invariant.1

pub returns-in-Damaged : goal.returns-in-Damaged
returns-in-Damaged c =
    let args = c.args in
    let loop = c.loop-left in
    let loop-test = c.loop-left-test in
    let table-named = c.table_named in
    rw (holder_step (config args.layout) args.mem.now loop.at args.path loop.left loop-test.true, ← table-named.ensures, c.in-Damaged.is) at loop.invariant.1

pub loop-left-preserved : goal.loop-left-preserved
loop-left-preserved c =
    let args = c.args in
    let loop = c.loop-left in
    let loop-test = c.loop-left-test in
    let table-named = c.table_named in
    let index_at = c.index_at in
    let entry_at = c.entry_at-at in
    (omega (arith, loop.invariant.0), rw (entry_at.ensures, index_at.ensures) (rw (holder_step (config args.layout) args.mem.now loop.at args.path loop.left loop-test.true, ← table-named.ensures, c.in-To.is) at loop.invariant.1))

pub returns : goal.returns
returns c = let z : c.loop-left.left ≡ 0 = omega arith in rw (z, holder_none, ← c.table_named-2.ensures) at c.loop-left.invariant.1
