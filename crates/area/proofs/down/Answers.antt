-- The loop goes down the path: what is left of the descent, from table t with the pool so far, gives what the whole gives.
use Prim.Native.Nat.{◌+◌, ◌-◌}
use native.Mathlib.Omega.{arith}
use mathlib.Core.Path.{◌≡◌, sym, ◌∙◌}
use Rattle.spec.specs.Entry.{index, indexes}
use Rattle.area.specs.Tree.{onward, down_of}
use Rattle.pool.proofs.Laws.{AreaGood}
use Rattle.area.proofs.Laws.{descend_good, down_step, down_last}
use Rattle.entry.proofs.Entries.{index_fits}
use Rattle.words.specs.After.{yields}
use Rattle.area.proofs.down.Goals.{After-descend-went}
use Rattle.area.proofs.down.Goals as goal

turn : (c : After-descend-went) →
    let a = c.args in
    let l = c.loop-left in
    onward (yields c.descend-went.result c.descend-went.new.mem) (λ q n h. down_of a.area a.guests.now q n (l.depth + 1) h (index (l.left - 1) a.path) (indexes (l.left - 1) a.path) a.entry)
    ≡ down_of a.area a.guests.now a.pool a.mem.now 0 a.frame (index (a.steps - 1) a.path) (indexes (a.steps - 1) a.path) a.entry
turn c =
    let args = c.args in
    let loop = c.loop-left in
    let loop-test = c.loop-left-test in
    let word_at = c.word_at-guest in
    let index_at = c.index_at in
    let descend = c.descend-went in
    let a = args in
    let l = loop in
    rw (← index_at.ensures, ← word_at.ensures, ← descend.ensures) at
    (sym (down_step a.area a.guests.now l.cur l.mem l.depth l.t a.path l.left a.entry loop-test.true) ∙ l.invariant.3)

way-known : (c : After-descend-went) → AreaGood c.args.area c.descend-went.result.way
way-known c =
    let args = c.args in
    let loop = c.loop-left in
    let word_at = c.word_at-guest in
    let index_at = c.index_at in
    let descend = c.descend-went in
    let a = args in
    let l = loop in
    rw (← descend.ensures) at (descend_good a.area l.cur l.mem word_at.result (a.area.levels - (l.depth + 1)) l.t index_at.result)

pub descend-went-requires : goal.descend-went-requires
descend-went-requires c = let args = c.args in
    let loop = c.loop-left in
    let index_at = c.index_at in
    let i = rw (← index_at.ensures) at (index_fits loop.left args.path) in
    (omega arith, omega arith, i)

pub returns-in-Not : goal.returns-in-Not
returns-in-Not c = rw c.in-Not.is at (turn (goal.at.returns-in-Not c).After-descend-went)

pub returns-in-Damaged : goal.returns-in-Damaged
returns-in-Damaged c = rw c.in-Damaged.is at (turn (goal.at.returns-in-Damaged c).After-descend-went)

pub loop-left-preserved : goal.loop-left-preserved
loop-left-preserved c = let pre = c.requires in
    let loop = c.loop-left in
    let descend = c.descend-went in
    let good = rw c.in-To.is at (way-known (goal.at.loop-left-preserved c).After-descend-went) in
    (omega (arith, loop.invariant.0), omega (arith, good.1, pre.0), descend.auto.mem ∙ loop.invariant.2, rw c.in-To.is at (turn (goal.at.loop-left-preserved c).After-descend-went))

pub put_entry-requires : goal.put_entry-requires
put_entry-requires c = let args = c.args in
    let index-at2 = c.index_at-2 in
    let i = rw (← index-at2.ensures) at (index_fits 0 args.path) in
    (omega arith, i)

pub returns : goal.returns
returns c = let loop = c.loop-left in
    let index-at2 = c.index_at-2 in
    let put-entry = c.put_entry in
    let z : loop.left ≡ 0 = omega arith in
    rw (← loop.invariant.3, z, down_last, put-entry.ensures, index-at2.ensures)
