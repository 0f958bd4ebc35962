-- Parent and slot are small by the header's bits, so the cut can be asked there; a parent outside the area is damage.
use native.Mathlib.Omega.{arith}
use Rattle.drops.specs.Cut.{link_up_of}
use Rattle.pool.proofs.Laws.{parent_small, slot_small}
use Rattle.drops.proofs.link_up.Goals as goal

pub cut_at-requires : goal.cut_at-requires
cut_at-requires c =
    let args = c.args in
    let p = parent_small args.mem.now args.frame in let s = slot_small args.mem.now args.frame in (c.requires.0, omega (arith, c.parent-p.ensures), omega (arith, c.slot.ensures))

pub returns-then-cut_at : goal.returns-then-cut_at
unfolding link_up_of
returns-then-cut_at c =
    let parent = c.parent-p in
    let inside = c.inside in
    rw (← parent.ensures, ← inside.ensures, c.if-inside.true, ← c.slot.ensures, ← c.cut_at.ensures, c.if-cut_at.true)

pub returns-else-cut_at : goal.returns-else-cut_at
unfolding link_up_of
returns-else-cut_at c =
    let parent = c.parent-p in
    let inside = c.inside in
    rw (← parent.ensures, ← inside.ensures, c.if-inside.true, ← c.slot.ensures, ← c.cut_at.ensures, c.if-cut_at.false)

pub returns-else-inside : goal.returns-else-inside
unfolding link_up_of
returns-else-inside c = rw (← c.parent-p.ensures, ← c.inside.ensures, c.if-inside.false)
