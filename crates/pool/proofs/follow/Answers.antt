-- Three ends, as the definition has them: not present, in the area, outside it.
use Rattle.pool.specs.Pool.{follow_of}
use Rattle.pool.proofs.follow.Goals as goal

pub returns-then-inside : goal.returns-then-inside
unfolding follow_of
returns-then-inside c = let present = c.present in
    let if1 = c.if-present in
    let frame-of = c.frame_of-f in
    let inside = c.inside in
    let if2 = c.if-inside in
    rw (← present.ensures, if1.true, ← frame-of.ensures, ← inside.ensures, if2.true)

pub returns-else-inside : goal.returns-else-inside
unfolding follow_of
returns-else-inside c = let present = c.present in
    let if1 = c.if-present in
    let frame-of = c.frame_of-f in
    let inside = c.inside in
    let if2 = c.if-inside in
    rw (← present.ensures, if1.true, ← frame-of.ensures, ← inside.ensures, if2.false)

pub returns-else-present : goal.returns-else-present
unfolding follow_of
returns-else-present c = rw (← c.present.ensures, c.if-present.false)
