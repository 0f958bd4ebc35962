-- A path ends there and its prefix is compared, or its links are damaged; or none ends there.
use Rattle.charge.specs.Charge.{visit_of}
use Rattle.charge.proofs.visit.Goals as goal

pub returns-in-Is : goal.returns-in-Is
unfolding visit_of
returns-in-Is c =
    let lower = c.lower in
    let prefix-of = c.prefix_of in
    let above = c.above in
    let if1 = c.if-ends_at in
    let ends_at = c.ends_at in
    rw (← ends_at.ensures, if1.true, ← above.ensures, ← prefix-of.ensures, c.in-Is.is) lower.ensures

pub returns-in-Damaged : goal.returns-in-Damaged
unfolding visit_of
returns-in-Damaged c =
    let prefix-of = c.prefix_of in
    let above = c.above in
    let if1 = c.if-ends_at in
    let ends_at = c.ends_at in
    rw (← ends_at.ensures, if1.true, ← above.ensures, ← prefix-of.ensures, c.in-Damaged.is)

pub returns-else-ends_at : goal.returns-else-ends_at
unfolding visit_of
returns-else-ends_at c = rw (← c.ends_at.ensures, c.if-ends_at.false)
