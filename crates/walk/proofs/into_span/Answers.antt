-- The guest's entries end here, so that the right is judged.
use Rattle.spec.specs.Plain.{span}
use Rattle.walk.specs.Memory.{into_of}
use Rattle.walk.proofs.into_span.Goals as goal

pub returns-then-granted : goal.returns-then-granted
unfolding into_of span
returns-then-granted c =
    let if1 = c.if-granted in
    let granted = c.granted in
    rw (← granted.ensures, if1.true)

pub returns-else-granted : goal.returns-else-granted
unfolding into_of span
returns-else-granted c =
    let if1 = c.if-granted in
    let granted = c.granted in
    rw (← granted.ensures, if1.false)
