-- By whether they are to be set.
use Rattle.request.specs.Access.{settled_of}
use Rattle.request.proofs.settle_own.Goals as goal

pub returns-then-not-sets : goal.returns-then-not-sets
unfolding settled_of
returns-then-not-sets c =
    let args = c.args in
    let if1 = c.if-not-sets in
    rw (if1.true)

pub returns : goal.returns
unfolding settled_of
returns c =
    let args = c.args in
    let if1 = c.if-not-sets in
    let set_own = c.set_own in
    rw (if1.false) set_own.ensures
