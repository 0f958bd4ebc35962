-- Only at depth 0 does the writable bit matter; at every other depth the path serves.
use borrow.Author.Tests.{eq-eqb, ne_eqb}
use Rattle.translate.specs.Translate.{serves_of}
use Rattle.translate.proofs.serves.Goals as goal

pub returns-then-depth-eq0 : goal.returns-then-depth-eq0
unfolding serves_of
returns-then-depth-eq0 c =
    let if1 = c.if-depth-eq0 in
    let granted = c.granted in
    rw (eq-eqb _ _ if1.true) granted.ensures

pub returns-else-depth-eq0 : goal.returns-else-depth-eq0
unfolding serves_of
returns-else-depth-eq0 c = rw (ne_eqb _ _ c.if-depth-eq0.false)
