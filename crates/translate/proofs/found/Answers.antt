-- Below the depth of all levels a shadow entry is looked up; at it the record's frame is the path, or 0 if none is held.
use borrow.Author.Tests.{lt-ltb, le-ltb, eq-eqb, ne_eqb}
use Rattle.translate.specs.Translate.{found_of}
use Rattle.translate.proofs.found.Goals as goal

pub returns-then-depth-layout : goal.returns-then-depth-layout
unfolding found_of
returns-then-depth-layout c =
    let if1 = c.if-depth-layout in
    let path-of = c.path_of in
    let held = c.held in
    rw (lt-ltb _ _ if1.true, ← path-of.ensures) held.ensures

pub returns-then-held-eq0 : goal.returns-then-held-eq0
unfolding found_of
returns-then-held-eq0 c =
    let if1 = c.if-depth-layout in
    let if2 = c.if-held-eq0 in
    rw (le-ltb _ _ if1.false, eq-eqb _ _ if2.true)

pub returns : goal.returns
unfolding found_of
returns c =
    let if1 = c.if-depth-layout in
    let if2 = c.if-held-eq0 in
    rw (le-ltb _ _ if1.false, ne_eqb _ _ if2.false)
