-- By the tests.
use mathlib.Core.Path.{sym}
use borrow.Author.Tests.{eq-eqb, ne_eqb}
use Rattle.translate.specs.Translate.{bitless_of}
use Rattle.translate.proofs.Bits.{not_not}
use Rattle.translate.proofs.bitless.Goals as goal

pub returns-then-depth-eq0 : goal.returns-then-depth-eq0
unfolding bitless_of
returns-then-depth-eq0 c =
    let if1 = c.if-depth-eq0 in
    let args = c.args in
    rw (eq-eqb args.depth 0 if1.true)

pub returns : goal.returns
unfolding bitless_of
returns c =
    let if1 = c.if-depth-eq0 in
    let args = c.args in
    rw (ne_eqb args.depth 0 if1.false) (sym (not_not _))
