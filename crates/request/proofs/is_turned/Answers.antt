-- By the test of the depth, and then the walk.
use mathlib.Core.Path.{refl, sym, ap}
use mathlib.Core.Bool.{not}
use lib.Dec.{eqb}
use borrow.Author.Tests.{eq-eqb}
use Rattle.translate.specs.Translate.{turned_depth}
use Rattle.request.proofs.is_turned.Goals as goal

pub returns-then-may_turn : goal.returns-then-may_turn
unfolding turned_depth
returns-then-may_turn c =
    let walked-depth = c.walked_depth in
    let if1 = c.if-may_turn in
    let may-turn = c.may_turn in
    let args = c.args in
    rw (← may-turn.ensures, if1.true) (ap (λ x. not (eqb x args.depth)) walked-depth.ensures)

pub returns : goal.returns
unfolding turned_depth
returns c =
    let if1 = c.if-may_turn in
    let may-turn = c.may_turn in
    let args = c.args in
    rw (← may-turn.ensures, if1.false) (sym (ap not (eq-eqb args.depth args.depth refl)))
