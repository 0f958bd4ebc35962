-- By the test of the marked depth.
use Rattle.translate.specs.Translate.{turned_depth}
use Rattle.forecast.proofs.depth_at.Goals as goal

pub returns-then-may_turn : goal.returns-then-may_turn
unfolding turned_depth
returns-then-may_turn c =
    let if1 = c.if-may_turn in
    let may-turn = c.may_turn in
    rw (← may-turn.ensures, if1.true) c.walked_depth.ensures

pub returns-else-may_turn : goal.returns-else-may_turn
unfolding turned_depth
returns-else-may_turn c =
    let may-turn = c.may_turn in
    rw (← may-turn.ensures, c.if-may_turn.false)
