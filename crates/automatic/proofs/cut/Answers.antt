-- By whether the drop met damage.
use borrow.Author.Tests.{not-true, not-false}
use Rattle.automatic.specs.Moves.{cut_of}
use Rattle.automatic.proofs.cut.Goals as goal

pub returns-then-not-left : goal.returns-then-not-left
unfolding cut_of
returns-then-not-left c =
    let drop_prefix_lem = c.drop_prefix-left in
    rw (← drop_prefix_lem.ensures, not-true c.drop_prefix-left.result.ok c.if-not-left.true)

pub returns : goal.returns
unfolding cut_of
returns c =
    let drop_prefix_lem = c.drop_prefix-left in
    rw (← drop_prefix_lem.ensures, not-false c.drop_prefix-left.result.ok c.if-not-left.false, c.with_shadow.ensures, c.held_after.ensures)
