-- The pool's top entry decides: the table it names, a new top table, or damage.
use Rattle.area.specs.Tree.{enter_of}
use Rattle.area.proofs.enter.Goals as goal

pub returns-in-To : goal.returns-in-To
unfolding enter_of
returns-in-To c = let follow = c.follow in
    rw (← follow.ensures, c.in-To.is)

pub returns-in-Not : goal.returns-in-Not
unfolding enter_of
returns-in-Not c = let follow = c.follow in
    let new-top = c.new_top in
    rw (← follow.ensures, c.in-Not.is) new-top.ensures

pub returns-in-Damaged : goal.returns-in-Damaged
unfolding enter_of
returns-in-Damaged c = let follow = c.follow in
    rw (← follow.ensures, c.in-Damaged.is)
