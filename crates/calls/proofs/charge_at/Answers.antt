-- A frame that is not watched charges nobody; else the tables say it.
use Rattle.calls.specs.Calls.{charged_in}
use Rattle.calls.proofs.charge_at.Goals as goal

pub returns-then-not-watched : goal.returns-then-not-watched
unfolding charged_in
returns-then-not-watched c =
    let watched = c.watched in
    let if1 = c.if-not-watched in
    rw (← watched.ensures, if1.true)

pub returns : goal.returns
unfolding charged_in
returns c =
    let watched = c.watched in
    let if1 = c.if-not-watched in
    let charged = c.charged in
    rw (← watched.ensures, if1.false) charged.ensures
