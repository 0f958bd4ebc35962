-- By whether it is watched.
use mathlib.Core.Path.{sym, ◌∙◌}
use Rattle.request.specs.Access.{dropped_of}
use Rattle.request.proofs.drop_readers.Goals as goal

pub drop_watched-requires : goal.drop_watched-requires
drop_watched-requires c =
    let if1 = c.if-watched in
    let watched = c.watched in
    let pre = c.requires in
    (pre.0, pre.1, pre.2, sym watched.ensures ∙ if1.true)

pub returns : goal.returns
unfolding dropped_of
returns c =
    let if1 = c.if-watched in
    let watched = c.watched in
    rw (← watched.ensures, if1.false)
