-- A path that is not known adds the tables that neither the shadow tables nor the room have on its way.
use Rattle.forecast.specs.Forecast.{held_after}
use Rattle.forecast.proofs.held_after.Goals as goal

pub returns-then-known : goal.returns-then-known
unfolding held_after
returns-then-known c = rw c.if-known.true

pub returns : goal.returns
unfolding held_after
returns c =
    let if1 = c.if-known in
    let met = c.met-own in
    let greater = c.greater in
    let lacks = c.lacks in
    let key_of = c.key_of-key in
    rw (if1.false, ← met.ensures, ← greater.ensures, ← lacks.ensures, ← key_of.ensures) c.filled.ensures
