-- An address that meets 4 leaves the outlook; any other is a load of the depth that its marks and its walk give.
use Rattle.forecast.specs.Forecast.{address_of}
use Rattle.forecast.proofs.one_address.Goals as goal

pub returns-then-not-names_bytes : goal.returns-then-not-names_bytes
unfolding address_of
returns-then-not-names_bytes c =
    let names-bytes = c.names_bytes in
    rw (← names-bytes.ensures, c.if-not-names_bytes.true)

pub returns : goal.returns
unfolding address_of
returns c =
    let names-bytes = c.names_bytes in
    let if1 = c.if-not-names_bytes in
    let depth = c.depth-marked in
    let depth-at = c.depth_at-d in
    rw (← names-bytes.ensures, if1.false, ← depth.ensures, ← depth-at.ensures) c.one_load.ensures
