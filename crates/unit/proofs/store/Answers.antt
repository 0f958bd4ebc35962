-- With the choice off what is held goes back into the record; with it on, head and arrays. The line follows.
use Rattle.calls.proofs.Laws.{promised}
use Rattle.unit.proofs.store.Goals as goal

pub store_at-s-requires : goal.store_at-s-requires
store_at-s-requires c =
    let fits2 = c.fits in
    let head = c.head in
    let if1 = c.if-unit-eq0 in
    rw head.ensures (fits2.ensures, if1.true)

pub returns-then-unit-eq0 : goal.returns-then-unit-eq0
returns-then-unit-eq0 c =
    let store_at = c.store_at-s in
    let head = c.head in
    promised (rw c.served.ensures (rw head.ensures at store_at.ensures))

pub returns : goal.returns
returns c =
    let store-on = c.store_on-turn in
    let head2 = c.head-2 in
    promised (rw c.replaced.ensures (rw head2.ensures at store-on.ensures))
