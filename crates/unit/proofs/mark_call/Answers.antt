-- The call in parts on the record's own head and arrays; what it leaves are head and arrays of the record.
use Rattle.unit.proofs.mark_call.Goals as goal

pub mark_at-turn-requires : goal.mark_at-turn-requires
mark_at-turn-requires c =
    let fits2 = c.fits in
    let head = c.head in
    rw head.ensures fits2.ensures

pub returns : goal.returns
returns c =
    let mark-at = c.mark_at-turn in
    let head = c.head in
    rw c.replaced.ensures (rw head.ensures at mark-at.ensures)
