-- The head is taken out, given what is held now and put back; three promises, one after the other.
use Rattle.unit.proofs.served.Goals as goal

pub returns : goal.returns
returns c =
    let head = c.head in
    let with-held = c.with_held-head in
    let with-head = c.with_head in
    rw (with-head.ensures, with-held.ensures, head.ensures)
