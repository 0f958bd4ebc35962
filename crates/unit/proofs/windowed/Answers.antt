-- The head is taken out, given what is held now and the tally, and put back.
use Rattle.unit.proofs.windowed.Goals as goal

pub returns : goal.returns
returns c =
    let tally-after = c.tally_after-tally in
    let head = c.head in
    let with-held = c.with_held in
    let with-tally = c.with_tally-head in
    let with-head = c.with_head in
    rw (with-head.ensures, with-tally.ensures, with-held.ensures, head.ensures, tally-after.ensures)
