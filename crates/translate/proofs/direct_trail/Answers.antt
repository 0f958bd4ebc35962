-- By the walk through the tables.
use Rattle.translate.proofs.direct_trail.Goals as goal

pub returns : goal.returns
returns c =
    let walk-tables = c.walk_tables in
    let page = c.page in
    rw page.ensures at walk-tables.ensures
