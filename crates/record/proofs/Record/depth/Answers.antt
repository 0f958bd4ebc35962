-- The record is handed back as it came, with what the search found.
use Rattle.record.proofs.Record.depth.Goals as goal

pub returns : goal.returns
returns c = rw c.lookup-lookup.ensures
