-- The shadow pool, the marks and the choice are the empty ones, by the promises of the calls that make them.
use Rattle.record.specs.Open.{first_of}
use Rattle.opening.proofs.first.Goals as goal

pub returns : goal.returns
unfolding first_of
returns c =
    let no-tables = c.no_tables in
    let empty = c.empty in
    let no-choice = c.no_choice in
    rw (no-tables.ensures, empty.ensures, no-choice.ensures)
