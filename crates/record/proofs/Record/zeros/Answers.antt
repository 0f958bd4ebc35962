-- Both pools are those from which nothing was handed out, and the choice keeps nothing; all else is 0 already.
use Rattle.record.specs.Record.{zeros}
use Rattle.record.proofs.Record.zeros.Goals as goal

pub returns : goal.returns
unfolding zeros
returns c =
    let no-tables = c.no_tables in
    let no-tables2 = c.no_tables-2 in
    let no-choice = c.no_choice in
    rw (no-tables.ensures, no-tables2.ensures, no-choice.ensures)
