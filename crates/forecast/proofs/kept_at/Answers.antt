-- Once the shadow tables are forgotten nothing is found in them.
use Rattle.forecast.specs.Forecast.{kept_of}
use Rattle.forecast.proofs.kept_at.Goals as goal

pub returns-then-kept : goal.returns-then-kept
unfolding kept_of
returns-then-kept c =
    let if1 = c.if-kept in
    rw (if1.true, c.found.ensures)

pub returns-else-kept : goal.returns-else-kept
unfolding kept_of
returns-else-kept c = rw c.if-kept.false
