-- The call in parts gets the record's own head and arrays; what it leaves goes back into the record. The line follows.
use Rattle.calls.proofs.Laws.{promised}
use Rattle.unit.proofs.forecast.Goals as goal

pub forecast_at-answer-requires : goal.forecast_at-answer-requires
forecast_at-answer-requires c =
    let fits2 = c.fits in
    let head = c.head in
    rw head.ensures fits2.ensures

pub returns : goal.returns
returns c =
    let head = c.head in
    promised (rw head.ensures at c.forecast_at-answer.ensures)
