-- Nothing is written: the answer is that of the call on the record that the words say.
use mathlib.Core.Path.{ap}
use Rattle.words.specs.After.{After}
use Rattle.calls.specs.declared.Reply.{Reply}
use Rattle.cangrieb.specs.Flat.{answer_of}
use Rattle.cangrieb.proofs.cangrieb_forecast.Goals as goal

pub forecast_at-requires : goal.forecast_at-requires
forecast_at-requires c = rw c.head_in-h.ensures c.fits-fits.ensures

pub returns : goal.returns
returns c = rw c.answer_of.ensures (ap (λ (e : After Reply). answer_of e.result.answer) (rw c.head_in-h.ensures at c.forecast_at.ensures))
