-- The words lent are not read: all parts are overwritten from the record that the opening hands back.
use mathlib.Core.Path.{ap}
use Rattle.calls.specs.Calls.{open_call, opened_by}
use Rattle.words.specs.After.{After}
use Rattle.record.specs.declared.Opened.{Opened}
use Rattle.cangrieb.specs.Flat.{left_of}
use Rattle.cangrieb.proofs.cangrieb_open.Goals as goal

pub returns : goal.returns
unfolding open_call
returns c =
    rw (c.put_back.ensures, c.answer_of-answer.ensures)
    (ap (λ (t : After Opened). left_of (opened_by t.result.unit t.result.refusal t.memory)) c.open-opened.ensures)
