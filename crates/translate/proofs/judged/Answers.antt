-- By the end of the walk.
use mathlib.Core.Path.{ap, ◌∙◌}
use Rattle.translate.specs.Translate.{settled_by}
use Rattle.translate.proofs.judged.Goals as goal

pub returns-in-Arrived : goal.returns-in-Arrived
returns-in-Arrived c =
    let settled = c.settled in
    let check = c.check in
    let args = c.args in
    rw c.in-Arrived.is (settled.ensures ∙ ap (settled_by args.held _ _) check.ensures)

pub returns-in-Faulted : goal.returns-in-Faulted
returns-in-Faulted c =
    let as_walked = c.as_walked in
    rw c.in-Faulted.is as_walked.ensures

pub returns-in-Damaged : goal.returns-in-Damaged
returns-in-Damaged c =
    let damaged = c.damaged in
    rw (c.in-Damaged.is, damaged.ensures)
