-- By the tests.
use mathlib.Core.Path.{sym}
use Rattle.request.specs.Access.{settled_of}
use Rattle.request.proofs.Held.{set_none}
use Rattle.request.proofs.settle.Goals as goal

pub returns-then-not-sets : goal.returns-then-not-sets
unfolding settled_of
returns-then-not-sets c =
    let if1 = c.if-not-sets in
    let args = c.args in
    rw (if1.true) (sym (set_none args.walked args.mem.now))

pub returns-in-Arrived : goal.returns-in-Arrived
unfolding settled_of
returns-in-Arrived c =
    let set_own = c.set_own in
    let if1 = c.if-not-sets in
    let args = c.args in
    rw (c.in-Arrived.is, if1.false) set_own.ensures

pub returns-in-Faulted : goal.returns-in-Faulted
returns-in-Faulted c =
    rw c.in-Faulted.is

pub returns-in-Damaged : goal.returns-in-Damaged
returns-in-Damaged c =
    rw c.in-Damaged.is
