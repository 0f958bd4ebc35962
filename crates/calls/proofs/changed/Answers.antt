-- A refusal, or by what the host walk came to before.
use borrow.Author.Tests.{eq-eqb, ne_eqb}
use Rattle.record.specs.Record.{head_tables}
use Rattle.calls.specs.Calls.{head_host}
use Rattle.calls.proofs.changed.Goals as goal

pub returns-then-change-ne0 : goal.returns-then-change-ne0
unfolding head_tables
returns-then-change-ne0 c = rw (ne_eqb _ _ c.if-change-ne0.true, c.unmoved.ensures)

pub drop_users-requires : goal.drop_users-requires
drop_users-requires c = c.requires

pub returns-in-Found : goal.returns-in-Found
returns-in-Found c =
    let if1 = c.if-change-ne0 in
    rw (eq-eqb _ _ if1.false, c.in-Found.is) c.drop_users.ensures

pub returns-in-Absent : goal.returns-in-Absent
unfolding head_host head_tables
returns-in-Absent c =
    let if1 = c.if-change-ne0 in
    rw (eq-eqb _ _ if1.false, c.in-Absent.is, c.held_in.ensures)

pub returns-in-Damaged : goal.returns-in-Damaged
unfolding head_tables
returns-in-Damaged c =
    let if1 = c.if-change-ne0 in
    rw (eq-eqb _ _ if1.false, c.in-Damaged.is, c.unmoved-in-Damaged.ensures)
