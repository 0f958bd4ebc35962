-- All paths go where the frame is the root's; else those of the scan, or it meets damage.
use mathlib.Core.Path.{◌≡◌}
use mathlib.Core.Bool.{true, false}
use borrow.Author.Tests.{eq-eqb, ne_eqb, not-true, not-false}
use Rattle.record.specs.Record.{head_tables}
use Rattle.calls.specs.Calls.{head_held, head_host, unmapped_of}
use Rattle.calls.proofs.drop_users.Goals as goal

pub returns-then-guest-head : goal.returns-then-guest-head
unfolding unmapped_of head_held head_host head_tables
returns-then-guest-head c = rw (eq-eqb _ _ c.if-guest-head.true, c.held_none.ensures)

pub drop_mapping-left-requires : goal.drop_mapping-left-requires
drop_mapping-left-requires c = c.requires

pub returns-then-not-left : goal.returns-then-not-left
unfolding unmapped_of head_tables
returns-then-not-left c =
    let dropped = c.drop_mapping-left in
    let if1 = c.if-guest-head in
    let bad : c.drop_mapping-left.result.ok ≡ false = not-true _ c.if-not-left.true in
    rw (ne_eqb _ _ if1.false, ← dropped.ensures, bad, c.unmoved.ensures)

pub returns : goal.returns
unfolding unmapped_of head_held head_host head_tables
returns c =
    let dropped = c.drop_mapping-left in
    let if1 = c.if-guest-head in
    let good : c.drop_mapping-left.result.ok ≡ true = not-false _ c.if-not-left.false in
    rw (ne_eqb _ _ if1.false, ← dropped.ensures, good)
