-- Three arms by the way of the new table; its frame lies in the area, so the link put into the table above fits a word.
use native.Mathlib.Omega.{arith}
use Rattle.pool.specs.Pool.{link}
use Rattle.area.specs.Tree.{attach_of}
use Rattle.area.proofs.Laws.{table_good}
use Rattle.area.proofs.attach.Goals as goal

pub overflow_mul-h : goal.overflow_mul-h
overflow_mul-h c = let args = c.args in
    let new-table = c.new_table-went in
    let good = rw c.in-To.is at (rw (← new-table.ensures) at (table_good args.area args.pool args.mem.now args.guest args.level args.frame args.index)) in
    omega arith

pub overflow_add-h : goal.overflow_add-h
overflow_add-h c = let args = c.args in
    let new-table = c.new_table-went in
    let good = rw c.in-To.is at (rw (← new-table.ensures) at (table_good args.area args.pool args.mem.now args.guest args.level args.frame args.index)) in
    omega arith

pub returns-in-To : goal.returns-in-To
unfolding attach_of link
returns-in-To c = let new-table = c.new_table-went in
    let put-entry = c.put_entry in
    rw (← new-table.ensures, c.in-To.is, put-entry.ensures)

pub returns-in-Not : goal.returns-in-Not
unfolding attach_of
returns-in-Not c = let new-table = c.new_table-went in
    rw (← new-table.ensures, c.in-Not.is)

pub returns-in-Damaged : goal.returns-in-Damaged
unfolding attach_of
returns-in-Damaged c = let new-table = c.new_table-went in
    rw (← new-table.ensures, c.in-Damaged.is)
