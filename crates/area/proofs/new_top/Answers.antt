-- The frame handed out lies in the area, so the top entry made of it fits a word; without one nothing is added.
use native.Mathlib.Omega.{arith}
use Rattle.pool.specs.Pool.{link}
use Rattle.area.specs.Tree.{new_top_of}
use Rattle.area.proofs.Laws.{table_good}
use Rattle.area.proofs.new_top.Goals as goal

pub overflow_mul-f : goal.overflow_mul-f
overflow_mul-f c = let args = c.args in
    let new-table = c.new_table-went in
    let good = rw (← new-table.ensures, c.in-To.is) at (table_good args.area args.pool args.mem.now args.guest args.area.levels 0 0) in omega (arith, good.1)

pub overflow_add-f : goal.overflow_add-f
overflow_add-f c = let args = c.args in
    let new-table = c.new_table-went in
    let good = rw (← new-table.ensures, c.in-To.is) at (table_good args.area args.pool args.mem.now args.guest args.area.levels 0 0) in omega (arith, good.1)

pub returns-in-To : goal.returns-in-To
unfolding new_top_of link
returns-in-To c = let new-table = c.new_table-went in
    let with-top = c.with_top in
    rw (← new-table.ensures, c.in-To.is, with-top.ensures)

pub returns-in-Not : goal.returns-in-Not
unfolding new_top_of
returns-in-Not c = let new-table = c.new_table-went in
    rw (← new-table.ensures, c.in-Not.is)

pub returns-in-Damaged : goal.returns-in-Damaged
unfolding new_top_of
returns-in-Damaged c = let new-table = c.new_table-went in
    rw (← new-table.ensures, c.in-Damaged.is)
