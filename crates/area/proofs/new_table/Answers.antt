-- The frame taken lies in the area, so its header can be written; where none is taken that is the answer.
use native.Mathlib.Omega.{arith}
use Rattle.area.specs.Tree.{new_table_of}
use Rattle.pool.proofs.Laws.{take_good}
use Rattle.area.proofs.new_table.Goals as goal

pub write_header-requires : goal.write_header-requires
write_header-requires c = let args = c.args in
    let take-frame = c.take_frame-went in
    let good = rw c.in-To.is at (rw (← take-frame.ensures) at (take_good args.area args.pool args.mem.now)) in
    omega arith

pub returns-in-To : goal.returns-in-To
unfolding new_table_of
returns-in-To c = let take-frame = c.take_frame-went in
    let write-header = c.write_header in
    rw (← take-frame.ensures, c.in-To.is, write-header.ensures)

pub returns-in-Not : goal.returns-in-Not
unfolding new_table_of
returns-in-Not c = let take-frame = c.take_frame-went in
    rw (← take-frame.ensures, c.in-Not.is)

pub returns-in-Damaged : goal.returns-in-Damaged
unfolding new_table_of
returns-in-Damaged c = let take-frame = c.take_frame-went in
    rw (← take-frame.ensures, c.in-Damaged.is)
