-- The first insert's way decides; only where it found no room is it tried again, from an empty pool, on the same area.
use native.Mathlib.Omega.{arith}
use Rattle.shadow.specs.Fill.{fill_of}
use Rattle.shadow.proofs.fill.Goals as goal

pub insert-went-requires : goal.insert-went-requires
insert-went-requires c = let pre = c.requires in
    let shadow-area = c.shadow_area-a in
    rw shadow-area.ensures (omega (arith, pre.0), pre.1, omega (arith, pre), pre.2)

pub insert-requires : goal.insert-requires
insert-requires c = let pre = c.requires in
    let shadow-area = c.shadow_area-a in
    rw shadow-area.ensures (omega (arith, pre.0), pre.1, omega (arith, pre), pre.2)

pub returns-in-To : goal.returns-in-To
unfolding fill_of
returns-in-To c = let shadow-area = c.shadow_area-a in
    let insert = c.insert-went in
    rw (← shadow-area.ensures, ← insert.ensures, c.in-To.is)

pub returns-in-Not : goal.returns-in-Not
unfolding fill_of
returns-in-Not c = let shadow-area = c.shadow_area-a in
    let insert = c.insert-went in
    let no-tables = c.no_tables in
    let insert2 = c.insert in
    rw (← shadow-area.ensures, ← insert.ensures, c.in-Not.is, ← no-tables.ensures) insert2.ensures

pub returns-in-Damaged : goal.returns-in-Damaged
unfolding fill_of
returns-in-Damaged c = let shadow-area = c.shadow_area-a in
    let insert = c.insert-went in
    rw (← shadow-area.ensures, ← insert.ensures, c.in-Damaged.is)
