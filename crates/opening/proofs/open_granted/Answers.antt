-- The pool and the memory are those of the top table handed out.
use native.Mathlib.Omega.{arith}
use Rattle.record.specs.Open.{granted_of, entered_of}
use Rattle.opening.proofs.open_granted.Goals as goal

pub enter-went-requires : goal.enter-went-requires
enter-went-requires c =
    let pre = c.requires in
    let layout = c.layout-l in
    let tables = c.tables in
    rw (tables.ensures, layout.ensures) (omega (arith, pre))

pub returns : goal.returns
unfolding granted_of entered_of
returns c =
    let layout = c.layout-l in
    let clear-frames = c.clear_frames in
    let tables = c.tables in
    let no-tables = c.no_tables in
    let enter = c.enter-went in
    let first = c.first in
    let q = rw (tables.ensures, layout.ensures, no-tables.ensures, clear-frames.ensures) at enter.ensures in
    rw (← q, first.ensures, layout.ensures)
