-- At the depth of all levels the frame goes into the record; below it the fill's way decides.
use borrow.Author.Tests.{le-leb, lt-leb}
use Rattle.translate.specs.Translate.{filled_of}
use Rattle.translate.proofs.filled.Goals as goal

pub returns-then-layout-request : goal.returns-then-layout-request
unfolding filled_of
returns-then-layout-request c =
    let if1 = c.if-layout-request in
    rw (le-leb _ _ if1.true)

pub entry_for-e-requires : goal.entry_for-e-requires
unfolding filled_of
entry_for-e-requires c =
    let pre = c.requires in
    pre.2

pub returns-in-To : goal.returns-in-To
unfolding filled_of
returns-in-To c =
    let fill = c.fill-went in
    let path-of = c.path_of-path in
    let entry-for = c.entry_for-e in
    let if1 = c.if-layout-request in
    rw (lt-leb _ _ if1.false, ← path-of.ensures, ← entry-for.ensures, ← fill.ensures, c.in-To.is)

pub returns-in-Not : goal.returns-in-Not
unfolding filled_of
returns-in-Not c =
    let damaged = c.damaged in
    let fill = c.fill-went in
    let path-of = c.path_of-path in
    let entry-for = c.entry_for-e in
    let if1 = c.if-layout-request in
    rw (lt-leb _ _ if1.false, ← path-of.ensures, ← entry-for.ensures, ← fill.ensures, c.in-Not.is, damaged.ensures)

pub returns-in-Damaged : goal.returns-in-Damaged
unfolding filled_of
returns-in-Damaged c =
    let damaged2 = c.damaged-in-Damaged in
    let fill = c.fill-went in
    let path-of = c.path_of-path in
    let entry-for = c.entry_for-e in
    let if1 = c.if-layout-request in
    rw (lt-leb _ _ if1.false, ← path-of.ensures, ← entry-for.ensures, ← fill.ensures, c.in-Damaged.is, damaged2.ensures)
