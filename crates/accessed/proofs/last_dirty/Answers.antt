-- The last entry lies in the last table, at the lowest index.
use mathlib.Core.Path.{◌≡◌, sym}
use Prim.Native.Nat.{◌-◌, ◌<◌, ◌+◌}
use native.Mathlib.Omega.{arith}
use Rattle.entry.proofs.Entries.{index_fits}
use Rattle.accessed.proofs.Laws.{none_left, dirty_last}
use Rattle.accessed.proofs.last_dirty.Goals as goal

pub returns-then-steps-eq0 : goal.returns-then-steps-eq0
returns-then-steps-eq0 c =
    let if1 = c.if-steps-eq0 in
    let args = c.args in
    rw (none_left args.tables.now 0 args.steps args.page if1.true)

pub word_in-requires : goal.word_in-requires
word_in-requires c =
    let pre = c.requires in
    let index_of = c.index_of-i in
    let args = c.args in
    (pre.1 (args.steps - 1) (omega arith), rw index_of.ensures (index_fits 0 args.page))

pub returns : goal.returns
returns c =
    let dirty-is = c.dirty in
    let word_in_call = c.word_in in
    let index_of = c.index_of-i in
    let if1 = c.if-steps-eq0 in
    let args = c.args in
    let some : 0 < args.steps = omega (arith, if1.false) in
    let z : 0 + (args.steps - 1) ≡ args.steps - 1 = omega arith in
    rw (dirty-is.ensures, word_in_call.ensures, index_of.ensures) (sym (rw z at (dirty_last args.mem.now args.tables.now 0 args.steps args.page some)))
