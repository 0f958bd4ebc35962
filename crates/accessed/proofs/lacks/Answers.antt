-- What is left of the entries lacks a bit just where all of them do.
use mathlib.Core.Path.{◌≡◌, sym, ap, ap₂, ◌∙◌}
use lib.ListN.{get_or}
use Prim.Native.Nat.{◌-◌}
use native.Mathlib.Omega.{arith}
use Rattle.spec.specs.Bits.{has_bits, lacks}
use Rattle.words.specs.Words.{word_in}
use Rattle.entry.proofs.Entries.{index_fits}
use Rattle.accessed.proofs.Laws.{lacks_turn, none_left}
use Rattle.accessed.proofs.lacks.Goals as goal

-- src/lib.rt:40:13
pub word_in-e-requires : goal.word_in-e-requires
word_in-e-requires c =
    let pre = c.requires in
    let index_of = c.index_of-i in
    let loop = c.loop-left in
    let args = c.args in
    (pre.1 loop.depth (omega arith), rw index_of.ensures (index_fits (loop.left - 1) args.page))

-- src/lib.rt:42:13
pub returns-then-not-has_bits : goal.returns-then-not-has_bits
returns-then-not-has_bits c =
    let if1 = c.if-not-has_bits in
    let has-bits = c.has_bits in
    let ends = c.ends in
    let word_in_call = c.word_in-e in
    let index_of = c.index_of-i in
    let loop-test = c.loop-left-test in
    let loop = c.loop-left in
    let args = c.args in
    let turn = lacks_turn args.mem.now args.tables.now args.store loop.depth loop.left args.page loop-test.true in
    let has = has-bits.ensures ∙ ap₂ has_bits ends.ensures (word_in_call.ensures ∙ ap (word_in args.mem.now (get_or args.tables.now loop.depth 0)) index_of.ensures) in
    sym (rw (← has, if1.true) at turn) ∙ loop.invariant.2

-- src/lib.rt:37:5
pub loop-left-preserved : goal.loop-left-preserved
loop-left-preserved c =
    let if1 = c.if-not-has_bits in
    let has-bits = c.has_bits in
    let ends = c.ends in
    let word_in_call = c.word_in-e in
    let index_of = c.index_of-i in
    let loop-test = c.loop-left-test in
    let loop = c.loop-left in
    let args = c.args in
    let turn = lacks_turn args.mem.now args.tables.now args.store loop.depth loop.left args.page loop-test.true in
    let has = has-bits.ensures ∙ ap₂ has_bits ends.ensures (word_in_call.ensures ∙ ap (word_in args.mem.now (get_or args.tables.now loop.depth 0)) index_of.ensures) in
    (omega arith, omega arith, sym (rw (← has, if1.false) at turn) ∙ loop.invariant.2)

-- src/lib.rt:31:1
pub returns : goal.returns
unfolding lacks
returns c =
    let loop = c.loop-left in
    let args = c.args in
    let none : loop.left ≡ 0 = omega arith in
    rw (none_left args.tables.now loop.depth loop.left args.page none) at loop.invariant.2
