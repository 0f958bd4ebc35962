-- With their bits set in what is left of the entries, memory is as with all of them set.
use mathlib.Core.Path.{◌≡◌, sym, ap, ap₂, ◌∙◌}
use Prim.Native.Nat.{◌-◌}
use native.Mathlib.Omega.{arith}
use lib.ListN.{get_or}
use Rattle.spec.specs.Bits.{with_bits}
use Rattle.words.specs.Words.{word_in, set_in}
use Rattle.entry.proofs.Entries.{index_fits}
use Rattle.accessed.proofs.Laws.{bits_turn, none_left}
use borrow.Author.Rules.{rules}
use Rattle.accessed.proofs.set_bits.Goals as goal

-- src/lib.rt:105:13
pub word_in-e-requires : goal.word_in-e-requires
word_in-e-requires c =
    let pre = c.requires in
    let index_of = c.index_of-i in
    let loop = c.loop-left in
    let args = c.args in
    (pre.1 loop.depth (omega arith), rw index_of.ensures (index_fits (loop.left - 1) args.page))

-- src/lib.rt:106:9
pub set_in-requires : goal.set_in-requires
set_in-requires c =
    let pre = c.requires in
    let index_of = c.index_of-i in
    let loop = c.loop-left in
    let args = c.args in
    (pre.1 loop.depth (omega arith), rw index_of.ensures (index_fits (loop.left - 1) args.page))

-- src/lib.rt:102:5
pub loop-left-preserved : goal.loop-left-preserved
loop-left-preserved c =
    let set-in = c.set_in in
    let with_bits_lem = c.with_bits in
    let ends = c.ends in
    let word_in_call = c.word_in-e in
    let index_of = c.index_of-i in
    let loop-test = c.loop-left-test in
    let loop = c.loop-left in
    let args = c.args in
    let turn = bits_turn loop.mem args.tables.now args.store loop.depth loop.left args.page loop-test.true in
    let stored = set-in.ensures ∙ ap₂ (λ i e. set_in loop.mem (get_or args.tables.now loop.depth 0) i e) index_of.ensures
    (with_bits_lem.ensures ∙ ap₂ with_bits ends.ensures (word_in_call.ensures ∙ ap (word_in loop.mem (get_or args.tables.now loop.depth 0)) index_of.ensures)) in
    (omega arith, omega arith, search rules, rw stored (sym turn ∙ loop.invariant.3))

-- src/lib.rt:96:1
pub returns : goal.returns
returns c =
    let loop = c.loop-left in
    let args = c.args in
    let none : loop.left ≡ 0 = omega arith in
    rw (none_left args.tables.now loop.depth loop.left args.page none) at loop.invariant.3
