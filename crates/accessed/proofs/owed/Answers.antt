-- What is left of the entries owes what all of them do.
use mathlib.Core.Path.{◌≡◌, sym, ap, ap₂, ◌∙◌}
use mathlib.Core.Bool.{◌||◌}
use Prim.Native.Nat.{◌-◌}
use native.Mathlib.Omega.{arith}
use lib.ListN.{get_or}
use Rattle.spec.specs.Bits.{has_bits, may_write, owed}
use Rattle.words.specs.Words.{word_in}
use Rattle.layout.specs.Layout.{config}
use Rattle.host.specs.Walk.{host_walk_of}
use Rattle.walk.specs.Memory.{place_of}
use Rattle.entry.proofs.Entries.{index_fits}
use Rattle.accessed.specs.Entries.{owed_of}
use Rattle.accessed.proofs.Laws.{owed_turn, none_left}
use Rattle.accessed.proofs.owed.Goals as goal

-- src/lib.rt:91:13
pub word_in-e-requires : goal.word_in-e-requires
word_in-e-requires c =
    let pre = c.requires in
    let index_of = c.index_of-i in
    let loop = c.loop-left in
    let args = c.args in
    (pre.3 loop.depth (omega arith), rw index_of.ensures (index_fits (loop.left - 1) args.page))

-- src/lib.rt:93:13
pub returns-then-not-has_or_may : goal.returns-then-not-has_or_may
returns-then-not-has_or_may c =
    let if1 = c.if-not-has_or_may in
    let has-or-may = c.has_or_may in
    let ends = c.ends in
    let word_in_call = c.word_in-e in
    let index_of = c.index_of-i in
    let loop-test = c.loop-left-test in
    let loop = c.loop-left in
    let args = c.args in
    let word = word_in_call.ensures ∙ ap (word_in args.mem.now (get_or args.tables.now loop.depth 0)) index_of.ensures in
    let turn = owed_turn args.mem.now args.tables.now args.store loop.depth loop.left args.page loop-test.true (config args.space.layout) args.space.top args.below loop.at in
    let has = has-or-may.ensures ∙ ap₂ (λ x y. has_bits x y || may_write (place_of (host_walk_of (config args.space.layout) args.space.top args.mem.now loop.at))) ends.ensures word in
    sym (rw (← has, if1.true) at turn) ∙ loop.invariant.2

-- src/lib.rt:88:5
pub loop-left-preserved : goal.loop-left-preserved
loop-left-preserved c =
    let frame-of = c.frame_of-at in
    let if1 = c.if-not-has_or_may in
    let has-or-may = c.has_or_may in
    let ends = c.ends in
    let word_in_call = c.word_in-e in
    let index_of = c.index_of-i in
    let loop-test = c.loop-left-test in
    let loop = c.loop-left in
    let args = c.args in
    let word = word_in_call.ensures ∙ ap (word_in args.mem.now (get_or args.tables.now loop.depth 0)) index_of.ensures in
    let turn = owed_turn args.mem.now args.tables.now args.store loop.depth loop.left args.page loop-test.true (config args.space.layout) args.space.top args.below loop.at in
    let has = has-or-may.ensures ∙ ap₂ (λ x y. has_bits x y || may_write (place_of (host_walk_of (config args.space.layout) args.space.top args.mem.now loop.at))) ends.ensures word in
    (omega arith, omega arith, rw (frame-of.ensures, word) (sym (rw (← has, if1.false) at turn) ∙ loop.invariant.2))

-- src/lib.rt:73:1
pub returns : goal.returns
unfolding owed_of owed
returns c =
    let loop = c.loop-left in
    let args = c.args in
    let none : loop.left ≡ 0 = omega arith in
    rw (none_left args.tables.now loop.depth loop.left args.page none) at loop.invariant.2
