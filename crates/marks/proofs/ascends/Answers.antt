-- The keys left ascend from the last one exactly if all do from 0.
use mathlib.Core.Path.{refl, sym, ap, ◌∙◌}
use Prim.Native.Nat.{◌-◌}
use native.Mathlib.Omega.{arith}
use lib.Bits.{bit_and}
use Rattle.marks.specs.Key.{ascending}
use Rattle.marks.proofs.Turn.{keys_turn, keys_end}
use Rattle.marks.proofs.ByLevel.{ends_fit}
use Rattle.marks.proofs.ascends.Goals as goal

pub returns-then-set-eq0 : goal.returns-then-set-eq0
unfolding ascending
returns-then-set-eq0 c = sym (ap (ascending c.args.levels 0) (keys_end c.args.place.now c.args.set c.if-set-eq0.true))

pub returns : goal.returns
unfolding ascending
returns c = let args = c.args in
    let loop = c.loop-rest in
    sym (sym loop.invariant.1 ∙ ap (ascending args.levels loop.last) (keys_end args.place.now loop.rest c.loop-rest-test.false))

pub returns-then-not-follows : goal.returns-then-not-follows
unfolding ascending
returns-then-not-follows c = let turn = ap (ascending c.args.levels c.loop-rest.last) (keys_turn c.args.place.now c.loop-rest.rest c.lowest-i.result (bit_and c.loop-rest.rest (c.loop-rest.rest - 1)) (omega arith) (omega arith) c.lowest-i.ensures.0 refl) in
    let args = c.args in
    let ends_of = c.ends_of-ends in
    let loop = c.loop-rest in
    let follows = c.follows in
    sym (sym loop.invariant.1 ∙ turn ∙ rw (← ends_fit args.levels, ← ends_of.ensures, ← follows.ensures, c.if-not-follows.true))

pub loop-rest-preserved : goal.loop-rest-preserved
unfolding ascending
loop-rest-preserved c = let turn = ap (ascending c.args.levels c.loop-rest.last) (keys_turn c.args.place.now c.loop-rest.rest c.lowest-i.result c.after_lowest-rest.result (omega arith) (omega arith) c.lowest-i.ensures.0 c.after_lowest-rest.ensures.0) in
    let args = c.args in
    let ends_of = c.ends_of-ends in
    let loop = c.loop-rest in
    let follows = c.follows in
    (omega arith, rw (← ends_fit args.levels, ← ends_of.ensures, ← follows.ensures, c.if-not-follows.false) at (sym turn) ∙ loop.invariant.1)
