-- A key that is not wanted is passed over.
use mathlib.Core.Path.{refl, sym, ap, ◌∙◌}
use Prim.Native.Nat.{◌-◌}
use native.Mathlib.Omega.{arith}
use borrow.Author.Tests.{eq-eqb, ne_eqb}
use lib.Bits.{bit_and}
use Rattle.marks.specs.ByLevel.{wanted_from}
use Rattle.marks.proofs.Turn.{keys_turn, keys_end}
use Rattle.depth.proofs.wanted_from.Goals as goal

pub returns-then-wants-level : goal.returns-then-wants-level
unfolding wanted_from
returns-then-wants-level c = let turn = keys_turn c.args.place.now c.loop-rest.rest c.lowest-i.result (bit_and c.loop-rest.rest (c.loop-rest.rest - 1)) (omega arith) (omega arith) c.lowest-i.ensures.0 refl in
    let args = c.args in
    let loop = c.loop-rest in
    (turn ∙ sym (sym loop.invariant.1 ∙ ap (wanted_from args.wants.now) turn ∙ rw (eq-eqb _ _ c.if-wants-level.true)), omega arith)

pub loop-rest-preserved : goal.loop-rest-preserved
unfolding wanted_from
loop-rest-preserved c = let turn = ap (wanted_from c.args.wants.now) (keys_turn c.args.place.now c.loop-rest.rest c.lowest-i.result c.after_lowest-rest.result (omega arith) (omega arith) c.lowest-i.ensures.0 c.after_lowest-rest.ensures.0) in
    let loop = c.loop-rest in
    (omega arith, rw (ne_eqb _ _ c.if-wants-level.false) at (sym turn) ∙ loop.invariant.1)

pub returns : goal.returns
unfolding wanted_from
returns c = (keys_end c.args.place.now 0 refl ∙ sym (sym c.loop-rest.invariant.1 ∙ ap (wanted_from c.args.wants.now) (keys_end c.args.place.now c.loop-rest.rest c.loop-rest-test.false)), omega arith)
