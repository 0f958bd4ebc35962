-- The first place among those left is the first of all.
use mathlib.Core.Path.{refl, sym, ◌∙◌}
use Prim.Native.Nat.{◌-◌}
use native.Mathlib.Omega.{arith}
use borrow.Author.Tests.{eq-eqb, ne_eqb}
use lib.Bits.{bit_and}
use Rattle.marks.proofs.Turn.{place_turn, place_end}
use Rattle.marks.proofs.place_of.Goals as goal

pub returns-then-place-i : goal.returns-then-place-i
returns-then-place-i c = let turn = place_turn c.args.place.now c.loop-rest.rest c.lowest-i.result (bit_and c.loop-rest.rest (c.loop-rest.rest - 1)) (omega arith) (omega arith) c.lowest-i.ensures.0 refl c.args.key in
    let loop = c.loop-rest in
    sym (sym loop.invariant.1 ∙ turn ∙ rw (eq-eqb _ _ (sym c.if-place-i.true)))

pub loop-rest-preserved : goal.loop-rest-preserved
loop-rest-preserved c = let turn = place_turn c.args.place.now c.loop-rest.rest c.lowest-i.result c.after_lowest-rest.result (omega arith) (omega arith) c.lowest-i.ensures.0 c.after_lowest-rest.ensures.0 c.args.key in
    let loop = c.loop-rest in
    (omega arith, rw (ne_eqb _ _ (λ e. c.if-place-i.false (sym e))) at (sym turn) ∙ loop.invariant.1)

pub returns : goal.returns
returns c = sym (sym c.loop-rest.invariant.1 ∙ place_end c.args.place.now c.loop-rest.rest c.args.key c.loop-rest-test.false)
