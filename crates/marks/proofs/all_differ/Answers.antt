-- The keys left fit exactly if all do.
use mathlib.Core.Path.{sym, ap, ◌∙◌}
use native.Mathlib.Omega.{arith}
use Rattle.marks.specs.Key.{keys_fit}
use Rattle.marks.proofs.Turn.{keys_turn, keys_end}
use Rattle.marks.proofs.ByLevel.{ends_fit}
use Rattle.marks.proofs.all_differ.Goals as goal

pub returns : goal.returns
unfolding keys_fit
returns c = sym (sym c.loop-rest.invariant.1 ∙ ap (keys_fit c.args.levels) (keys_end c.args.place.now c.loop-rest.rest c.loop-rest-test.false))

pub returns-then-not-differs : goal.returns-then-not-differs
unfolding keys_fit
returns-then-not-differs c = let turn = ap (keys_fit c.args.levels) (keys_turn c.args.place.now c.loop-rest.rest c.lowest-i.result c.after_lowest-rest.result (omega arith) (omega arith) c.lowest-i.ensures.0 c.after_lowest-rest.ensures.0) in
    let args = c.args in
    let ends_of = c.ends_of-ends in
    let loop = c.loop-rest in
    let differs = c.differs in
    sym (sym loop.invariant.1 ∙ turn ∙ rw (← ends_fit args.levels, ← ends_of.ensures, ← differs.ensures, c.if-not-differs.true))

pub loop-rest-preserved : goal.loop-rest-preserved
unfolding keys_fit
loop-rest-preserved c = let turn = ap (keys_fit c.args.levels) (keys_turn c.args.place.now c.loop-rest.rest c.lowest-i.result c.after_lowest-rest.result (omega arith) (omega arith) c.lowest-i.ensures.0 c.after_lowest-rest.ensures.0) in
    let args = c.args in
    let ends_of = c.ends_of-ends in
    let loop = c.loop-rest in
    let differs = c.differs in
    (omega arith, rw (← ends_fit args.levels, ← ends_of.ensures, ← differs.ensures, c.if-not-differs.false) at (sym turn) ∙ loop.invariant.1)
