-- The places filled so far, with the keys left, make the places of the whole.
use mathlib.Core.Path.{◌≡◌, refl, sym, ap, ◌∙◌}
use native.Mathlib.Omega.{arith}
use lib.ListN.{length}
use Rattle.marks.specs.Table.{keys}
use Rattle.marks.proofs.Turn.{keys_turn, keys_end, keys_count}
use Rattle.marks.proofs.Insert.{filled, filled_turn, filled_end, filled_table}
use Rattle.marks.proofs.Marks.inserted.Goals as goal

pub bounds-place-count-2 : goal.bounds-place-count-2
bounds-place-count-2 c = omega arith

pub overflow_sub-result : goal.overflow_sub-result
overflow_sub-result c = omega arith

pub overflow_shr-result : goal.overflow_shr-result
overflow_shr-result c = omega arith

pub loop-rest-init : goal.loop-rest-init
loop-rest-init c = (omega arith, rw (keys_count c.args.self.place c.args.self.set (omega arith)) (omega arith), refl)

pub bounds-place-count : goal.bounds-place-count
bounds-place-count c = let turn = keys_turn c.args.self.place c.loop-rest.rest c.lowest-i.result c.after_lowest-rest.result (omega arith) (omega arith) c.lowest-i.ensures.0 c.after_lowest-rest.ensures.0 in
    omega (arith, ap length turn)

pub loop-rest-preserved : goal.loop-rest-preserved
loop-rest-preserved c = let turn = keys_turn c.args.self.place c.loop-rest.rest c.lowest-i.result c.after_lowest-rest.result (omega arith) (omega arith) c.lowest-i.ensures.0 c.after_lowest-rest.ensures.0 in
    let whole = sym (ap (filled c.loop-rest.place c.loop-rest.count c.loop-rest.next) turn ∙ filled_turn c.loop-rest.place c.loop-rest.count c.loop-rest.next _ _) ∙ c.loop-rest.invariant.2 in
    (omega arith, omega (arith, ap length turn), rw (c.smaller.ensures, c.greater-next.ensures) whole)

pub returns : goal.returns
returns c = let keys = keys c.args.self.place c.args.self.set in
    let end = keys_end c.args.self.place c.loop-rest.rest c.loop-rest-test.false in
    let whole = sym (filled_end c.loop-rest.place c.loop-rest.count c.loop-rest.next) ∙ ap (filled c.loop-rest.place c.loop-rest.count c.loop-rest.next) (sym end) ∙ c.loop-rest.invariant.2 in
    let long : length keys ≡ c.loop-rest.count = omega (arith, ap length end, keys_count c.args.self.place c.args.self.set (omega arith)) in
    rw whole (filled_table c.args.key c.loop-rest.count keys long (omega arith))
