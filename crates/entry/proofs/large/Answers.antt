-- Only at levels 2 and 3 bit 7 is looked at. Assumes nothing.
use Rattle.std.proofs.Common.{◌/◌, ◌%◌, ◌<◌, ◌≤◌, ◌&&◌, eqb, ltb, sym, ap, ◌∙◌, ap₂, arith, le-ltb, lt-ltb}
use mathlib.Core.Bool.{and-false}
use Rattle.spec.specs.Entry.{bit_set, large}
use Rattle.entry.proofs.large.Goals as goal

pub returns-then-level-le1 : goal.returns-then-level-le1
unfolding large
returns-then-level-le1 c =
    let low : c.args.level ≤ 1 = omega arith in
    sym (ap (λ x. x && (ltb c.args.level 4 && bit_set 7 c.args.e)) (le-ltb 1 _ low))

pub returns-then-level-gt3 : goal.returns-then-level-gt3
unfolding large
returns-then-level-gt3 c = let n = c.args.level in
    let high : 4 ≤ n = omega arith in
    sym (ap (λ x. ltb 1 n && (x && bit_set 7 c.args.e)) (le-ltb n 4 high) ∙ and-false (ltb 1 n))

pub returns : goal.returns
unfolding large bit_set
returns c = let n = c.args.level in
    let above : 1 < n = omega arith in
    let below : n < 4 = omega arith in
    sym (ap₂ (λ x y. x && (y && eqb (c.args.e / 128 % 2) 1)) (lt-ltb 1 n above) (lt-ltb n 4 below))
