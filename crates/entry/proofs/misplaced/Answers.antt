-- Above level 3 bit 7 is enough; below, the frame's low bits tell. Assumes nothing.
use Rattle.std.proofs.Common.{ℕ, pred, ◌*◌, ◌%◌, ◌<◌, ◌≤◌, not, ◌||◌, eqb, sym, ap, ◌∙◌, subst, ap₂, arith, pow_pos, le-ltb, lt-ltb}
use Rattle.spec.specs.Entry.{frame_of, frames_below}
use Rattle.entry.proofs.misplaced.Goals as goal

pub returns-then-level-gt3 : goal.returns-then-level-gt3
returns-then-level-gt3 c =
    let high : 3 < c.args.level = omega arith in
    sym (ap (λ x. x || not (eqb (frame_of c.args.e % frames_below c.args.level) 0)) (lt-ltb 3 _ high))

pub nonzero_rem-result : goal.nonzero_rem-result
unfolding frames_below
nonzero_rem-result c = subst (λ (n : ℕ). 0 < n) (sym c.frames_below.ensures) (pow_pos (9 * pred c.args.level))

pub returns : goal.returns
returns c = let n = c.args.level in
    let low : n ≤ 3 = omega arith in
    ap₂ (λ (x y : ℕ). not (eqb (x % y) 0)) c.frame_of.ensures c.frames_below.ensures
    ∙ sym (ap (λ x. x || not (eqb (frame_of c.args.e % frames_below n) 0)) (le-ltb 3 n low))
