-- A shift by 9 bits a level is a power of 512. Assumes nothing.
use Rattle.std.proofs.Common.{◌≡◌, ℕ, pred, ◌-◌, ◌*◌, ◌^◌, ◌<◌, sym, ap, ◌∙◌, one-mul, arith, shl_exact}
use Rattle.spec.specs.Entry.{frames_below}
use Rattle.entry.proofs.frames_below.Goals as goal

pub returns-then-level-eq0 : goal.returns-then-level-eq0
unfolding frames_below
returns-then-level-eq0 c =
    let none : c.args.level ≡ 0 = omega arith in
    sym (ap (λ (n : ℕ). 2 ^ (9 * pred n)) none)

pub returns : goal.returns
unfolding frames_below
returns c = let k = 9 * (c.args.level - 1) in
    let few : k < 64 = omega arith in
    let same : c.args.level - 1 ≡ pred c.args.level = omega arith in
    shl_exact {a = 1} 1 k 64 (omega arith) (omega arith) ∙ one-mul (2 ^ k) ∙ ap (λ (n : ℕ). 2 ^ (9 * n)) same
