-- With no level the prefix has no bit; else the remainder is taken.
use mathlib.Core.Path.{◌≡◌}
use native.Mathlib.Omega.{arith}
use lib.Pow.{pow_pos}
use Rattle.choice.specs.Window.{prefix_in}
use Rattle.choice.proofs.prefix_in.Goals as goal

pub returns-then-levels-lt1 : goal.returns-then-levels-lt1
unfolding prefix_in
returns-then-levels-lt1 c = let low : c.args.levels ≡ 0 = omega arith in rw low (omega arith)

pub nonzero_rem-result : goal.nonzero_rem-result
nonzero_rem-result c = rw c.power.ensures (pow_pos _)

pub returns : goal.returns
unfolding prefix_in
returns c = rw c.power.ensures
