use mathlib.Core.Path.{◌≡◌}
use Prim.Native.Nat.{◌+◌, ◌%◌}
use native.Mathlib.Omega.{arith}
use Rattle.choice.specs.Window.{tally_charged}
use Rattle.choice.proofs.Tally.charged.Goals as goal

pub returns : goal.returns
unfolding tally_charged
returns c = let t = c.args.self in
    let at : (t.at % 64 + 1) % 64 ≡ (t.at + 1) % 64 = omega arith in
    rw (c.shift.ensures, at)
