-- At most five indexes are kept, so the end fits a word.
use Prim.Native.Nat.{◌*◌, ◌≤◌}
use native.Mathlib.Omega.{arith}
use lib.Pow.{pow_mono}
use Rattle.marks.specs.ByLevel.{end_of}
use Rattle.marks.proofs.end_of.Goals as goal

pub overflow_mul-result : goal.overflow_mul-result
overflow_mul-result c =
    let few : 9 * c.kept.result ≤ 45 = omega arith in
    omega (arith, c.power.ensures, pow_mono few)

pub returns-then-level_fits : goal.returns-then-level_fits
unfolding end_of
returns-then-level_fits c = rw (← c.level_fits.ensures, c.if-level_fits.true, c.power.ensures, c.kept.ensures)

pub returns : goal.returns
unfolding end_of
returns c = rw (← c.level_fits.ensures, c.if-level_fits.false)
