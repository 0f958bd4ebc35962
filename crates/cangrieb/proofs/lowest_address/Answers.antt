-- A mark above level n − 1 keeps no index. Else its indexes go where they are in an address, which has room for them.
use Prim.Native.Nat.{◌+◌, ◌*◌, ◌^◌, ◌<◌}
use native.Mathlib.Omega.{arith}
use lib.Pow.{pow_pos, pow-lt}
use borrow.Author.Tests.{lt-ltb, le-ltb}
use Rattle.cangrieb.specs.Flat.{lowest_of}
use Rattle.cangrieb.proofs.Names.{lowest_small}
use Rattle.cangrieb.proofs.lowest_address.Goals as goal

pub returns-then-levels-ge6 : goal.returns-then-levels-ge6
unfolding lowest_of
returns-then-levels-ge6 c = rw (le-ltb _ 6 c.if-levels-ge6.true)

pub returns-then-level-levels : goal.returns-then-level-levels
unfolding lowest_of
returns-then-level-levels c = rw (lt-ltb _ 6 c.if-levels-ge6.false, le-ltb _ _ c.if-level-levels.true)

pub nonzero_rem-prefix : goal.nonzero_rem-prefix
nonzero_rem-prefix c = rw c.power.ensures (pow_pos _)

pub overflow_mul-prefix : goal.overflow_mul-prefix
overflow_mul-prefix c =
    let word : 2 ^ (12 + 9 * c.args.levels) < 2 ^ 64 = pow-lt {j = 64} (omega arith) in
    rw (c.power-2.ensures, c.power.ensures) (omega (arith, lowest_small c.args.levels c.args.key c.if-level-levels.false, word))

pub legal-requires : goal.legal-requires
legal-requires c =
    (c.if-levels-ge6.false, rw (c.power-2.ensures, c.power.ensures) (lowest_small _ _ c.if-level-levels.false))

pub returns : goal.returns
unfolding lowest_of
returns c =
    rw (lt-ltb _ 6 c.if-levels-ge6.false, lt-ltb _ _ c.if-level-levels.false, c.legal.ensures, c.power-2.ensures, c.power.ensures)
