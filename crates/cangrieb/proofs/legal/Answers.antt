-- Where the highest of the low bits is clear nothing stands above them, else ones.
use native.Mathlib.Omega.{arith}
use borrow.Author.Tests.{lt-ltb, le-ltb}
use Rattle.cangrieb.specs.Flat.{legal_of}
use Rattle.cangrieb.proofs.legal.Goals as goal

pub returns-then-low-power : goal.returns-then-low-power
unfolding legal_of
returns-then-low-power c = rw (lt-ltb _ _ (rw c.power.ensures at c.if-low-power.true))

pub returns : goal.returns
unfolding legal_of
returns c = rw (le-ltb _ _ (rw c.power.ensures at c.if-low-power.false), c.power-2.ensures) (omega arith)
