-- Each way goes by its test.
use Prim.Native.Nat.{◌<◌}
use native.Mathlib.Omega.{arith}
use borrow.Author.Tests.{lt-ltb, le-ltb}
use Rattle.marks.proofs.follows.Goals as goal

pub returns-then-last-key : goal.returns-then-last-key
returns-then-last-key c =
    let next : c.args.last < c.args.key = omega arith in
    rw (lt-ltb _ _ next) c.key_fits.ensures

pub returns : goal.returns
returns c = rw (le-ltb _ _ c.if-last-key.false)
