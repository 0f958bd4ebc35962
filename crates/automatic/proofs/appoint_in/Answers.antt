-- By whether a place is free.
use borrow.Author.Tests.{lt-ltb, le-ltb}
use lib.Count.{ones}
use native.Mathlib.Omega.{arith}
use Rattle.automatic.proofs.appoint_in.Goals as goal

pub returns-then-count-lt64 : goal.returns-then-count-lt64
returns-then-count-lt64 c =
    let if1 = c.if-count-lt64 in
    let count = c.count in
    let args = c.args in
    rw (lt-ltb (ones args.head.set) 64 (omega (arith, count.ensures, if1.true))) c.appoint.ensures

pub returns : goal.returns
returns c =
    let args = c.args in
    rw (le-ltb (ones args.head.set) 64 (omega (arith, c.count.ensures, c.if-count-lt64.false)))
