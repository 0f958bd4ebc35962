-- A place is free, or no mark is automatic, or the one leaves that is chosen.
use borrow.Author.Tests.{lt-ltb, le-ltb, eq-eqb, ne_eqb}
use Rattle.automatic.specs.Moves.{room_made_of}
use lib.Count.{ones}
use native.Mathlib.Omega.{arith}
use Rattle.automatic.proofs.make_room.Goals as goal

pub returns-then-count-lt64 : goal.returns-then-count-lt64
unfolding room_made_of
returns-then-count-lt64 c =
    let args = c.args in
    rw (lt-ltb (ones args.head.set) 64 (omega (arith, c.count.ensures, c.if-count-lt64.true)))

pub returns-then-head-eq0 : goal.returns-then-head-eq0
unfolding room_made_of
returns-then-head-eq0 c =
    let count = c.count in
    let args = c.args in
    rw (le-ltb (ones args.head.set) 64 (omega (arith, count.ensures, c.if-count-lt64.false)), eq-eqb _ _ c.if-head-eq0.true)

pub returns : goal.returns
unfolding room_made_of
returns c =
    let leaving = c.leaving-at in
    let if2 = c.if-head-eq0 in
    let if1 = c.if-count-lt64 in
    let count = c.count in
    let args = c.args in
    rw (le-ltb (ones args.head.set) 64 (omega (arith, count.ensures, if1.false)), ne_eqb _ _ if2.false, ← leaving.ensures) c.withdraw.ensures
