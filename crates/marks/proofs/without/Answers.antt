-- The place that is found is set, so it can be cleared.
use Prim.Native.Nat.{◌^◌, ◌≤◌}
use native.Mathlib.Omega.{arith}
use borrow.Author.Tests.{lt-ltb, le-ltb}
use Rattle.bits.proofs.Laws.{clear_bit}
use Rattle.marks.specs.Table.{without_key}
use Rattle.marks.proofs.Search.{place_found}
use Rattle.marks.proofs.without.Goals as goal

pub overflow_sub-result : goal.overflow_sub-result
overflow_sub-result c = let place_of_call = c.place_of-i in
    let args = c.args in
    let found = place_found args.place.now args.key args.set (rw place_of_call.ensures at c.if-i-lt64.true) in
    let low : 2 ^ place_of_call.result ≤ args.set = rw place_of_call.ensures (clear_bit _ _ found.0).0 in
    omega (arith, c.power.ensures)

pub returns-then-i-lt64 : goal.returns-then-i-lt64
unfolding without_key
returns-then-i-lt64 c = rw (← c.place_of-i.ensures, lt-ltb _ 64 c.if-i-lt64.true, c.power.ensures)

pub returns : goal.returns
unfolding without_key
returns c = rw (← c.place_of-i.ensures, le-ltb _ 64 c.if-i-lt64.false)
