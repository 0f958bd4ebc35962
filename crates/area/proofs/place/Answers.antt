-- The top table that is entered lies in the area, so the descent may start in it; without one it is damage.
use native.Mathlib.Omega.{arith}
use Rattle.area.specs.Tree.{place_of}
use Rattle.area.proofs.Laws.{enter_good}
use Rattle.area.proofs.place.Goals as goal

pub down-requires : goal.down-requires
down-requires c = let args = c.args in
    let word_at = c.word_at-guest in
    let enter = c.enter-went in
    let good = rw c.in-To.is at (rw (← enter.ensures) at (enter_good args.area args.pool args.mem.now word_at.result)) in
    (omega arith, omega arith, omega arith, omega arith, omega arith)

pub returns-in-To : goal.returns-in-To
unfolding place_of
returns-in-To c = let word_at = c.word_at-guest in
    let enter = c.enter-went in
    let down = c.down in
    rw (← word_at.ensures, ← enter.ensures, c.in-To.is) down.ensures

pub returns-in-Not : goal.returns-in-Not
unfolding place_of
returns-in-Not c = let word_at = c.word_at-guest in
    let enter = c.enter-went in
    rw (← word_at.ensures, ← enter.ensures, c.in-Not.is)

pub returns-in-Damaged : goal.returns-in-Damaged
unfolding place_of
returns-in-Damaged c = let word_at = c.word_at-guest in
    let enter = c.enter-went in
    rw (← word_at.ensures, ← enter.ensures, c.in-Damaged.is)
