-- What is found so far and the lookup among the places left make the whole, at each page that wants these keys; a level above all
-- tables' is above what is found.
use mathlib.Core.Path.{◌≡◌, sym, ap, ◌∙◌}
use Prim.Native.Nat.{◌%◌}
use native.Mathlib.Omega.{arith}
use borrow.Author.Tests.{le-ltb, lt-ltb}
use lib.Count.{ones}
use lib.ListN.{length, get_or}
use Rattle.marks.specs.Key.{low_page, search_of}
use Rattle.marks.specs.Table.{keys}
use Rattle.marks.proofs.Turn.{keys_end, keys_count}
use Rattle.marks.proofs.ByLevel.{wanted_end, place_wanted}
use Rattle.depth.proofs.search.Goals as goal

pub returns-then-set-eq0 : goal.returns-then-set-eq0
unfolding search_of
returns-then-set-eq0 c = let args = c.args in
    let none = ap (search_of args.levels (low_page args.levels args.address.0)) (keys_end args.place.now args.set c.if-set-eq0.true) in
    (sym (ap (λ f. f.depth) none), omega (arith, ap (λ f. f.read) none, ap ones c.if-set-eq0.true))

pub loop-rest-preserved : goal.loop-rest-preserved
loop-rest-preserved c = let args = c.args in
    let loop = c.loop-rest in
    let wanted-from = c.wanted_from-rest in
    let lowest = c.lowest-i in
    let after-lowest = c.after_lowest-rest in
    let low = le-ltb args.levels (get_or args.place.now lowest.result 0 % 8) (omega arith) in (
      (omega arith, omega arith),
      λ p e.
          let so_far = loop.invariant.1 p e in
          let turn = rw low at (place_wanted args.levels p args.place.now loop.rest wanted-from.result lowest.result after-lowest.result (omega arith) (omega arith) lowest.ensures.0 after-lowest.ensures.0 (rw e at wanted-from.ensures.0)) in
          (omega (arith, so_far.0, turn.0, c.greater-found.ensures), omega (arith, so_far.1, turn.1)),
    )

pub returns-then-rest-eq0 : goal.returns-then-rest-eq0
returns-then-rest-eq0 c = let args = c.args in
    let wants-of = c.wants_of-wants in
    let loop = c.loop-rest in
    let wanted-from = c.wanted_from-rest in
    let page = low_page args.levels args.address.0 in
    let end = keys_end args.place.now wanted-from.result c.if-rest-eq0.true in
    let so_far = loop.invariant.1 page wants-of.ensures in
    let last = wanted_end args.levels page (keys args.place.now loop.rest) (rw wants-of.ensures at (sym wanted-from.ensures.0 ∙ end)) in
    let all = keys_count args.place.now args.set (omega arith) in
    let none : ones wanted-from.result ≡ 0 = sym (keys_count args.place.now wanted-from.result (omega arith)) ∙ ap length end in
    (omega (arith, so_far.0, last.0), omega (arith, so_far.1, last.1, all, none))

pub returns-then-levels-level : goal.returns-then-levels-level
returns-then-levels-level c = let args = c.args in
    let wants-of = c.wants_of-wants in
    let loop = c.loop-rest in
    let wanted-from = c.wanted_from-rest in
    let lowest = c.lowest-i in
    let after-lowest = c.after_lowest-rest in
    let page = low_page args.levels args.address.0 in
    let high = lt-ltb args.levels (get_or args.place.now lowest.result 0 % 8) (omega arith) in
    let so_far = loop.invariant.1 page wants-of.ensures in
    let last = rw high at (place_wanted args.levels page args.place.now loop.rest wanted-from.result lowest.result after-lowest.result (omega arith) (omega arith) lowest.ensures.0 after-lowest.ensures.0 (rw wants-of.ensures at wanted-from.ensures.0)) in
    let all = keys_count args.place.now args.set (omega arith) in
    let left = keys_count args.place.now after-lowest.result (omega arith) in
    (omega (arith, so_far.0, last.0), omega (arith, so_far.1, last.1, all, left))
