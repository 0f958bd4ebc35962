-- The loop's invariant: what is left of the list comes to the whole forecast, and after i addresses the sums are those of i at most.
use mathlib.Core.Path.{◌≡◌, sym, ap, ◌∙◌}
use Prim.Native.Nat.{suc, ◌+◌}
use native.Mathlib.Omega.{arith}
use lib.ListN.{get_or, drop, drop_of_length-le}
use Rattle.words.specs.After.{After}
use Rattle.layout.specs.Layout.{config}
use Rattle.marks.specs.Table.{keys}
use Rattle.translate.proofs.Fits.{held_small}
use Rattle.forecast.specs.Forecast.{onward, list_of, forecast_of}
use Rattle.forecast.specs.declared.Next.{Next}
use Rattle.forecast.proofs.Fits.{NextFits, address_fits_lem}
use Rattle.forecast.proofs.Laws.{list_step}
use Rattle.forecast.proofs.forecast.Goals.{After-one_address}
use Rattle.forecast.proofs.forecast.Goals as goal

-- what is left of the list, by where its next address came to
stepped : (c : After-one_address) →
    let args = c.args in
    let loop = c.loop-i in
    let k = config args.space.layout in
    onward c.one_address.result (λ o. list_of k args.space.top args.mem.now args.held args.root.0 (keys args.place.now args.set) c.one_address.new.room o (drop (loop.i + 1) args.addresses.now))
    ≡ forecast_of k args.space.top args.mem.now args.held args.root.0 (keys args.place.now args.set) args.addresses.now
stepped c =
    let loop-test = c.loop-i-test in
    let args = c.args in
    let loop = c.loop-i in
    rw (← c.one_address.ensures) at (sym (list_step (config args.space.layout) args.space.top args.mem.now args.held args.root.0 (keys args.place.now args.set) loop.room loop.at args.addresses.now loop.i loop-test.true) ∙ loop.invariant.2)

-- and the ranges there
ranged : (c : After-one_address) → NextFits (c.loop-i.i + 1) c.one_address.result
ranged c =
    let args = c.args in
    let pre = c.requires in
    let loop = c.loop-i in
    let z : suc loop.i ≡ loop.i + 1 = omega arith in
    rw (ap (λ (x : After Next). x.result) c.one_address.ensures, ← z)
    (address_fits_lem (config args.space.layout) args.space.top args.mem.now args.held args.root.0 pre.0.0 pre.0.2 loop.i loop.room loop.at loop.invariant.0 (keys args.place.now args.set) (get_or args.addresses.now loop.i 0))

pub loop-i-init : goal.loop-i-init
unfolding forecast_of
loop-i-init c =
    let pre = c.requires in
    (rw c.begin-at.ensures ((omega arith, omega arith), (pre.2, omega arith)), omega arith, rw c.begin-at.ensures)

pub one_address-requires : goal.one_address-requires
one_address-requires c =
    let pre = c.requires in
    let args = c.args in
    let loop = c.loop-i in
    let loop-test = c.loop-i-test in
    (pre.0, held_small (config args.space.layout) args.held pre.1 pre.0.3, let i = loop.invariant.0 in ((omega (arith, i.0.0, pre.3, loop-test.true), omega (arith, i.0.1, pre.3, loop-test.true)), (i.1.0, omega (arith, i.1.1, pre.3, loop-test.true))))

pub returns : goal.returns
unfolding list_of
returns c =
    let args = c.args in
    let loop = c.loop-i in
    rw (drop_of_length-le args.addresses.now {i = loop.i} (omega (arith, c.loop-i-test.false))) at loop.invariant.2

pub returns-in-Damaged : goal.returns-in-Damaged
returns-in-Damaged c = rw c.in-Damaged.is at (stepped (goal.at.returns-in-Damaged c).After-one_address)

pub loop-i-preserved : goal.loop-i-preserved
loop-i-preserved c =
    let loop-test = c.loop-i-test in
    (rw c.in-Go.is at (ranged (goal.at.loop-i-preserved c).After-one_address), omega (arith, loop-test.true), rw c.in-Go.is at (stepped (goal.at.loop-i-preserved c).After-one_address))
