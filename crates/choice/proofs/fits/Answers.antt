-- Each way goes by its test.
use mathlib.Core.Path.{sym}
use mathlib.Core.Bool.{◌&&◌, and-false, and-true}
use Prim.Native.Nat.{◌<◌}
use lib.Dec.{leb}
use lib.ListN.{take}
use native.Mathlib.Omega.{arith}
use borrow.Author.Tests.{ne_eqb, le-leb, lt-leb}
use Rattle.choice.specs.Order.{order_fits, choice_fits}
use Rattle.choice.proofs.fits.Goals as goal

pub returns-then-t-ne0 : goal.returns-then-t-ne0
unfolding choice_fits
returns-then-t-ne0 c = let args = c.args in
    rw (c.if-t-eq0.true, ne_eqb _ 0 c.if-t-ne0.true) (sym (and-false (leb args.t.count 64 && order_fits args.place.now args.set (take args.t.count args.order.now))))

pub returns-then-t-eq0 : goal.returns-then-t-eq0
unfolding choice_fits order_fits
returns-then-t-eq0 c = let if1 = c.if-t-eq0 in
    rw (if1.true, c.if-t-ne0.false)

pub returns-then-t-ne1 : goal.returns-then-t-ne1
unfolding choice_fits
returns-then-t-ne1 c = let high : 1 < c.args.t.on = omega arith in rw (lt-leb _ 1 high)

pub returns-then-t-gt64 : goal.returns-then-t-gt64
unfolding choice_fits
returns-then-t-gt64 c = rw (c.if-t-ne1.false, lt-leb _ 64 c.if-t-gt64.true)

pub returns : goal.returns
unfolding choice_fits
returns c = let if3 = c.if-t-ne1 in
    rw (if3.false, le-leb _ 64 c.if-t-gt64.false, ← c.order_fits.ensures) (sym (and-true c.order_fits.result))
