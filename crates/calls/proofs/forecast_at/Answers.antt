-- 3, 16 and then 14; where none applies, the record has its layout and what it holds in range.
use mathlib.Core.Path.{◌≡◌, sym, ap, ◌∙◌}
use mathlib.Core.Bool.{true, not}
use native.Mathlib.Omega.{arith}
use lib.ListN.{length}
use borrow.Author.Tests.{lt-leb, le-leb}
use Rattle.translate.proofs.Bits.{chosen_off, chosen_on}
use Rattle.record.specs.Record.{record_by, fits_of}
use Rattle.calls.specs.Calls.{forecast_call}
use Rattle.calls.proofs.Laws.{broken, failed, passed}
use Rattle.calls.proofs.Ranges.{fits_sound, fits_held, fits_used}
use Rattle.calls.proofs.forecast_at.Goals as goal

pub returns-then-not-fits : goal.returns-then-not-fits
unfolding forecast_call
returns-then-not-fits c =
    let args = c.args in
    let pre = c.requires in
    let r = record_by args.head args.place.now args.ring.now args.order.now in
    broken r args.mem.now _ (sym pre ∙ c.if-not-fits.true)

pub returns-then-head-ne0 : goal.returns-then-head-ne0
unfolding forecast_call
returns-then-head-ne0 c =
    let args = c.args in
    let pre = c.requires in
    let r = record_by args.head args.place.now args.ring.now args.order.now in
    let fits : fits_of r (length args.mem.now) ≡ true = sym pre ∙ c.if-not-fits.false in
    failed r args.mem.now _ _ _ fits (ap not (chosen_on _ c.if-head-ne0.true))

pub returns-then-addresses-gt-MOST : goal.returns-then-addresses-gt-MOST
unfolding forecast_call
returns-then-addresses-gt-MOST c =
    let if1 = c.if-not-fits in
    let args = c.args in
    let pre = c.requires in
    let r = record_by args.head args.place.now args.ring.now args.order.now in
    let fits : fits_of r (length args.mem.now) ≡ true = sym pre ∙ if1.false in
    rw (lt-leb _ _ c.if-addresses-gt-MOST.true) (passed r args.mem.now _ _ _ fits (ap not (chosen_off _ c.if-head-ne0.false)))

pub forecast-requires : goal.forecast-requires
forecast-requires c =
    let if1 = c.if-not-fits in
    let args = c.args in
    let pre = c.requires in
    let r = record_by args.head args.place.now args.ring.now args.order.now in
    let fits : fits_of r (length args.mem.now) ≡ true = sym pre ∙ if1.false in
    rw (c.space_in.ensures, c.held_in.ensures) ((fits_sound r _ fits).0, fits_held r _ fits, fits_used r _ fits, omega (arith, c.if-addresses-gt-MOST.false))

pub returns : goal.returns
unfolding forecast_call
returns c =
    let if3 = c.if-addresses-gt-MOST in
    let if2 = c.if-head-ne0 in
    let if1 = c.if-not-fits in
    let args = c.args in
    let pre = c.requires in
    let r = record_by args.head args.place.now args.ring.now args.order.now in
    let fits : fits_of r (length args.mem.now) ≡ true = sym pre ∙ if1.false in
    let told = rw (c.held_in.ensures, c.space_in.ensures) at c.forecast.ensures in
    rw (told, le-leb _ _ if3.false) (passed r args.mem.now _ _ _ fits (ap not (chosen_off _ if2.false)))
