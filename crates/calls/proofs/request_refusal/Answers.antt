-- The first test that fails gives the number; the address is tested only where the record and the width fit, as its test asks for.
use mathlib.Core.Path.{sym, ◌∙◌, subst}
use lib.Dec.{T}
use Rattle.spec.specs.Bytes.{width_fits}
use Rattle.entry.specs.Levels.{of_levels}
use Rattle.calls.specs.Calls.{address_ok}
use Rattle.calls.proofs.Laws.{says_3, says_15, says_4, says_none}
use Rattle.calls.proofs.request_refusal.Goals as goal

pub returns-then-not-fits : goal.returns-then-not-fits
returns-then-not-fits c =
    let args = c.args in
    says_3 _ (width_fits args.width) (address_ok args.device (of_levels args.levels) args.address args.width) (c.if-not-fits.true)

pub returns-then-not-width_fits : goal.returns-then-not-width_fits
returns-then-not-width_fits c =
    let width-fits = c.width_fits in
    let args = c.args in
    let ok = address_ok args.device (of_levels args.levels) args.address args.width in
    says_15 _ _ ok (c.if-not-fits.false) (sym width-fits.ensures ∙ c.if-not-width_fits.true)

pub address_ok-requires : goal.address_ok-requires
address_ok-requires c =
    let width-fits = c.width_fits in
    let args = c.args in
    let pre = c.requires in
    let wide = sym width-fits.ensures ∙ c.if-not-width_fits.false in
    (pre (c.if-not-fits.false), subst T (sym wide) tt)

pub returns-then-not-address_ok : goal.returns-then-not-address_ok
returns-then-not-address_ok c =
    let address-ok = c.address_ok in
    let width-fits = c.width_fits in
    let if1 = c.if-not-fits in
    let args = c.args in
    says_4 _ _ _ (if1.false) (sym width-fits.ensures ∙ c.if-not-width_fits.false)
    (sym address-ok.ensures ∙ c.if-not-address_ok.true)

pub returns : goal.returns
returns c =
    let address-ok = c.address_ok in
    let width-fits = c.width_fits in
    let if1 = c.if-not-fits in
    let args = c.args in
    says_none _ _ _ (if1.false) (sym width-fits.ensures ∙ c.if-not-width_fits.false)
    (sym address-ok.ensures ∙ c.if-not-address_ok.false)
