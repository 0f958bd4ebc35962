use mathlib.Core.Path.{◌≡◌, sym, ◌∙◌}
use mathlib.Core.Bool.{true}
use Prim.Native.Nat.{◌^◌, ◌<◌}
use native.Mathlib.Omega.{arith}
use lib.ListN.{get_or}
use Rattle.record.specs.Words.{head_in}
use Rattle.record.specs.Record.{choices_fit, sizes_fit}
use Rattle.record.proofs.Rules.{sized_layout, sizes_say, fits_by, choices_levels, fits_choices}
use Rattle.record.proofs.fits.Goals as goal

pub returns-then-not-choices_fit : goal.returns-then-not-choices_fit
returns-then-not-choices_fit c =
    let choices-fit = c.choices_fit in
    sym (fits_choices _ _ (sym (rw c.layout_in-l.ensures at choices-fit.ensures) ∙ c.if-not-choices_fit.true))

pub returns-then-not-sizes_fit : goal.returns-then-not-sizes_fit
returns-then-not-sizes_fit c =
    let sizes-fit = c.sizes_fit in
    let choices-fit = c.choices_fit in
    let layout-in = c.layout_in-l in
    let set-in = c.set_in-set in
    let args = c.args in
    let l = (head_in args.w.now).layout in
    let chosen : choices_fit l ≡ true = sym (rw layout-in.ensures at choices-fit.ensures) ∙ c.if-not-choices_fit.false in
    let small : get_or args.w.now 15 0 < 2 ^ 64 = omega (arith, set-in.ensures) in
    fits_by _ _ _ small chosen (rw (chosen, ← (rw layout-in.ensures at sizes-fit.ensures), c.if-not-sizes_fit.true))

pub frame_fits-requires : goal.frame_fits-requires
frame_fits-requires c =
    let sizes-fit = c.sizes_fit in
    let if1 = c.if-not-choices_fit in
    let choices-fit = c.choices_fit in
    let layout-in = c.layout_in-l in
    let args = c.args in
    let l = (head_in args.w.now).layout in
    let chosen : choices_fit l ≡ true = sym (rw layout-in.ensures at choices-fit.ensures) ∙ if1.false in
    let sized : sizes_fit l args.len ≡ true = sym (rw layout-in.ensures at sizes-fit.ensures) ∙ c.if-not-sizes_fit.false in
    rw layout-in.ensures (sized_layout (sizes_say l args.len chosen sized))

pub returns-then-not-frame_fits : goal.returns-then-not-frame_fits
returns-then-not-frame_fits c =
    let frame_fits_lem = c.frame_fits in
    let if2 = c.if-not-sizes_fit in
    let sizes-fit = c.sizes_fit in
    let if1 = c.if-not-choices_fit in
    let choices-fit = c.choices_fit in
    let layout-in = c.layout_in-l in
    let set-in = c.set_in-set in
    let args = c.args in
    let l = (head_in args.w.now).layout in
    let chosen : choices_fit l ≡ true = sym (rw layout-in.ensures at choices-fit.ensures) ∙ if1.false in
    let small : get_or args.w.now 15 0 < 2 ^ 64 = omega (arith, set-in.ensures) in
    let sized : sizes_fit l args.len ≡ true = sym (rw layout-in.ensures at sizes-fit.ensures) ∙ if2.false in
    fits_by _ _ _ small chosen (rw (chosen, sized, ← (rw layout-in.ensures at frame_fits_lem.ensures), c.if-not-frame_fits.true))

pub fits-requires : goal.fits-requires
fits-requires c =
    let if1 = c.if-not-choices_fit in
    let choices-fit = c.choices_fit in
    let layout-in = c.layout_in-l in
    let args = c.args in
    let l = (head_in args.w.now).layout in
    let chosen : choices_fit l ≡ true = sym (rw layout-in.ensures at choices-fit.ensures) ∙ if1.false in
    rw layout-in.ensures (omega (arith, choices_levels l chosen))

pub returns-then-not-fits : goal.returns-then-not-fits
returns-then-not-fits c =
    let fits2 = c.fits in
    let frame_fits_lem = c.frame_fits in
    let if2 = c.if-not-sizes_fit in
    let sizes-fit = c.sizes_fit in
    let if1 = c.if-not-choices_fit in
    let choices-fit = c.choices_fit in
    let layout-in = c.layout_in-l in
    let set-in = c.set_in-set in
    let args = c.args in
    let l = (head_in args.w.now).layout in
    let chosen : choices_fit l ≡ true = sym (rw layout-in.ensures at choices-fit.ensures) ∙ if1.false in
    let small : get_or args.w.now 15 0 < 2 ^ 64 = omega (arith, set-in.ensures) in
    let sized : sizes_fit l args.len ≡ true = sym (rw layout-in.ensures at sizes-fit.ensures) ∙ if2.false in
    fits_by _ _ _ small chosen (rw (chosen, sized, ← (rw layout-in.ensures at frame_fits_lem.ensures), c.if-not-frame_fits.false, ← (rw (layout-in.ensures, set-in.ensures) at fits2.ensures), c.if-not-fits.true))

pub tables_fit-requires : goal.tables_fit-requires
tables_fit-requires c =
    let if2 = c.if-not-sizes_fit in
    let sizes-fit = c.sizes_fit in
    let if1 = c.if-not-choices_fit in
    let choices-fit = c.choices_fit in
    let layout-in = c.layout_in-l in
    let args = c.args in
    let l = (head_in args.w.now).layout in
    let chosen : choices_fit l ≡ true = sym (rw layout-in.ensures at choices-fit.ensures) ∙ if1.false in
    let sized : sizes_fit l args.len ≡ true = sym (rw layout-in.ensures at sizes-fit.ensures) ∙ if2.false in
    rw layout-in.ensures (sized_layout (sizes_say l args.len chosen sized))

pub returns-then-not-fits-2 : goal.returns-then-not-fits-2
returns-then-not-fits-2 c =
    let fits3 = c.fits-2 in
    let if4 = c.if-not-fits in
    let fits2 = c.fits in
    let if3 = c.if-not-frame_fits in
    let frame_fits_lem = c.frame_fits in
    let if2 = c.if-not-sizes_fit in
    let sizes-fit = c.sizes_fit in
    let if1 = c.if-not-choices_fit in
    let choices-fit = c.choices_fit in
    let layout-in = c.layout_in-l in
    let set-in = c.set_in-set in
    let args = c.args in
    let l = (head_in args.w.now).layout in
    let chosen : choices_fit l ≡ true = sym (rw layout-in.ensures at choices-fit.ensures) ∙ if1.false in
    let small : get_or args.w.now 15 0 < 2 ^ 64 = omega (arith, set-in.ensures) in
    let sized : sizes_fit l args.len ≡ true = sym (rw layout-in.ensures at sizes-fit.ensures) ∙ if2.false in
    fits_by _ _ _ small chosen (rw (chosen, sized, ← (rw layout-in.ensures at frame_fits_lem.ensures), if3.false, ← (rw (layout-in.ensures, set-in.ensures) at fits2.ensures), if4.false, ← (rw (c.tally_in.ensures, set-in.ensures) at fits3.ensures), c.if-not-fits-2.true))

pub returns : goal.returns
returns c =
    let if5 = c.if-not-fits-2 in
    let fits3 = c.fits-2 in
    let tally-in = c.tally_in in
    let if4 = c.if-not-fits in
    let fits2 = c.fits in
    let if3 = c.if-not-frame_fits in
    let frame_fits_lem = c.frame_fits in
    let if2 = c.if-not-sizes_fit in
    let sizes-fit = c.sizes_fit in
    let if1 = c.if-not-choices_fit in
    let choices-fit = c.choices_fit in
    let layout-in = c.layout_in-l in
    let set-in = c.set_in-set in
    let args = c.args in
    let l = (head_in args.w.now).layout in
    let chosen : choices_fit l ≡ true = sym (rw layout-in.ensures at choices-fit.ensures) ∙ if1.false in
    let small : get_or args.w.now 15 0 < 2 ^ 64 = omega (arith, set-in.ensures) in
    let sized : sizes_fit l args.len ≡ true = sym (rw layout-in.ensures at sizes-fit.ensures) ∙ if2.false in
    fits_by _ _ _ small chosen (rw (chosen, sized, ← (rw layout-in.ensures at frame_fits_lem.ensures), if3.false, ← (rw (layout-in.ensures, set-in.ensures) at fits2.ensures), if4.false, ← (rw (tally-in.ensures, set-in.ensures) at fits3.ensures), if5.false) (rw (layout-in.ensures, c.pools_in.ensures) at c.tables_fit.ensures))
