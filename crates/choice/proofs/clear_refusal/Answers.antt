-- Each refusal by its test, in their order.
use mathlib.Core.Path.{sym, ◌∙◌}
use native.Mathlib.Omega.{arith}
use Rattle.marks.proofs.Ascending.{level_below}
use Rattle.choice.specs.Refusal.{clear_refusal}
use Rattle.choice.proofs.clear_refusal.Goals as goal

pub returns-then-not-fits : goal.returns-then-not-fits
unfolding clear_refusal
returns-then-not-fits c = rw (← c.fits.ensures, c.if-not-fits.true)

pub returns-then-not-level_fits : goal.returns-then-not-level_fits
unfolding clear_refusal
returns-then-not-level_fits c = rw (← c.fits.ensures, c.if-not-fits.false, ← c.level_fits.ensures, c.if-not-level_fits.true)

pub key_of-requires : goal.key_of-requires
key_of-requires c = omega (arith, level_below c.args.levels c.args.level (sym c.level_fits.ensures ∙ c.if-not-level_fits.false))

pub returns-then-owned : goal.returns-then-owned
unfolding clear_refusal
returns-then-owned c = rw (← c.fits.ensures, c.if-not-fits.false, ← c.level_fits.ensures, c.if-not-level_fits.false, ← c.key_of.ensures, ← c.owned.ensures, c.if-owned.true)

pub returns : goal.returns
unfolding clear_refusal
returns c = rw (← c.fits.ensures, c.if-not-fits.false, ← c.level_fits.ensures, c.if-not-level_fits.false, ← c.key_of.ensures, ← c.owned.ensures, c.if-owned.false)
