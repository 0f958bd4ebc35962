-- Keys that ascend fit; all others are compared.
use mathlib.Core.Path.{sym, ◌∙◌}
use Rattle.marks.proofs.Ascending.{ascending_fits}
use Rattle.marks.proofs.fits.Goals as goal

pub returns-then-ascends : goal.returns-then-ascends
returns-then-ascends c = sym (ascending_fits c.args.levels 0 _ (sym c.ascends.ensures ∙ c.if-ascends.true))
