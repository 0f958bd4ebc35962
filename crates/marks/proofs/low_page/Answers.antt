-- A remainder by a power of two, or, of six indexes and more, the whole page number.
use mathlib.Core.Path.{◌∙◌, sym}
use Prim.Native.Nat.{◌*◌}
use native.Mathlib.Omega.{arith}
use lib.Pow.{pow_pos}
use Rattle.marks.proofs.Pages.{low_all}
use Rattle.marks.proofs.low_page.Goals as goal

pub nonzero_rem-result : goal.nonzero_rem-result
nonzero_rem-result c = rw c.power.ensures (omega (arith, pow_pos (9 * c.args.levels)))

pub returns : goal.returns
returns c = c.page-2.ensures ∙ sym (low_all c.args.levels c.args.address.0 (omega arith) (omega arith))
