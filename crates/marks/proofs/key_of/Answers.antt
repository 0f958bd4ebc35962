-- A shift makes no number greater, so the sum fits.
use Prim.Native.Nat.{ℕ, ◌*◌, ◌/◌, ◌^◌, ◌<◌}
use native.Mathlib.Omega.{arith}
use lib.Pow.{shr_le}
use Rattle.marks.proofs.Pages.{low_page_lem}
use Rattle.marks.specs.Key.{low_page, key_of}
use Rattle.marks.proofs.key_of.Goals as goal

-- the key is below 2 ^ 56
small : (n a l : ℕ) (word : a < 2 ^ 64) → low_page n a / 2 ^ l < 2 ^ 52
small n a l word = omega (arith, shr_le (low_page n a) l, low_page_lem n a word)

pub overflow_mul-result-2 : goal.overflow_mul-result-2
overflow_mul-result-2 c = rw c.low_page.ensures (omega (arith, small c.args.levels c.args.address.0 (9 * c.args.level) (omega arith)))

pub overflow_add-result : goal.overflow_add-result
overflow_add-result c = rw c.low_page.ensures (omega (arith, small c.args.levels c.args.address.0 (9 * c.args.level) (omega arith)))

pub returns : goal.returns
unfolding key_of
returns c = rw c.low_page.ensures
