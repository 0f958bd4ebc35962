-- The page number in the low bits of an address: it fits the indexes and has them.
use mathlib.Core.Path.{◌≡◌}
use Prim.Native.Nat.{ℕ, ◌*◌, ◌^◌, ◌<◌, ◌≤◌}
use native.Mathlib.Nat.{mod-lt, mod-eq_of_lt}
use native.Mathlib.Omega.{arith}
use lib.Pow.{pow_pos, pow_mono, split}
use Rattle.spec.specs.Config.{Config}
use Rattle.spec.specs.Entry.{page_of, indexes}
use Rattle.spec.specs.Call.{address_indexes}
use Rattle.spec_laws.proofs.Indexes.{indexes_low}
use Rattle.marks.specs.Key.{low_page}

pub low_small : (n a : ℕ) → low_page n a < 2 ^ (9 * n)
unfolding low_page
low_small n a = mod-lt (page_of a) (pow_pos (9 * n))

pub low_indexes : (c : Config) (a : ℕ) → indexes c.levels (low_page c.levels a) ≡ address_indexes c a
unfolding low_page
low_indexes c a = indexes_low c.levels (page_of a)

pub low_page_lem : (n a : ℕ) → a < 2 ^ 64 → low_page n a < 2 ^ 52
unfolding low_page page_of
low_page_lem n a word = omega (arith, split (page_of a) (9 * n))

-- six indexes take all bits of a page number
pub low_all : (n a : ℕ) → 6 ≤ n → a < 2 ^ 64 → low_page n a ≡ page_of a
unfolding low_page page_of
low_all n a six word =
    let most : 2 ^ 52 ≤ 2 ^ (9 * n) = pow_mono {i = 52} (omega arith) in
    mod-eq_of_lt (omega arith)
