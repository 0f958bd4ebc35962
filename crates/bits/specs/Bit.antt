-- One bit of a number, and the list of the places at which a bit is set.
-- Assumes nothing.
use Rattle.std.specs.Prelude.{ℕ, zero, suc, ◌/◌, ◌%◌, ◌^◌, cond, List, [], ◌∷◌, ◌++◌, eqb}

-- the bit of x at the place i, counted from the lowest: 0 or 1
abbrev pub bit : ℕ → ℕ → ℕ
bit x i = x / 2 ^ i % 2

-- the place i where it is set in x, else none
abbrev pub set_at : ℕ → ℕ → List ℕ
set_at x i = cond (eqb (bit x i) 1) (i ∷ []) []

-- the places below k that are set in x, the lowest first
unfoldable pub places : ℕ → ℕ → List ℕ
places zero x = []
places (suc i) x = places i x ++ set_at x i

-- the numbers below n, the least first
unfoldable pub below : ℕ → List ℕ
below zero = []
below (suc n) = below n ++ (n ∷ [])
