-- Two tables of eight words, one for each number that the low three bits of a key hold: to judge a key and to match it is then
-- one read and one comparison.
use Rattle.std.specs.Prelude.{ℕ, ◌-◌, ◌*◌, ◌%◌, ◌^◌, Bool, cond, List, [], ◌∷◌, map, eqb, ltb, get_or}
use Rattle.spec.specs.Refusal.{level_fits}
use Rattle.entry.specs.Levels.{of_levels}
use Rattle.marks.specs.Key.{key_of}

abbrev pub by_level : (ℕ → ℕ) → List ℕ
by_level f = map f (0 ∷ 1 ∷ 2 ∷ 3 ∷ 4 ∷ 5 ∷ 6 ∷ 7 ∷ [])

-- where the keys of level l end if there are n levels: the first number too large for one; 0 where no mark has that level
unfoldable pub end_of : ℕ → ℕ → ℕ
end_of n l = cond (level_fits (of_levels n) l) (8 * 2 ^ (9 * (n - l))) 0

unfoldable pub ends_of : ℕ → List ℕ
ends_of n = by_level (end_of n)

-- the key that a mark of each level must have for the page p to begin with its indexes
unfoldable pub wants_of : ℕ → List ℕ
wants_of p = by_level (λ l. key_of l p)

-- is the key k below the end of its level?
abbrev pub fits_by : List ℕ → ℕ → Bool
fits_by ends k = ltb k (get_or ends (k % 8) 0)

-- is it the key wanted of its level?
abbrev pub wanted_by : List ℕ → ℕ → Bool
wanted_by wants k = eqb (get_or wants (k % 8) 0) k

-- the keys from the first that is wanted on
unfoldable pub wanted_from : List ℕ → List ℕ → List ℕ
wanted_from wants [] = []
wanted_from wants (k ∷ ks) = cond (wanted_by wants k) (k ∷ ks) (wanted_from wants ks)
