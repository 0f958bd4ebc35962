-- What the automatic choice keeps, in the specification's terms.
use Rattle.std.specs.Prelude.{ℕ, zero, suc, ◌-◌, ◌/◌, ◌%◌, Bool, true, false, List, [], ◌∷◌, map, reverse, eqb, take, get_or}
use Rattle.std.proofs.Math.Option.{none, some}
use Rattle.spec.specs.Entry.{indexes}
use Rattle.spec.specs.Book.{Window}
use Rattle.choice.specs.declared.Tally.{Tally}
use Rattle.choice.specs.Window.{room, unroll}

-- the k lowest bits of a word, the lowest first
unfoldable pub bits : ℕ → ℕ → List Bool
bits zero n = []
bits (suc k) n = eqb (n % 2) 1 ∷ bits k (n / 2)

-- the prefixes charged, the newest first, put where the bits are set
unfoldable pub spread : List Bool → List (List ℕ) → Window
spread [] ps = []
spread (true ∷ bs) [] = none ∷ spread bs []
spread (true ∷ bs) (p ∷ ps) = some p ∷ spread bs ps
spread (false ∷ bs) ps = none ∷ spread bs ps

-- the window that the word `charged` and the ring ps show; at: the place of the ring's next entry. A window that is not full is shown with
-- requests behind it that were charged to nobody, which count for nothing
abbrev pub shown : ℕ → ℕ → List (List ℕ) → Window
shown charged at ps = spread (bits room charged) (unroll (at % room) ps)

-- of n levels
abbrev pub window_in : ℕ → Tally → List ℕ → Window
window_in n t ring = shown t.charged t.at (map (indexes (n - 1)) ring)

-- the prefixes of the automatic marks, the one set last first
abbrev pub automatic_in : ℕ → Tally → List ℕ → List ℕ → List (List ℕ)
automatic_in n t order place = map (λ i. indexes (n - 1) (get_or place i 0 / 8)) (reverse (take t.count order))
