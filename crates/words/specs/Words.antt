-- Words of the lent memory, 512 to a frame. Reads and stores past the end are total.
-- Assumes nothing.
use Rattle.std.specs.Prelude.{◌≡◌, ℕ, zero, suc, ◌+◌, ◌*◌, ◌<◌, List, get_or, set}

-- the place of word i of frame f
abbrev pub at : ℕ → ℕ → ℕ
at f i = f * 512 + i

-- word i of frame f
abbrev pub word_in : List ℕ → ℕ → ℕ → ℕ
word_in m f i = get_or m (at f i) 0

-- the memory with word i of frame f set to v
abbrev pub set_in : List ℕ → ℕ → ℕ → ℕ → List ℕ
set_in m f i v = set m (at f i) v

-- n words from a place on set to 0
unfoldable pub zeroed : List ℕ → ℕ → ℕ → List ℕ
zeroed m place zero = m
zeroed m place (suc n) = set (zeroed m place n) (place + n) 0

-- the frame g holds the same words in both memories
abbrev pub SameFrame : List ℕ → List ℕ → ℕ → Type 0
SameFrame m n g = (k : ℕ) → k < 512 → word_in n g k ≡ word_in m g k
