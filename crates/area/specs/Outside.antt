-- Paths whose indexes are those of tables.
-- Assumes nothing.
use Rattle.std.specs.Prelude.{ℕ, ◌<◌, List, [], ◌∷◌}

-- each index of a path is one of a table
abbrev pub Narrow : List ℕ → Type 0
Narrow [] = Unit {0}
Narrow (i ∷ is) = (i < 512) × Narrow is
