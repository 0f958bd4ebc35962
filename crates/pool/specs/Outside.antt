-- What it means that a step changes nothing outside an area of frames.
-- Assumes nothing.
use Rattle.std.specs.Prelude.{ℕ, ◌+◌, ◌*◌, ◌<◌, ◌≤◌, ◌≡◌, ◌⊎◌, List, length, get_or}

-- n is as long as m and has its words, but for those of the s frames from b on
pub record SameOutside (b s : ℕ) (m n : List ℕ) : Type 0 where
  pub long : length n ≡ length m
  pub same : (j : ℕ) → (j < b * 512) ⊎ ((b + s) * 512 ≤ j) → get_or n j 0 ≡ get_or m j 0
