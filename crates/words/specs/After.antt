-- What a function that is lent the memory leaves: its result and the memory. Every contract over `mem` is one equation of this pair.
-- Assumes nothing.
use Rattle.std.specs.Prelude.{ℕ, List}

pub record After (A : Type 0) : Type 0 where
  pub result : A
  pub memory : List ℕ

abbrev pub yields : {A : Type 0} → A → List ℕ → After A
yields r m = record { result = r; memory = m }
