-- What serving a list of load addresses, one after the other and of a word each, would cost. Document 02, 2).
-- Assumes nothing.
use Rattle.std.specs.Prelude.{ℕ, ◌+◌, max, List, [], ◌∷◌}
use Rattle.std.proofs.Math.Option.{Option, none, some}
use Rattle.spec.specs.Config.{Config}
use Rattle.spec.specs.Machine.{Machine}
use Rattle.spec.specs.Book.{Book, shadow_tables}
use Rattle.spec.specs.Call.{load_word}
use Rattle.spec.specs.Count.{Counted, free, book_step}
use Rattle.spec.specs.Refusal.{refusal}

-- references and exits, summed up, and the greatest number of shadow tables in use
pub record Figures : Type 0 where
  pub references : ℕ
  pub exits : ℕ
  pub tables : ℕ

-- what the load of a does to the book and costs: that very load's step, or nothing if it is refused, which is with 4.
-- A load leaves the machine as it is
abbrev pub served_by : Config → Machine → ℕ → Book → Option ℕ → Counted
served_by c m a b (some n) = free b
served_by c m a b none = book_step c (load_word a) m b

unfoldable pub served : Config → Machine → ℕ → Book → Counted
served c m a b = served_by c m a b (refusal c (load_word a) m b)

-- a load that was served, and the figures of those after it; t: the tables in use before it
abbrev pub plus : ℕ → Counted → Figures → Figures
plus t k f = record { references = k.references + f.references; exits = k.exits + f.exits; tables = max t f.tables }

-- the tables are counted before the first address and after each
unfoldable pub figures_of : Config → Machine → List ℕ → Book → Figures
figures_of c m [] b = record { references = 0; exits = 0; tables = shadow_tables b.held }
figures_of c m (a ∷ xs) b =
    let k : Counted = served c m a b in
    plus (shadow_tables b.held) k (figures_of c m xs k.book)
