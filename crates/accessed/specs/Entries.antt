-- The entries that a walk read, by the tables that it hands out, and their accessed and dirty bits; for any memory.
-- Assumes nothing.
use Rattle.std.specs.Prelude.{ℕ, zero, suc, ◌+◌, ◌-◌, ◌*◌, ◌/◌, ◌^◌, ◌<◌, Bool, ◌&&◌, cond, List, [], ◌∷◌, map, get_or}
use Rattle.std.proofs.Math.Option.{Option, none, some}
use Rattle.spec.specs.Config.{Config}
use Rattle.spec.specs.Entry.{frame_of, frame_limit, indexes}
use Rattle.spec.specs.Walk.{World}
use Rattle.spec.specs.Plain.{is_span}
use Rattle.spec.specs.Bits.{is_last, with_bits, owed}
use Rattle.words.specs.Words.{word_in, set_in}
use Rattle.walk.specs.Memory.{memory_world}
use Rattle.accessed.specs.declared.Seen.{Seen}
use Rattle.accessed.specs.declared.Debt.{Debt}
use Rattle.accessed.specs.declared.Debt.TheVariants.{Nothing, Table}

-- the entries at these indexes, one a table, in the tables from the k-th on: host frame and index
abbrev pub entries : List ℕ → ℕ → List ℕ → List (ℕ × ℕ)
entries ts k [] = []
entries ts k (i ∷ is) = (get_or ts k 0, i) ∷ entries ts (k + 1) is

-- how many of the n places from the k-th on are tables: a span ends them
unfoldable pub tables_in : Config → List ℕ → ℕ → ℕ → ℕ
tables_in c ts k zero = 0
tables_in c ts k (suc n) = cond (is_span c (get_or ts k 0)) 0 (suc (tables_in c ts (k + 1) n))

-- the entries that a walk read by the n lowest indexes of a number, on its way through these places: those at the highest of the indexes, as many
-- as it came through tables
unfoldable pub seen_of : Config → List ℕ → ℕ → ℕ → Seen
seen_of c ts n number =
    let k = tables_in c ts 0 n in
    record { path = number / 2 ^ (9 * (n - k)); steps = k; below = n - k }

abbrev pub seen_entries : List ℕ → Seen → List (ℕ × ℕ)
seen_entries ts s = entries ts 0 (indexes s.steps s.path)

-- the first n tables have the numbers of frames
abbrev pub Frames : ℕ → List ℕ → Type 0
Frames n ts = (k : ℕ) → k < n → get_or ts k 0 < frame_limit

-- memory's words; of the host nothing is asked
abbrev pub words_of : List ℕ → World
words_of m = record { host_at = λ g. none; host_cost = λ g. 0; word_at = word_in m }

-- the guest frames that the entries name, after that of the first table
abbrev pub names_of : List ℕ → ℕ → List (ℕ × ℕ) → List ℕ
names_of m g xs = g ∷ map (λ x. frame_of (word_in m x.0 x.1)) xs

abbrev pub owed_by : Option (ℕ × ℕ) → Debt
owed_by none = Nothing
owed_by (some o) = Table o.0 o.1

-- what a load or a store (st) owes in the entries xs, from level n down, the first of which lies in the table of guest frame g
unfoldable pub owed_of : Config → ℕ → List ℕ → Bool → ℕ → ℕ → List (ℕ × ℕ) → Debt
owed_of c ht m st n g xs = owed_by (owed (memory_world c ht m) st n xs (names_of m g xs))

-- the memory once each of the entries has its bits
abbrev pub bits_in : Bool → List ℕ → List (ℕ × ℕ) → List ℕ
bits_in st m [] = m
bits_in st m (x ∷ xs) = bits_in st (set_in m x.0 x.1 (with_bits (st && is_last xs) (word_in m x.0 x.1))) xs
