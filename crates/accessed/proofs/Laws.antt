-- The entries of a walk one after the other, as the loops meet them.
use mathlib.Core.Path.{◌≡◌, refl, sym, ap, ap₂, ◌∙◌}
use Prim.Native.Nat.{ℕ, zero, suc, pred, ◌+◌, ◌-◌, ◌<◌, ◌≤◌}
use native.Mathlib.Omega.{arith}
use mathlib.Core.Bool.{Bool, true, false, not, ◌&&◌, ◌||◌, cond}
use mathlib.Core.List.{List, [], ◌∷◌}
use mathlib.Core.Option.{some}
use lib.Dec.{eqb}
use borrow.Author.Tests.{ne_eqb}
use lib.ListN.{get_or}
use Rattle.spec.specs.Config.{Config}
use Rattle.spec.specs.Plain.{is_span}
use Rattle.spec.specs.Entry.{index, indexes, frame_of, dirty}
use Rattle.spec.specs.Bits.{is_last, has_bits, with_bits, lacks, may_write, owed, dirty_at}
use Rattle.spec_laws.proofs.Indexes.{indexes_step}
use Rattle.words.specs.Words.{word_in, set_in}
use Rattle.host.specs.Walk.{host_walk_of}
use Rattle.walk.specs.Memory.{place_of, memory_world}
use Rattle.accessed.specs.declared.Debt.TheVariants.{Table}
use Rattle.accessed.specs.Entries.{entries, tables_in, words_of, names_of, owed_by, owed_of, bits_in}

entries_step : (ts : List ℕ) (k n page : ℕ) → 0 < n
    → entries ts k (indexes n page) ≡ (get_or ts k 0, index (n - 1) page) ∷ entries ts (k + 1) (indexes (n - 1) page)
entries_step ts k n page h = ap (entries ts k) (indexes_step n page h)

entries_last : (ts : List ℕ) (k n page : ℕ) → is_last (entries ts k (indexes n page)) ≡ eqb n 0
unfolding indexes
entries_last ts k zero page = refl
entries_last ts k (suc n) page = sym (ne_eqb (suc n) 0 (λ e. omega arith))

-- ---- one turn of each loop, with n entries left: the next is in the k-th table

module _ (m ts : List ℕ) (st : Bool) (k n page : ℕ) (some_left : 0 < n) where
  abbrev left : ℕ
  left = n - 1

  abbrev e : ℕ
  e = word_in m (get_or ts k 0) (index left page)

  abbrev rest : List (ℕ × ℕ)
  rest = entries ts (k + 1) (indexes left page)

  last : is_last rest ≡ eqb left 0
  last = entries_last ts (k + 1) left page

  pub lacks_turn : lacks (words_of m) st (entries ts k (indexes n page)) ≡ (not (has_bits (st && eqb left 0) e) || lacks (words_of m) st rest)
  unfolding lacks
  lacks_turn =
      ap (lacks (words_of m) st) (entries_step ts k n page some_left)
      ∙ ap (λ b. not (has_bits (st && b) e) || lacks (words_of m) st rest) last

  -- with so many levels below the last
  pub owed_turn : (c : Config) (ht below g : ℕ)
      → owed_of c ht m st (below + n) g (entries ts k (indexes n page))
      ≡ cond (has_bits (st && eqb left 0) e || may_write (place_of (host_walk_of c ht m g))) (owed_of c ht m st (below + left) (frame_of e) rest) (Table (below + left + 1) g)
  unfolding owed_of owed memory_world
  owed_turn c ht below g =
      ap (owed_of c ht m st (below + n) g) (entries_step ts k n page some_left)
      ∙ ap₂ (λ b l. owed_by (cond (has_bits (st && b) e || may_write (place_of (host_walk_of c ht m g))) (owed (memory_world c ht m) st (pred l) rest (names_of m (frame_of e) rest)) (some (l, g)))) last long
      ∙ ap (λ l. owed_by (cond (has_bits (st && eqb left 0) e || may_write (place_of (host_walk_of c ht m g))) (owed (memory_world c ht m) st l rest (names_of m (frame_of e) rest)) (some (below + left + 1, g)))) down
      ∙ by (has_bits (st && eqb left 0) e || may_write (place_of (host_walk_of c ht m g)))
    where
      long : below + n ≡ below + left + 1
      long = omega (arith, some_left)

      down : pred (below + left + 1) ≡ below + left
      down = omega arith

      by : (b : Bool) → owed_by (cond b (owed (memory_world c ht m) st (below + left) rest (names_of m (frame_of e) rest)) (some (below + left + 1, g)))
          ≡ cond b (owed_by (owed (memory_world c ht m) st (below + left) rest (names_of m (frame_of e) rest))) (Table (below + left + 1) g)
      by true = refl
      by false = refl

  pub bits_turn : bits_in st m (entries ts k (indexes n page)) ≡ bits_in st (set_in m (get_or ts k 0) (index left page) (with_bits (st && eqb left 0) e)) rest
  bits_turn =
      ap (bits_in st m) (entries_step ts k n page some_left)
      ∙ ap (λ b. bits_in st (set_in m (get_or ts k 0) (index left page) (with_bits (st && b) e)) rest) last

-- ---- none is left

pub none_left : (ts : List ℕ) (k n page : ℕ) → n ≡ 0 → entries ts k (indexes n page) ≡ []
unfolding indexes
none_left ts k n page z = ap (λ j. entries ts k (indexes j page)) z

-- ---- the last entry

pub dirty_last : (m ts : List ℕ) (k n page : ℕ) → 0 < n
    → dirty_at (words_of m) (entries ts k (indexes n page)) ≡ dirty (word_in m (get_or ts (k + (n - 1)) 0) (index 0 page))
unfolding indexes
dirty_last m ts k zero page h = absurd (omega arith)
dirty_last m ts k (suc zero) page h = let z : k + 0 ≡ k = omega arith in ap (λ j. dirty (word_in m (get_or ts j 0) (index 0 page))) (sym z)
dirty_last m ts k (suc (suc n)) page h =
    let z : k + 1 + (suc n - 1) ≡ k + (suc (suc n) - 1) = omega arith in
    dirty_last m ts (k + 1) (suc n) page (omega arith) ∙ ap (λ j. dirty (word_in m (get_or ts j 0) (index 0 page))) z

-- ---- the tables before a span

pub tables_turn : (c : Config) (ts : List ℕ) (k n : ℕ) → 0 < n → tables_in c ts k n ≡ cond (is_span c (get_or ts k 0)) 0 (suc (tables_in c ts (k + 1) (n - 1)))
unfolding tables_in
tables_turn c ts k zero h = absurd (omega (arith, h))
tables_turn c ts k (suc n) h = let z : n ≡ suc n - 1 = omega arith in ap (λ j. cond (is_span c (get_or ts k 0)) 0 (suc (tables_in c ts (k + 1) j))) z

pub tables_most : (c : Config) (ts : List ℕ) (k n : ℕ) → tables_in c ts k n ≤ n
unfolding tables_in
tables_most c ts k zero = omega arith
tables_most c ts k (suc n) = go (is_span c (get_or ts k 0)) (tables_most c ts (k + 1) n)
  where
    go : (b : Bool) → tables_in c ts (k + 1) n ≤ n → cond b 0 (suc (tables_in c ts (k + 1) n)) ≤ suc n
    go true l = omega arith
    go false l = omega (arith, l)
