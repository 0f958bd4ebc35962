-- A list of calls on a table area, as the definitions of the area answer it and as a finite map does.
-- Assumes nothing.
use Rattle.std.specs.Prelude.{ℕ, ◌+◌, Bool, true, false, cond, leb}
use mathlib.Core.List.{List, [], ◌∷◌, tail}
use Rattle.spec.specs.Entry.{present}
use Rattle.spec.specs.Prefix.{same, propers, tables_of}
use Rattle.spec.specs.Machine.{standing}
use Rattle.pool.specs.declared.Area.{Area}
use Rattle.pool.specs.declared.Pool.{Pool}
use Rattle.pool.specs.declared.Way.{Way}
use Rattle.pool.specs.declared.Way.TheVariants.{To, Not, Damaged}
use Rattle.area.specs.declared.Look.{Look}
use Rattle.area.specs.declared.Look.TheVariants.{Seen}
use Rattle.area.specs.declared.Look.TheVariants as look
use Rattle.area.specs.Tree.{lookup_of, insert_of}
use Rattle.prune.specs.Remove.{remove_of}
use Rattle.words.specs.After.{After}
use Rattle.pool.specs.declared.Went.{Went}

-- a path from the top: its entry set, with the guest frames of its tables by depth; its entry removed; its entry looked up
pub data Op : Type 0 where
  put : List ℕ → List ℕ → ℕ → Op
  cut : List ℕ → Op
  see : List ℕ → Op

-- done or not; the entry, and how many words were read; an entry names a frame outside the area
pub data Reply : Type 0 where
  did : Bool → Reply
  saw : ℕ → ℕ → Reply
  broke : Reply

-- ---- by the definitions of the area
pub record State : Type 0 where
  pub pool : Pool
  pub memory : List ℕ

abbrev pub told : Way → Reply
told (To f) = did true
told Not = did false
told Damaged = broke

abbrev pub seen : Look → Reply
seen (Seen e n) = saw e n
seen look.Damaged = broke

abbrev pub left : After Went → State
left t = record { pool = t.result.pool; memory = t.memory }

unfoldable pub answers : Area → Bool → State → List Op → List Reply
answers a stays t [] = []
answers a stays t (put is gs e ∷ os) = let r = insert_of a gs t.pool t.memory is e in told r.result.way ∷ answers a stays (left r) os
answers a stays t (cut is ∷ os) = let r = remove_of a stays t.pool t.memory is in told r.result.way ∷ answers a stays (left r) os
answers a stays t (see is ∷ os) = seen (lookup_of a.base a.size t.memory t.pool.top is 0) ∷ answers a stays t os

unfoldable pub after : Area → Bool → State → List Op → State
after a stays t [] = t
after a stays t (put is gs e ∷ os) = after a stays (left (insert_of a gs t.pool t.memory is e)) os
after a stays t (cut is ∷ os) = after a stays (left (remove_of a stays t.pool t.memory is)) os
after a stays t (see is ∷ os) = after a stays t os

-- ---- by a finite map: paths, from the top, with their entries
abbrev pub Map : Type 0
Map = List (List ℕ × ℕ)

unfoldable pub get : Map → List ℕ → ℕ
get [] is = 0
get (x ∷ es) is = cond (same x.0 is) x.1 (get es is)

unfoldable pub without : List ℕ → Map → Map
without is [] = []
without is (x ∷ es) = cond (same x.0 is) (without is es) (x ∷ without is es)

unfoldable pub paths : Map → List (List ℕ)
paths [] = []
paths (x ∷ es) = x.0 ∷ paths es

-- words that a lookup reads: one for each prefix that some path has; a top table that stays is always read
abbrev pub words_read : Bool → List (List ℕ) → List ℕ → ℕ
words_read stays xs is = cond stays (1 + standing (tail (propers is)) xs) (standing (propers is) xs)

-- a path is put exactly if the different proper prefixes, with the new one, are no more than the frames
unfoldable pub specified : ℕ → Bool → Map → List Op → List Reply
specified size stays es [] = []
specified size stays es (put is gs e ∷ os) =
    cond (leb (tables_of (is ∷ paths es)) size) (did true ∷ specified size stays ((is, e) ∷ es) os) (did false ∷ specified size stays es os)
specified size stays es (cut is ∷ os) =
    cond (present (get es is)) (did true ∷ specified size stays (without is es) os) (did false ∷ specified size stays es os)
specified size stays es (see is ∷ os) = saw (get es is) (words_read stays (paths es) is) ∷ specified size stays es os
