-- What a store to a guest table's word is charged to, as the shadow tables say it; for any memory.
-- Assumes nothing.
use Rattle.std.specs.Prelude.{ℕ, zero, suc, ◌+◌, ◌-◌, ◌*◌, Bool, false, cond, List, eqb, ltb}
use Rattle.spec.specs.Config.{Config}
use Rattle.spec.specs.Entry.{present}
use Rattle.pool.specs.Header.{entry_at_of, guest_of, level_of, parent_of, slot_of, inside_of}
use Rattle.charge.specs.declared.Prefix.{Prefix}
use Rattle.charge.specs.declared.Prefix.TheVariants.{Is}
use Rattle.charge.specs.declared.Prefix.TheVariants as prefix
use Rattle.charge.specs.declared.Charge.{Charge}
use Rattle.charge.specs.declared.Charge.TheVariants.{Nobody, To, Damaged}

-- ---- prefixes

-- one index more
abbrev pub longer_by : Prefix → ℕ → Prefix
longer_by (Is n) i = Is (n * 512 + i)
longer_by prefix.Damaged i = prefix.Damaged

-- the indexes that lead to the table in frame f, by k links up: the prefix of the table above, and then its slot there
unfoldable pub prefix_of : Config → List ℕ → ℕ → ℕ → Prefix
prefix_of c m zero f = Is 0
prefix_of c m (suc k) f = cond (inside_of c.hosts c.shadows (parent_of m f)) (longer_by (prefix_of c m k (parent_of m f)) (slot_of m f)) prefix.Damaged

-- ---- the pass over the tables

-- is frame f a table of level 1 for the guest table in host frame t, with an entry at index i? That ends a path whose level 1 word is word i of t
unfoldable pub ends_at : List ℕ → ℕ → ℕ → ℕ → Bool
ends_at m t i f = cond (eqb (level_of m f) 1) (cond (eqb (guest_of m f) t) (present (entry_at_of m f i)) false) false

-- the lower of two prefixes
abbrev pub lower_by : Charge → ℕ → Charge
lower_by Nobody n = To n
lower_by (To k) n = To (cond (ltb n k) n k)
lower_by Damaged n = Damaged

abbrev pub charge_by : Prefix → Charge → Charge
charge_by (Is n) x = lower_by x n
charge_by prefix.Damaged x = Damaged

-- frame f comes to what x says of others
unfoldable pub visit_of : Config → List ℕ → ℕ → ℕ → Charge → ℕ → Charge
visit_of c m t i x f = cond (ends_at m t i f) (charge_by (prefix_of c m (c.levels - 1) f) x) x

-- the first k frames of the area
unfoldable pub charged_from : Config → List ℕ → ℕ → ℕ → ℕ → Charge
charged_from c m t i zero = Nobody
charged_from c m t i (suc k) = visit_of c m t i (charged_from c m t i k) (c.hosts + k)

-- what a store to word i of host frame t is charged to: of the tables handed out so far, those that end a path at that word, and of
-- their prefixes the lowest. Damaged: the links of one of them lead out of the area
unfoldable pub charged_of : Config → List ℕ → ℕ → ℕ → ℕ → Charge
charged_of c m fresh t i = charged_from c m t i fresh
