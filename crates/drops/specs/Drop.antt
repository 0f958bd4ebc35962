-- Held paths are dropped, for any memory: one scan over the frames handed out. In each table the leaves under a cut are
-- cleared; a table that is empty then is given back, and those above it likewise.
-- Assumes nothing.
use Rattle.std.specs.Prelude.{ℕ, zero, suc, ◌+◌, ◌-◌, Bool, true, false, cond, List, [], ◌∷◌, eqb}
use Rattle.spec.specs.Config.{Config}
use Rattle.pool.specs.declared.Pool.{Pool}
use Rattle.pool.specs.declared.Way.{Way}
use Rattle.pool.specs.declared.Way.TheVariants as way
use Rattle.pool.specs.Header.{entry_at_of, put_entry_of, level_of}
use Rattle.pool.specs.Pool.{on_way, none_of}
use Rattle.prune.specs.Remove.{release_of, last_index}
use Rattle.layout.specs.Layout.{page}
use Rattle.drops.specs.declared.Left.{Left}
use Rattle.drops.specs.declared.Kind.{Kind}
use Rattle.drops.specs.declared.Kind.TheVariants.{Gone, Leaf, Table, Damaged}
use Rattle.drops.specs.declared.Cut.{Cut}
use Rattle.drops.specs.declared.Cut.TheVariants.{Slot}
use Rattle.drops.specs.declared.Above.{Above}
use Rattle.drops.specs.declared.Above.TheVariants.{Met, To}
use Rattle.drops.specs.declared.Above.TheVariants as above
use Rattle.shadow.specs.Held.{shadow_area}
use Rattle.drops.specs.Cut.{kind_of, cut_of, low_of, end_of, touches_of, links_up_of}
use Rattle.words.specs.After.{After, yields}

-- what a drop leaves
abbrev pub outcome : Pool → Bool → List ℕ → After Left
outcome p b m = yields (record { pool = p; ok = b }) m

-- ---- one table

abbrev pub clear_by : Kind → List ℕ → Bool → ℕ → ℕ → After Bool
clear_by Gone m goes f i = yields true m
clear_by Leaf m goes f i = yields true (cond goes (put_entry_of m f i 0) m)
clear_by (Table t) m goes f i = yields true m
clear_by Damaged m goes f i = yields false m

unfoldable pub goes_of : Config → List ℕ → Cut → Bool → ℕ → ℕ → Bool
goes_of c m x all f i = cond all true (cut_of c m x f i)

-- entry i of the table in frame f: a leaf that is cut, or any leaf where all go
unfoldable pub clear_one_of : Config → Cut → Bool → Bool → ℕ → List ℕ → ℕ → After Bool
clear_one_of c x all lowest f m i = clear_by (kind_of c lowest (entry_at_of m f i)) m (goes_of c m x all f i) f i

-- the k entries from i on
unfoldable pub clear_leaves_of : Config → Cut → Bool → Bool → ℕ → ℕ → ℕ → List ℕ → After Bool
clear_leaves_of c x all lowest f zero i m = yields true m
clear_leaves_of c x all lowest f (suc k) i m =
    let t = clear_one_of c x all lowest f m i in
    cond t.result (clear_leaves_of c x all lowest f k (suc i) t.memory) t

abbrev pub settled_by : Way → Pool → List ℕ → After Left
settled_by (way.To f) p m = outcome p true m
settled_by way.Not p m = outcome p true m
settled_by way.Damaged p m = outcome p false m

-- the table in frame f and those above it are given back as far as they are empty; n is its level
unfoldable pub settle_of : Config → Pool → List ℕ → ℕ → ℕ → After Left
settle_of c p m n f =
    let t = release_of (shadow_area c) false p m (c.levels - n) f in
    settled_by t.result.way t.result.pool t.memory

-- the k entries from i on are cleared as far as they go, and emptied tables given back
unfoldable pub sweep_of : Config → Cut → Bool → ℕ → ℕ → ℕ → ℕ → Pool → List ℕ → After Left
sweep_of c x all n f k i p m =
    let t = clear_leaves_of c x all (eqb n 1) f k i m in
    cond t.result (settle_of c p t.memory n f) (outcome p false t.memory)

-- ---- the scan

abbrev pub visit_by : Above → Config → Cut → ℕ → ℕ → Pool → List ℕ → After Left
visit_by Met c x n f p m = sweep_of c x true n f 512 0 p m
visit_by (To t) c x n f p m = cond (touches_of m x f) (sweep_of c x false n f (end_of x - low_of x) (low_of x) p m) (outcome p true m)
visit_by above.Damaged c x n f p m = outcome p false m

-- the frame f, of level n: all its leaves go if an entry above it is cut, else those that are cut
unfoldable pub visit_of : Config → Cut → Pool → List ℕ → ℕ → After Left
visit_of c x p m f =
    cond (eqb (level_of m f) 0)
    (outcome p true m)
    (visit_by (links_up_of c x m (c.levels - level_of m f) f) c x (level_of m f) f p m)

-- the k frames of the area from the i-th on
unfoldable pub scan_from : Config → Cut → ℕ → ℕ → Pool → List ℕ → After Left
scan_from c x zero i p m = outcome p true m
scan_from c x (suc k) i p m =
    let t = visit_of c x p m (c.hosts + i) in
    cond t.result.ok (scan_from c x k (suc i) t.result.pool t.memory) t

-- the frames handed out when the scan begins
unfoldable pub scan_of : Config → Cut → Pool → List ℕ → After Left
scan_of c x p m = scan_from c x p.fresh 0 p m

-- ---- a prefix

abbrev pub table_by : Kind → Way
table_by Gone = way.Not
table_by Leaf = way.Not
table_by (Table f) = way.To f
table_by Damaged = way.Damaged

-- the table that an entry above the lowest level names; where the switch bit ends a held path there is none
unfoldable pub table_named : Config → ℕ → Way
table_named c e = table_by (kind_of c false e)

-- the table that holds the last entry of the prefix i ∷ is, on from the entry e
unfoldable pub holder_of : Config → List ℕ → ℕ → ℕ → List ℕ → Way
holder_of c m e i [] = table_named c e
holder_of c m e i (j ∷ is) = on_way (table_named c e) way.Not way.Damaged (λ f. holder_of c m (entry_at_of m f i) j is)

-- a mark set or cleared: the paths that begin with its indexes are dropped, all of them if it keeps none
unfoldable pub drop_prefix_of : Config → Pool → List ℕ → List ℕ → After Left
drop_prefix_of c p m [] = outcome none_of true m
drop_prefix_of c p m (i ∷ is) =
    on_way (holder_of c m p.top i is)
    (outcome p true m)
    (outcome p false m)
    (λ f. scan_of c (Slot (page f) (last_index i is)) p m)
