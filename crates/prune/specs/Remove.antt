-- A path is removed: its entry cleared, tables that are empty then given back, each through its link to the table above; for any memory.
-- Assumes nothing.
use Rattle.std.specs.Prelude.{ℕ, zero, suc, Bool, cond, List, [], ◌∷◌, length}
use Rattle.spec.specs.Entry.{present}
use Rattle.pool.specs.declared.Area.{Area}
use Rattle.pool.specs.declared.Pool.{Pool}
use Rattle.pool.specs.declared.Way.{Way}
use Rattle.pool.specs.declared.Way.TheVariants.{To, Not, Damaged}
use Rattle.pool.specs.Header.{entry_at_of, put_entry_of, parent_of, slot_of, inside_of, bare_of}
use Rattle.pool.specs.Pool.{follow_of, on_way, end, with_top, with_freed, free_words}
use Rattle.words.specs.After.{After}
use Rattle.pool.specs.declared.Went.{Went}

-- an empty table is taken off the table above and given back: To names the table above; Not, the table is not empty
unfoldable pub detach_of : Area → Pool → List ℕ → ℕ → After Went
detach_of a p m f =
    cond (bare_of m f 512)
    (cond (inside_of a.base a.size (parent_of m f))
    (end (with_freed p f) (To (parent_of m f)) (free_words (put_entry_of m (parent_of m f) (slot_of m f) 0) f p.free))
    (end p Damaged m))
    (end p Not m)

-- the top table f goes too if it is empty, unless it stays
unfoldable pub release_top : Bool → Pool → List ℕ → ℕ → After Went
release_top stays p m f =
    cond stays (end p (To f) m)
    (cond (bare_of m f 512) (end (with_freed (with_top p 0) f) (To f) (free_words m f p.free)) (end p (To f) m))

-- table f and those above it, k of them below the top one, as far as they are empty
unfoldable pub release_of : Area → Bool → Pool → List ℕ → ℕ → ℕ → After Went
release_of a stays p m zero f = release_top stays p m f
release_of a stays p m (suc k) f =
    let t = detach_of a p m f in
    on_way t.result.way (end t.result.pool (To f) t.memory) (end t.result.pool Damaged t.memory)
    (λ h. release_of a stays t.result.pool t.memory k h)

-- the table that holds the last entry of the path i ∷ is, on from the entry e
unfoldable pub last_table_of : ℕ → ℕ → List ℕ → ℕ → ℕ → List ℕ → Way
last_table_of b s m e i [] = follow_of b s e
last_table_of b s m e i (j ∷ is) = on_way (follow_of b s e) Not Damaged (λ f. last_table_of b s m (entry_at_of m f i) j is)

-- the last index of the path i ∷ is
unfoldable pub last_index : ℕ → List ℕ → ℕ
last_index i [] = i
last_index i (j ∷ is) = last_index j is

-- the entry at index i of table f, which has k tables above it, is cleared
unfoldable pub clear_of : Area → Bool → Pool → List ℕ → ℕ → ℕ → ℕ → After Went
clear_of a stays p m k f i = cond (present (entry_at_of m f i)) (release_of a stays p (put_entry_of m f i 0) k f) (end p Not m)

-- a path is removed; Not, and nothing changed, if there is none
unfoldable pub remove_of : Area → Bool → Pool → List ℕ → List ℕ → After Went
remove_of a stays p m [] = end p Not m
remove_of a stays p m (i ∷ is) =
    on_way (last_table_of a.base a.size m p.top i is) (end p Not m) (end p Damaged m)
    (λ f. clear_of a stays p m (length is) f (last_index i is))
