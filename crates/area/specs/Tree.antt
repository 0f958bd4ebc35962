-- A radix tree of tables in an area: lookup, room and insert, for any memory. A path is a list of indexes, the highest first.
-- Assumes nothing.
use Rattle.std.specs.Prelude.{ℕ, ◌+◌, ◌-◌, cond, List, [], ◌∷◌, get_or, length, leb}
use Rattle.pool.specs.declared.Area.{Area}
use Rattle.pool.specs.declared.Pool.{Pool}
use Rattle.pool.specs.declared.Way.{Way}
use Rattle.pool.specs.declared.Way.TheVariants.{To, Not, Damaged}
use Rattle.area.specs.declared.Look.{Look}
use Rattle.area.specs.declared.Look.TheVariants.{Seen}
use Rattle.area.specs.declared.Look.TheVariants as look
use Rattle.pool.specs.Header.{entry_at_of, put_entry_of, header_of}
use Rattle.pool.specs.Pool.{link, follow_of, on_way, end, with_top, take_of}
use Rattle.words.specs.After.{After, yields}
use Rattle.pool.specs.declared.Went.{Went}

-- on from the entry e, n words read so far
unfoldable pub lookup_of : ℕ → ℕ → List ℕ → ℕ → List ℕ → ℕ → Look
lookup_of b s m e [] n = Seen e n
lookup_of b s m e (i ∷ is) n = on_way (follow_of b s e) (Seen 0 n) look.Damaged (λ f. lookup_of b s m (entry_at_of m f i) is (n + 1))

-- the frames and indexes of the entries read, on from the entry e
unfoldable pub entries_read : ℕ → ℕ → List ℕ → ℕ → List ℕ → List (ℕ × ℕ)
entries_read b s m e [] = []
entries_read b s m e (i ∷ is) = on_way (follow_of b s e) [] [] (λ f. (f, i) ∷ entries_read b s m (entry_at_of m f i) is)

abbrev pub room_by : Area → Pool → ℕ → Look → Way
room_by a p k (Seen e n) = cond (leb (p.used + (k - n)) a.size) (To (k - n)) Not
room_by a p k look.Damaged = Damaged

-- how many tables a path lacks; Not if the area has no room for them
unfoldable pub room_of : Area → Pool → List ℕ → List ℕ → Way
room_of a p m is = room_by a p (length is) (lookup_of a.base a.size m p.top is 0)

-- the frame that was handed out becomes a table
abbrev pub headed : After Went → Way → ℕ → ℕ → ℕ → ℕ → After Went
headed t (To f) guest level parent slot = yields t.result (header_of t.memory f guest level parent slot)
headed t Not guest level parent slot = t
headed t Damaged guest level parent slot = t

-- a table is handed out, with its header
unfoldable pub new_table_of : Area → Pool → List ℕ → ℕ → ℕ → ℕ → ℕ → After Went
new_table_of a p m guest level parent slot =
    let t = take_of a p m in
    headed t t.result.way guest level parent slot

abbrev pub topped : After Went → Way → After Went
topped t (To f) = end (with_top t.result.pool (link f)) (To f) t.memory
topped t Not = t
topped t Damaged = t

-- a table is handed out and becomes the top one
unfoldable pub new_top_of : Area → Pool → List ℕ → ℕ → After Went
new_top_of a p m guest =
    let t = new_table_of a p m guest a.levels 0 0 in
    topped t t.result.way

-- the top table, handed out if there is none
unfoldable pub enter_of : Area → Pool → List ℕ → ℕ → After Went
enter_of a p m guest = on_way (follow_of a.base a.size p.top) (new_top_of a p m guest) (end p Damaged m) (λ f. end p (To f) m)

abbrev pub attached : After Went → Way → ℕ → ℕ → After Went
attached t (To h) f i = yields t.result (put_entry_of t.memory f i (link h))
attached t Not f i = t
attached t Damaged f i = t

-- a table is handed out and its entry put at index i of table f
unfoldable pub attach_of : Area → Pool → List ℕ → ℕ → ℕ → ℕ → ℕ → After Went
attach_of a p m guest level f i =
    let t = new_table_of a p m guest level f i in
    attached t t.result.way f i

-- the table below, hung there if there is none
unfoldable pub descend_of : Area → Pool → List ℕ → ℕ → ℕ → ℕ → ℕ → After Went
descend_of a p m guest level f i =
    on_way (follow_of a.base a.size (entry_at_of m f i)) (attach_of a p m guest level f i) (end p Damaged m) (λ h. end p (To h) m)

-- on with the table that a step leads to; where there is none, though there was room for all, the memory is damaged
abbrev pub onward : After Went → (Pool → List ℕ → ℕ → After Went) → After Went
onward t next =
    on_way t.result.way (end t.result.pool Damaged t.memory) (end t.result.pool Damaged t.memory) (next t.result.pool t.memory)

-- in table f of depth d at index i, and then by the indexes that are left; guests are the host frames by depth
unfoldable pub down_of : Area → List ℕ → Pool → List ℕ → ℕ → ℕ → ℕ → List ℕ → ℕ → After Went
down_of a guests p m d f i [] e = end p (To f) (put_entry_of m f i e)
down_of a guests p m d f i (j ∷ is) e =
    onward (descend_of a p m (get_or guests (d + 1) 0) (a.levels - (d + 1)) f i) (λ q n h. down_of a guests q n (d + 1) h j is e)

-- the tables that are missing are handed out, and the entry put at the end of the path i ∷ is
unfoldable pub place_of : Area → List ℕ → Pool → List ℕ → ℕ → List ℕ → ℕ → After Went
place_of a guests p m i is e = onward (enter_of a p m (get_or guests 0 0)) (λ q n f. down_of a guests q n 0 f i is e)

-- the entry of a path is set; Not, and nothing changed, if its tables find no room
unfoldable pub insert_of : Area → List ℕ → Pool → List ℕ → List ℕ → ℕ → After Went
insert_of a guests p m [] e = end p Not m
insert_of a guests p m (i ∷ is) e = on_way (room_of a p m (i ∷ is)) (end p Not m) (end p Damaged m) (λ n. place_of a guests p m i is e)
