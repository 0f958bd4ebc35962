-- Frames of an area handed out and given back, for any memory.
-- Assumes nothing.
use Rattle.std.specs.Prelude.{ℕ, ◌+◌, ◌*◌, ◌-◌, cond, List, ltb}
use Rattle.spec.specs.Entry.{present, frame_of}
use Rattle.words.specs.Words.{word_in, set_in, zeroed}
use Rattle.pool.specs.declared.Area.{Area}
use Rattle.pool.specs.declared.Pool.{Pool}
use Rattle.pool.specs.declared.Went.{Went}
use Rattle.pool.specs.declared.Way.{Way}
use Rattle.pool.specs.declared.Way.TheVariants.{To, Not, Damaged}
use Rattle.pool.specs.Header.{inside_of}
use Rattle.words.specs.After.{After, yields}

-- the entry, or the link, that names a frame
unfoldable pub link : ℕ → ℕ
link f = f * 4096 + 1

-- what an entry says in the area of s frames from b on
unfoldable pub follow_of : ℕ → ℕ → ℕ → Way
follow_of b s e = cond (present e) (cond (inside_of b s (frame_of e)) (To (frame_of e)) Damaged) Not

-- by cases: x for Not, y for Damaged
abbrev pub on_way : {X : Type 0} → Way → X → X → (ℕ → X) → X
on_way (To f) x y next = next f
on_way Not x y next = x
on_way Damaged x y next = y

-- what a step leaves
abbrev pub end : Pool → Way → List ℕ → After Went
end p d m = yields (record { pool = p; way = d }) m

abbrev pub pool_of : ℕ → ℕ → ℕ → ℕ → Pool
pool_of n l u t = record { fresh = n; free = l; used = u; top = t }

-- nothing is in use, as once all paths are dropped
unfoldable pub none_of : Pool
none_of = pool_of 0 0 0 0

-- with another top table
unfoldable pub with_top : Pool → ℕ → Pool
with_top p t = pool_of p.fresh p.free p.used t

-- the next frame that was never handed out
unfoldable pub fresh_of : Area → Pool → List ℕ → After Went
fresh_of a p m =
    cond (ltb p.fresh a.size)
    (end (pool_of (p.fresh + 1) p.free (p.used + 1) p.top) (To (a.base + p.fresh)) (zeroed m ((a.base + p.fresh) * 512) 512))
    (end p Damaged m)

-- the first of the freed frames, whose word 0 links to the next
unfoldable pub freed_of : Pool → List ℕ → ℕ → After Went
freed_of p m f = end (pool_of p.fresh (word_in m f 0) (p.used + 1) p.top) (To f) (zeroed m (f * 512) 512)

-- a frame of zeros; Not if all are in use, Damaged if the list of freed frames leads out of the area
unfoldable pub take_of : Area → Pool → List ℕ → After Went
take_of a p m =
    cond (ltb p.used a.size)
    (on_way (follow_of a.base a.size p.free) (fresh_of a p m) (end p Damaged m) (freed_of p m))
    (end p Not m)

-- a frame becomes the first of the freed ones
unfoldable pub with_freed : Pool → ℕ → Pool
with_freed p f = pool_of p.fresh (link f) (p.used - 1) p.top

-- its word 0 links to the next, and it is no table any more
unfoldable pub free_words : List ℕ → ℕ → ℕ → List ℕ
free_words m f next = set_in (set_in m f 0 next) f 1 0
