-- No more frames are ever handed out than the area has, whatever the memory holds.
use Prim.Native.Nat.{ℕ, ◌+◌, ◌*◌, ◌-◌, ◌≤◌}
use native.Mathlib.Omega.{arith}
use mathlib.Core.Path.{◌≡◌, refl}
use mathlib.Core.Bool.{Bool, true, false, cond}
use mathlib.Core.List.{List, [], ◌∷◌}
use lib.Dec.{ltb}
use lib.ListN.{get_or}
use borrow.Author.Tests.{ltb-true}
use Rattle.words.specs.Words.{zeroed}
use Rattle.pool.specs.declared.Area.{Area}
use Rattle.pool.specs.declared.Pool.{Pool}
use Rattle.pool.specs.declared.Way.{Way}
use Rattle.pool.specs.declared.Way.TheVariants as way
use Rattle.pool.specs.Header.{entry_at_of}
use Rattle.pool.specs.Pool.{follow_of, on_way, end, pool_of, none_of, with_top, fresh_of, freed_of, take_of}
use Rattle.area.specs.Tree.{room_of, headed, new_table_of, topped, new_top_of, enter_of, attached, attach_of, descend_of, down_of, place_of, insert_of}
use Rattle.words.specs.After.{After}
use Rattle.pool.specs.declared.Went.{Went}

abbrev pub PoolFits : Area → Pool → Type 0
PoolFits a p = p.fresh ≤ a.size

pub none_fits : (a : Area) → PoolFits a none_of
unfolding none_of
none_fits a = omega arith

-- ---- the area's steps
module _ (a : Area) where
  abbrev pub Fits : After Went → Type 0
  Fits t = PoolFits a t.result.pool

  fresh_fits : (p : Pool) (m : List ℕ) → PoolFits a p → Fits (fresh_of a p m)
  unfolding fresh_of
  fresh_fits p m h = go (ltb p.fresh a.size) refl
    where
      go : (b : Bool) → ltb p.fresh a.size ≡ b
          → Fits (cond b (end (pool_of (p.fresh + 1) p.free (p.used + 1) p.top) (way.To (a.base + p.fresh)) (zeroed m ((a.base + p.fresh) * 512) 512)) (end p way.Damaged m))
      go true q = let l = ltb-true p.fresh a.size q in omega arith
      go false q = h

  take_fits : (p : Pool) (m : List ℕ) → PoolFits a p → Fits (take_of a p m)
  unfolding take_of freed_of
  take_fits p m h = go (ltb p.used a.size) (follow_of a.base a.size p.free)
    where
      go : (b : Bool) (w : Way) → Fits (cond b (on_way w (fresh_of a p m) (end p way.Damaged m) (freed_of p m)) (end p way.Not m))
      go true (way.To f) = h
      go true way.Not = fresh_fits p m h
      go true way.Damaged = h
      go false w = h

  table_fits : (p : Pool) (m : List ℕ) (guest level parent slot : ℕ) → PoolFits a p → Fits (new_table_of a p m guest level parent slot)
  unfolding new_table_of
  table_fits p m guest level parent slot h = go t.result.way
    where
      t : After Went
      t = take_of a p m

      go : (w : Way) → Fits (headed t w guest level parent slot)
      go (way.To f) = take_fits p m h
      go way.Not = take_fits p m h
      go way.Damaged = take_fits p m h

  enter_fits : (p : Pool) (m : List ℕ) (guest : ℕ) → PoolFits a p → Fits (enter_of a p m guest)
  unfolding enter_of new_top_of with_top
  enter_fits p m guest h = go (follow_of a.base a.size p.top)
    where
      new : After Went
      new = new_table_of a p m guest a.levels 0 0

      top : (w : Way) → Fits (topped new w)
      top (way.To f) = table_fits p m guest a.levels 0 0 h
      top way.Not = table_fits p m guest a.levels 0 0 h
      top way.Damaged = table_fits p m guest a.levels 0 0 h

      go : (w : Way) → Fits (on_way w (topped new new.result.way) (end p way.Damaged m) (λ f. end p (way.To f) m))
      go (way.To f) = h
      go way.Not = top new.result.way
      go way.Damaged = h

  attach_fits : (p : Pool) (m : List ℕ) (guest level f i : ℕ) → PoolFits a p → Fits (attach_of a p m guest level f i)
  unfolding attach_of
  attach_fits p m guest level f i h = go t.result.way
    where
      t : After Went
      t = new_table_of a p m guest level f i

      go : (w : Way) → Fits (attached t w f i)
      go (way.To g) = table_fits p m guest level f i h
      go way.Not = table_fits p m guest level f i h
      go way.Damaged = table_fits p m guest level f i h

  descend_fits : (p : Pool) (m : List ℕ) (guest level f i : ℕ) → PoolFits a p → Fits (descend_of a p m guest level f i)
  unfolding descend_of
  descend_fits p m guest level f i h = go (follow_of a.base a.size (entry_at_of m f i))
    where
      go : (w : Way) → Fits (on_way w (attach_of a p m guest level f i) (end p way.Damaged m) (λ g. end p (way.To g) m))
      go (way.To g) = h
      go way.Not = attach_fits p m guest level f i h
      go way.Damaged = h

  down_fits : (is guests : List ℕ) (p : Pool) (m : List ℕ) (d f i e : ℕ) → PoolFits a p → Fits (down_of a guests p m d f i is e)
  unfolding down_of
  down_fits [] guests p m d f i e h = h
  down_fits (j ∷ is) guests p m d f i e h = go t.result.way (λ g. down_fits is guests t.result.pool t.memory (d + 1) g j e fits)
    where
      t : After Went
      t = descend_of a p m (get_or guests (d + 1) 0) (a.levels - (d + 1)) f i

      fits : Fits t
      fits = descend_fits p m (get_or guests (d + 1) 0) (a.levels - (d + 1)) f i h

      go : (w : Way) → ((g : ℕ) → Fits (down_of a guests t.result.pool t.memory (d + 1) g j is e))
          → Fits (on_way w (end t.result.pool way.Damaged t.memory) (end t.result.pool way.Damaged t.memory) (λ g. down_of a guests t.result.pool t.memory (d + 1) g j is e))
      go (way.To g) next = next g
      go way.Not next = fits
      go way.Damaged next = fits

  place_fits : (guests : List ℕ) (p : Pool) (m : List ℕ) (i : ℕ) (is : List ℕ) (e : ℕ) → PoolFits a p → Fits (place_of a guests p m i is e)
  unfolding place_of
  place_fits guests p m i is e h = go t.result.way
    where
      t : After Went
      t = enter_of a p m (get_or guests 0 0)

      fits : Fits t
      fits = enter_fits p m (get_or guests 0 0) h

      go : (w : Way) → Fits (on_way w (end t.result.pool way.Damaged t.memory) (end t.result.pool way.Damaged t.memory) (λ f. down_of a guests t.result.pool t.memory 0 f i is e))
      go (way.To f) = down_fits is guests t.result.pool t.memory 0 f i e fits
      go way.Not = fits
      go way.Damaged = fits

  pub insert_fits : (guests : List ℕ) (p : Pool) (m is : List ℕ) (e : ℕ) → PoolFits a p → Fits (insert_of a guests p m is e)
  unfolding insert_of
  insert_fits guests p m [] e h = h
  insert_fits guests p m (i ∷ is) e h = go (room_of a p m (i ∷ is))
    where
      go : (w : Way) → Fits (on_way w (end p way.Not m) (end p way.Damaged m) (λ n. place_of a guests p m i is e))
      go (way.To n) = place_fits guests p m i is e h
      go way.Not = h
      go way.Damaged = h
