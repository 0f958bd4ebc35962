-- A remove hands out no frame.
use Prim.Native.Nat.{ℕ, zero, suc}
use mathlib.Core.Bool.{Bool, true, false, cond}
use mathlib.Core.List.{List}
use Rattle.pool.specs.declared.Area.{Area}
use Rattle.pool.specs.declared.Pool.{Pool}
use Rattle.pool.specs.declared.Way.{Way}
use Rattle.pool.specs.declared.Way.TheVariants as way
use Rattle.pool.specs.Header.{put_entry_of, parent_of, slot_of, inside_of, bare_of}
use Rattle.pool.specs.Pool.{on_way, end, with_top, with_freed, free_words}
use Rattle.prune.specs.Remove.{detach_of, release_top, release_of}
use Rattle.words.specs.After.{After}
use Rattle.pool.specs.declared.Went.{Went}
use Rattle.area.proofs.Fresh.{PoolFits, Fits}

module _ (a : Area) where
  detach_fits : (p : Pool) (m : List ℕ) (f : ℕ) → PoolFits a p → Fits a (detach_of a p m f)
  unfolding detach_of with_freed
  detach_fits p m f h = go (bare_of m f 512) (inside_of a.base a.size (parent_of m f))
    where
      go : (b d : Bool)
          → Fits a (cond b (cond d (end (with_freed p f) (way.To (parent_of m f)) (free_words (put_entry_of m (parent_of m f) (slot_of m f) 0) f p.free)) (end p way.Damaged m)) (end p way.Not m))
      go true true = h
      go true false = h
      go false d = h

  release_top_fits : (stays : Bool) (p : Pool) (m : List ℕ) (f : ℕ) → PoolFits a p → Fits a (release_top stays p m f)
  unfolding release_top with_freed with_top
  release_top_fits stays p m f h = go stays (bare_of m f 512)
    where
      go : (b d : Bool) → Fits a (cond b (end p (way.To f) m) (cond d (end (with_freed (with_top p 0) f) (way.To f) (free_words m f p.free)) (end p (way.To f) m)))
      go true d = h
      go false true = h
      go false false = h

  pub release_fits : (k : ℕ) (stays : Bool) (p : Pool) (m : List ℕ) (f : ℕ) → PoolFits a p → Fits a (release_of a stays p m k f)
  unfolding release_of
  release_fits zero stays p m f h = release_top_fits stays p m f h
  release_fits (suc k) stays p m f h =
      go t.result.way (λ g. release_fits k stays t.result.pool t.memory g (detach_fits p m f h))
    where
      t : After Went
      t = detach_of a p m f

      go : (w : Way) → ((g : ℕ) → Fits a (release_of a stays t.result.pool t.memory k g))
          → Fits a (on_way w (end t.result.pool (way.To f) t.memory) (end t.result.pool way.Damaged t.memory) (λ g. release_of a stays t.result.pool t.memory k g))
      go (way.To g) next = next g
      go way.Not next = detach_fits p m f h
      go way.Damaged next = detach_fits p m f h
