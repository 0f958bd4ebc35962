-- Whatever the memory holds, no step of a remove changes a word outside the area.
use mathlib.Core.Path.{◌≡◌, refl}
use Prim.Native.Nat.{ℕ, zero, suc, ◌<◌}
use mathlib.Core.Bool.{Bool, true, false, cond}
use mathlib.Core.List.{List, [], ◌∷◌}
use lib.ListN.{length}
use Rattle.spec.specs.Entry.{present}
use Rattle.pool.specs.declared.Area.{Area}
use Rattle.pool.specs.declared.Pool.{Pool}
use Rattle.pool.specs.declared.Way.{Way}
use Rattle.pool.specs.declared.Way.TheVariants.{To, Not, Damaged}
use Rattle.pool.specs.Header.{entry_at_of, put_entry_of, parent_of, slot_of, inside_of, bare_of}
use Rattle.pool.specs.Pool.{follow_of, on_way, end, with_top, with_freed, free_words}
use Rattle.prune.specs.Remove.{detach_of, release_top, release_of, last_table_of, last_index, clear_of, remove_of}
use Rattle.area.specs.Outside.{Narrow}
use Rattle.pool.proofs.Laws.{slot_small, inside_true, AreaGood, follow_good}
use Rattle.prune.proofs.Laws.{detach_good}
use Rattle.words.specs.After.{After}
use Rattle.pool.specs.declared.Went.{Went}
use Rattle.pool.proofs.Outside.{put_out, free_words_out}
use Rattle.area.proofs.Outside.{Kept, In, same, after}

pub narrow_last : (i : ℕ) (is : List ℕ) → i < 512 → Narrow is → last_index i is < 512
unfolding last_index
narrow_last i [] l n = l
narrow_last i (j ∷ is) l n = narrow_last j is n.0 n.1

module _ (a : Area) where
  pub detach_out : (p : Pool) (m : List ℕ) (f : ℕ) → In a f → Kept a m (detach_of a p m f)
  unfolding detach_of
  detach_out p m f h = go (bare_of m f 512) (inside_of a.base a.size (parent_of m f)) refl
    where
      go : (t u : Bool) → inside_of a.base a.size (parent_of m f) ≡ u
          → Kept a m (cond t (cond u (end (with_freed p f) (To (parent_of m f)) (free_words (put_entry_of m (parent_of m f) (slot_of m f) 0) f p.free)) (end p Damaged m)) (end p Not m))
      go true true q =
          let l = inside_true a.base a.size (parent_of m f) q in
          after a m (put_entry_of m (parent_of m f) (slot_of m f) 0) _ (free_words_out a.base a.size (put_entry_of m (parent_of m f) (slot_of m f) 0) f p.free h.0 h.1)
          (put_out a.base a.size m (parent_of m f) (slot_of m f) 0 l.0 l.1 (slot_small m f))
      go true false q = same a m
      go false u q = same a m

  pub release_top_out : (stays : Bool) (p : Pool) (m : List ℕ) (f : ℕ) → In a f → Kept a m (release_top stays p m f)
  unfolding release_top
  release_top_out stays p m f h = go stays (bare_of m f 512)
    where
      go : (t u : Bool) → Kept a m (cond t (end p (To f) m) (cond u (end (with_freed (with_top p 0) f) (To f) (free_words m f p.free)) (end p (To f) m)))
      go true u = same a m
      go false true = free_words_out a.base a.size m f p.free h.0 h.1
      go false false = same a m

  pub release_out : (k : ℕ) (stays : Bool) (p : Pool) (m : List ℕ) (f : ℕ) → In a f → Kept a m (release_of a stays p m k f)
  unfolding release_of
  release_out zero stays p m f h = release_top_out stays p m f h
  release_out (suc k) stays p m f h =
      go step.result.way (detach_good a p m f) (λ t l. release_out k stays step.result.pool step.memory t l)
    where
      step : After Went
      step = detach_of a p m f

      one : Kept a m step
      one = detach_out p m f h

      go : (w : Way) → AreaGood a w → ((t : ℕ) → In a t → Kept a step.memory (release_of a stays step.result.pool step.memory k t))
          → Kept a m (on_way w (end step.result.pool (To f) step.memory) (end step.result.pool Damaged step.memory) (λ t. release_of a stays step.result.pool step.memory k t))
      go (To t) g next = after a m step.memory _ (next t g) one
      go Not g next = one
      go Damaged g next = one

  pub clear_out : (stays : Bool) (p : Pool) (m : List ℕ) (k f i : ℕ) → In a f → i < 512 → Kept a m (clear_of a stays p m k f i)
  unfolding clear_of
  clear_out stays p m k f i h l = go (present (entry_at_of m f i))
    where
      go : (t : Bool) → Kept a m (cond t (release_of a stays p (put_entry_of m f i 0) k f) (end p Not m))
      go true =
          after a m (put_entry_of m f i 0) _ (release_out k stays p (put_entry_of m f i 0) f h) (put_out a.base a.size m f i 0 h.0 h.1 l)
      go false = same a m

  last_good : (m : List ℕ) (e i : ℕ) (is : List ℕ) → AreaGood a (last_table_of a.base a.size m e i is)
  unfolding last_table_of
  last_good m e i [] = follow_good a.base a.size e
  last_good m e i (j ∷ is) = go (follow_of a.base a.size e) (λ f. last_good m (entry_at_of m f i) j is)
    where
      go : (w : Way) → ((f : ℕ) → AreaGood a (last_table_of a.base a.size m (entry_at_of m f i) j is))
          → AreaGood a (on_way w Not Damaged (λ f. last_table_of a.base a.size m (entry_at_of m f i) j is))
      go (To f) h = h f
      go Not h = tt
      go Damaged h = tt

  -- a remove changes no word outside the area
  pub remove_out : (stays : Bool) (p : Pool) (m is : List ℕ) → Narrow is → Kept a m (remove_of a stays p m is)
  unfolding remove_of
  remove_out stays p m [] n = same a m
  remove_out stays p m (i ∷ is) n =
      go (last_table_of a.base a.size m p.top i is) (last_good m p.top i is)
    where
      go : (w : Way) → AreaGood a w → Kept a m (on_way w (end p Not m) (end p Damaged m) (λ f. clear_of a stays p m (length is) f (last_index i is)))
      go (To f) g = clear_out stays p m (length is) f (last_index i is) g (narrow_last i is n.0 n.1)
      go Not g = same a m
      go Damaged g = same a m
