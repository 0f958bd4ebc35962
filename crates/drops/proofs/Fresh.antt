-- A drop hands out no frame.
use Prim.Native.Nat.{ℕ, zero, suc, ◌+◌, ◌-◌, ◌≤◌}
use mathlib.Core.Bool.{Bool, true, false, cond}
use mathlib.Core.List.{List, [], ◌∷◌}
use lib.Dec.{eqb}
use Rattle.spec.specs.Config.{Config}
use Rattle.pool.specs.declared.Pool.{Pool}
use Rattle.pool.specs.declared.Way.{Way}
use Rattle.pool.specs.declared.Way.TheVariants as way
use Rattle.pool.specs.Header.{level_of}
use Rattle.pool.specs.Pool.{on_way}
use Rattle.prune.specs.Remove.{release_of, last_index}
use Rattle.layout.specs.Layout.{page}
use Rattle.drops.specs.declared.Cut.{Cut}
use Rattle.drops.specs.declared.Cut.TheVariants.{Slot}
use Rattle.drops.specs.declared.Above.{Above}
use Rattle.drops.specs.declared.Above.TheVariants.{Met, To, Damaged}
use Rattle.shadow.specs.Held.{shadow_area}
use Rattle.drops.specs.Cut.{low_of, end_of, touches_of, links_up_of}
use Rattle.drops.specs.Drop.{outcome, clear_leaves_of, settled_by, settle_of, sweep_of, visit_by, visit_of, scan_from, scan_of, holder_of, drop_prefix_of}
use Rattle.words.specs.After.{After}
use Rattle.pool.specs.declared.Went.{Went}
use Rattle.drops.specs.declared.Left.{Left}
use Rattle.prune.proofs.Fresh.{release_fits}
use Rattle.area.proofs.Fresh.{none_fits}
use Rattle.shadow.proofs.Fresh.{Bounded}

module _ (c : Config) where
  settle_fits : (p : Pool) (m : List ℕ) (n f : ℕ) → Bounded c p → Bounded c (settle_of c p m n f).result.pool
  unfolding settle_of
  settle_fits p m n f h = go t.result.way
    where
      t : After Went
      t = release_of (shadow_area c) false p m (c.levels - n) f

      fits : Bounded c t.result.pool
      fits = release_fits (shadow_area c) (c.levels - n) false p m f h

      go : (w : Way) → Bounded c (settled_by w t.result.pool t.memory).result.pool
      go (way.To g) = fits
      go way.Not = fits
      go way.Damaged = fits

  module _ (x : Cut) where
    sweep_fits : (all : Bool) (n f k i : ℕ) (p : Pool) (m : List ℕ) → Bounded c p → Bounded c (sweep_of c x all n f k i p m).result.pool
    unfolding sweep_of
    sweep_fits all n f k i p m h = go t.result
      where
        t : After Bool
        t = clear_leaves_of c x all (eqb n 1) f k i m

        go : (b : Bool) → Bounded c (cond b (settle_of c p t.memory n f) (outcome p false t.memory)).result.pool
        go true = settle_fits p t.memory n f h
        go false = h

    visit_fits : (p : Pool) (m : List ℕ) (f : ℕ) → Bounded c p → Bounded c (visit_of c x p m f).result.pool
    unfolding visit_of
    visit_fits p m f h = go (eqb (level_of m f) 0)
      where
        touched : (b : Bool) → Bounded c (cond b (sweep_of c x false (level_of m f) f (end_of x - low_of x) (low_of x) p m) (outcome p true m)).result.pool
        touched true = sweep_fits false (level_of m f) f (end_of x - low_of x) (low_of x) p m h
        touched false = h

        by : (w : Above) → Bounded c (visit_by w c x (level_of m f) f p m).result.pool
        by Met = sweep_fits true (level_of m f) f 512 0 p m h
        by (To t) = touched (touches_of m x f)
        by Damaged = h

        go : (b : Bool) → Bounded c (cond b (outcome p true m) (visit_by (links_up_of c x m (c.levels - level_of m f) f) c x (level_of m f) f p m)).result.pool
        go true = h
        go false = by (links_up_of c x m (c.levels - level_of m f) f)

    from_fits : (k i : ℕ) (p : Pool) (m : List ℕ) → Bounded c p → Bounded c (scan_from c x k i p m).result.pool
    unfolding scan_from
    from_fits zero i p m h = h
    from_fits (suc k) i p m h = go one.result.ok (from_fits k (suc i) one.result.pool one.memory visited)
      where
        one : After Left
        one = visit_of c x p m (c.hosts + i)

        rest : After Left
        rest = scan_from c x k (suc i) one.result.pool one.memory

        visited : Bounded c one.result.pool
        visited = visit_fits p m (c.hosts + i) h

        go : (b : Bool) → Bounded c rest.result.pool → Bounded c (cond b rest one).result.pool
        go true r = r
        go false r = visited

    pub scan_fits : (p : Pool) (m : List ℕ) → p.fresh ≤ c.shadows → (scan_of c x p m).result.pool.fresh ≤ c.shadows
    unfolding scan_of
    scan_fits p m h = from_fits p.fresh 0 p m h

  pub prefix_fits_lem : (p : Pool) (m is : List ℕ) → p.fresh ≤ c.shadows → (drop_prefix_of c p m is).result.pool.fresh ≤ c.shadows
  unfolding drop_prefix_of
  prefix_fits_lem p m [] h = none_fits (shadow_area c)
  prefix_fits_lem p m (i ∷ is) h = go (holder_of c m p.top i is)
    where
      go : (w : Way) → Bounded c (on_way w (outcome p true m) (outcome p false m) (λ f. scan_of c (Slot (page f) (last_index i is)) p m)).result.pool
      go (way.To f) = scan_fits (Slot (page f) (last_index i is)) p m h
      go way.Not = h
      go way.Damaged = h
