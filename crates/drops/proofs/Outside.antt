-- A drop changes nothing outside the shadow tables, whatever the memory holds.
use Prim.Native.Nat.{ℕ, zero, suc, ◌+◌, ◌-◌, ◌<◌, ◌≤◌}
use native.Mathlib.Omega.{arith}
use mathlib.Core.Bool.{Bool, true, false, cond}
use mathlib.Core.List.{List, [], ◌∷◌}
use lib.Dec.{eqb}
use Rattle.spec.specs.Config.{Config}
use Rattle.pool.specs.declared.Pool.{Pool}
use Rattle.pool.specs.declared.Way.{Way}
use Rattle.pool.specs.declared.Way.TheVariants as way
use Rattle.pool.specs.Header.{entry_at_of, level_of}
use Rattle.pool.specs.Pool.{on_way}
use Rattle.prune.specs.Remove.{release_of, last_index}
use Rattle.pool.proofs.Outside.{out_refl, out_trans, put_out}
use Rattle.prune.proofs.Outside.{release_out}
use Rattle.layout.specs.Layout.{page}
use Rattle.drops.specs.declared.Kind.{Kind}
use Rattle.drops.specs.declared.Kind.TheVariants.{Gone, Leaf, Table, Damaged}
use Rattle.drops.specs.declared.Cut.{Cut}
use Rattle.drops.specs.declared.Cut.TheVariants.{Slot}
use Rattle.drops.specs.declared.Above.{Above}
use Rattle.drops.specs.declared.Above.TheVariants.{Met, To}
use Rattle.drops.specs.declared.Above.TheVariants as above
use Rattle.shadow.specs.Held.{shadow_area}
use Rattle.drops.specs.Cut.{kind_of, low_of, end_of, touches_of, links_up_of}
use Rattle.drops.specs.Drop.{outcome, clear_by, goes_of, clear_one_of, clear_leaves_of, settled_by, settle_of, sweep_of, visit_by, visit_of, scan_from, scan_of, holder_of, drop_prefix_of}
use Rattle.drops.proofs.Laws.{range_fits}
use Rattle.words.specs.After.{After}
use Rattle.pool.specs.declared.Went.{Went}
use Rattle.drops.specs.declared.Left.{Left}
use Rattle.shadow.proofs.Outside.{Same}

module _ (c : Config) where
  abbrev In : ℕ → Type 0
  In f = (c.hosts ≤ f) × (f < c.hosts + c.shadows)

  same : (m : List ℕ) → Same c m m
  same m = out_refl c.hosts c.shadows m

  after : (m n o : List ℕ) → Same c n o → Same c m n → Same c m o
  after m n o y x = out_trans c.hosts c.shadows m n o y x

  module _ (x : Cut) where
    one_out : (all lowest : Bool) (f i : ℕ) (m : List ℕ) → In f → i < 512 → Same c m (clear_one_of c x all lowest f m i).memory
    unfolding clear_one_of
    one_out all lowest f i m h l = go (kind_of c lowest (entry_at_of m f i)) (goes_of c m x all f i)
      where
        go : (k : Kind) (b : Bool) → Same c m (clear_by k m b f i).memory
        go Gone b = same m
        go Leaf true = put_out c.hosts c.shadows m f i 0 h.0 h.1 l
        go Leaf false = same m
        go (Table t) b = same m
        go Damaged b = same m

    clear_out : (k : ℕ) (all lowest : Bool) (f i : ℕ) (m : List ℕ) → In f → i + k ≤ 512 → Same c m (clear_leaves_of c x all lowest f k i m).memory
    unfolding clear_leaves_of
    clear_out zero all lowest f i m h l = same m
    clear_out (suc k) all lowest f i m h l = go one.result (clear_out k all lowest f (suc i) one.memory h (omega arith))
      where
        one : After Bool
        one = clear_one_of c x all lowest f m i

        rest : After Bool
        rest = clear_leaves_of c x all lowest f k (suc i) one.memory

        go : (b : Bool) → Same c one.memory rest.memory → Same c m (cond b rest one).memory
        go true r = after m one.memory rest.memory r (one_out all lowest f i m h (omega arith))
        go false r = one_out all lowest f i m h (omega arith)

    settle_out : (p : Pool) (m : List ℕ) (n f : ℕ) → In f → Same c m (settle_of c p m n f).memory
    unfolding settle_of
    settle_out p m n f h = go t.result.way
      where
        t : After Went
        t = release_of (shadow_area c) false p m (c.levels - n) f

        freed : Same c m t.memory
        freed = release_out (shadow_area c) (c.levels - n) false p m f h

        go : (w : Way) → Same c m (settled_by w t.result.pool t.memory).memory
        go (way.To g) = freed
        go way.Not = freed
        go way.Damaged = freed

    sweep_out : (all : Bool) (n f k i : ℕ) (p : Pool) (m : List ℕ) → In f → i + k ≤ 512 → Same c m (sweep_of c x all n f k i p m).memory
    unfolding sweep_of
    sweep_out all n f k i p m h l = go t.result
      where
        t : After Bool
        t = clear_leaves_of c x all (eqb n 1) f k i m

        gone : Same c m t.memory
        gone = clear_out k all (eqb n 1) f i m h l

        go : (b : Bool) → Same c m (cond b (settle_of c p t.memory n f) (outcome p false t.memory)).memory
        go true = after m t.memory _ (settle_out p t.memory n f h) gone
        go false = gone

    visit_out : (p : Pool) (m : List ℕ) (f : ℕ) → In f → Same c m (visit_of c x p m f).memory
    unfolding visit_of
    visit_out p m f h = go (eqb (level_of m f) 0)
      where
        touched : (b : Bool) → Same c m (cond b (sweep_of c x false (level_of m f) f (end_of x - low_of x) (low_of x) p m) (outcome p true m)).memory
        touched true =
            let r = range_fits x in
            sweep_out false (level_of m f) f (end_of x - low_of x) (low_of x) p m h (omega (arith, r.0, r.1))
        touched false = same m

        by : (w : Above) → Same c m (visit_by w c x (level_of m f) f p m).memory
        by Met = sweep_out true (level_of m f) f 512 0 p m h (omega arith)
        by (To t) = touched (touches_of m x f)
        by above.Damaged = same m

        go : (b : Bool) → Same c m (cond b (outcome p true m) (visit_by (links_up_of c x m (c.levels - level_of m f) f) c x (level_of m f) f p m)).memory
        go true = same m
        go false = by (links_up_of c x m (c.levels - level_of m f) f)

    from_out : (k i : ℕ) (p : Pool) (m : List ℕ) → i + k ≤ c.shadows → Same c m (scan_from c x k i p m).memory
    unfolding scan_from
    from_out zero i p m l = same m
    from_out (suc k) i p m l = go one.result.ok (from_out k (suc i) one.result.pool one.memory (omega arith))
      where
        one : After Left
        one = visit_of c x p m (c.hosts + i)

        rest : After Left
        rest = scan_from c x k (suc i) one.result.pool one.memory

        visited : Same c m one.memory
        visited = visit_out p m (c.hosts + i) (omega arith, omega arith)

        go : (b : Bool) → Same c one.memory rest.memory → Same c m (cond b rest one).memory
        go true r = after m one.memory rest.memory r visited
        go false r = visited

    pub scan_out : (p : Pool) (m : List ℕ) → p.fresh ≤ c.shadows → Same c m (scan_of c x p m).memory
    unfolding scan_of
    scan_out p m l = from_out p.fresh 0 p m (omega arith)

  pub prefix_out : (p : Pool) (m is : List ℕ) → p.fresh ≤ c.shadows → Same c m (drop_prefix_of c p m is).memory
  unfolding drop_prefix_of
  prefix_out p m [] l = same m
  prefix_out p m (i ∷ is) l = go (holder_of c m p.top i is)
    where
      go : (w : Way) → Same c m (on_way w (outcome p true m) (outcome p false m) (λ f. scan_of c (Slot (page f) (last_index i is)) p m)).memory
      go (way.To f) = scan_out (Slot (page f) (last_index i is)) p m l
      go way.Not = same m
      go way.Damaged = same m
