-- A fill changes nothing outside the shadow tables, whatever the memory holds.
use Prim.Native.Nat.{ℕ, ◌+◌, ◌<◌, ◌≤◌}
use mathlib.Core.List.{List}
use Rattle.spec.specs.Config.{Config}
use Rattle.pool.specs.declared.Pool.{Pool}
use Rattle.pool.specs.declared.Way.{Way}
use Rattle.pool.specs.declared.Way.TheVariants as way
use Rattle.pool.specs.Pool.{none_of}
use Rattle.area.specs.Tree.{insert_of}
use Rattle.pool.specs.Outside.{SameOutside}
use Rattle.area.specs.Outside.{Narrow}
use Rattle.pool.proofs.Outside.{out_refl, out_trans}
use Rattle.area.proofs.Outside.{insert_out}
use Rattle.shadow.specs.Held.{shadow_area}
use Rattle.shadow.specs.Fill.{again_by, fill_of}
use Rattle.words.specs.After.{After}
use Rattle.pool.specs.declared.Went.{Went}

module _ (c : Config) where
  -- only words of the shadow tables' area differ, and the length is the same
  abbrev pub Same : List ℕ → List ℕ → Type 0
  Same m n = SameOutside c.hosts c.shadows m n

  abbrev In : ℕ → Type 0
  In f = (c.hosts ≤ f) × (f < c.hosts + c.shadows)

  same : (m : List ℕ) → Same m m
  same m = out_refl c.hosts c.shadows m

  after : (m n o : List ℕ) → Same n o → Same m n → Same m o
  after m n o y x = out_trans c.hosts c.shadows m n o y x

  pub fill_out : (guests : List ℕ) (p : Pool) (m is : List ℕ) (e : ℕ) → Narrow is → Same m (fill_of c guests p m is e).memory
  unfolding fill_of
  fill_out guests p m is e n = go first.result.way
    where
      first : After Went
      first = insert_of (shadow_area c) guests p m is e

      once : Same m first.memory
      once = insert_out (shadow_area c) guests p m is e n

      go : (w : Way) → Same m (again_by w first (insert_of (shadow_area c) guests none_of first.memory is e)).memory
      go (way.To f) = once
      go way.Not =
          after m first.memory _ (insert_out (shadow_area c) guests none_of first.memory is e n) once
      go way.Damaged = once
