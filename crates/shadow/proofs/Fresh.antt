-- A fill hands out no more frames than the shadow tables have.
use Prim.Native.Nat.{ℕ}
use mathlib.Core.List.{List}
use Rattle.spec.specs.Config.{Config}
use Rattle.pool.specs.declared.Pool.{Pool}
use Rattle.pool.specs.declared.Way.{Way}
use Rattle.pool.specs.declared.Way.TheVariants as way
use Rattle.pool.specs.Pool.{none_of}
use Rattle.area.specs.Tree.{insert_of}
use Rattle.shadow.specs.Held.{shadow_area}
use Rattle.shadow.specs.Fill.{again_by, fill_of}
use Rattle.words.specs.After.{After}
use Rattle.pool.specs.declared.Went.{Went}
use Rattle.area.proofs.Fresh.{PoolFits, none_fits, insert_fits}

module _ (c : Config) where
  abbrev pub Bounded : Pool → Type 0
  Bounded p = PoolFits (shadow_area c) p

  pub fill_fits : (guests : List ℕ) (p : Pool) (m is : List ℕ) (e : ℕ) → Bounded p → Bounded (fill_of c guests p m is e).result.pool
  unfolding fill_of
  fill_fits guests p m is e h = go first.result.way
    where
      first : After Went
      first = insert_of (shadow_area c) guests p m is e

      go : (w : Way) → Bounded (again_by w first (insert_of (shadow_area c) guests none_of first.memory is e)).result.pool
      go (way.To f) = insert_fits (shadow_area c) guests p m is e h
      go way.Not = insert_fits (shadow_area c) guests none_of first.memory is e (none_fits (shadow_area c))
      go way.Damaged = insert_fits (shadow_area c) guests p m is e h
