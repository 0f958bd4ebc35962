-- A path is filled, for any memory.
-- Assumes nothing.
use Rattle.std.specs.Prelude.{ℕ, List}
use Rattle.spec.specs.Config.{Config}
use Rattle.pool.specs.declared.Pool.{Pool}
use Rattle.pool.specs.declared.Way.{Way}
use Rattle.pool.specs.declared.Way.TheVariants.{To, Not, Damaged}
use Rattle.pool.specs.Pool.{none_of}
use Rattle.area.specs.Tree.{insert_of}
use Rattle.shadow.specs.Held.{shadow_area}
use Rattle.words.specs.After.{After}
use Rattle.pool.specs.declared.Went.{Went}

abbrev pub again_by : Way → After Went → After Went → After Went
again_by (To f) t again = t
again_by Not t again = again
again_by Damaged t again = t

-- the entry of a path is set, with the tables that it lacks; if they do not fit into S, all held paths are dropped first.
-- The header of each new table has the host frame of its guest table; guests has them from the top one on
unfoldable pub fill_of : Config → List ℕ → Pool → List ℕ → List ℕ → ℕ → After Went
fill_of c guests p m is e =
    let t = insert_of (shadow_area c) guests p m is e in
    again_by t.result.way t (insert_of (shadow_area c) guests none_of t.memory is e)
