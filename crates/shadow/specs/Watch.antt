-- Which guest tables the shadow tables watch, for any memory.
-- Assumes nothing.
use Rattle.std.specs.Prelude.{ℕ, zero, suc, ◌+◌, Bool, true, false, cond, List, eqb}
use Rattle.spec.specs.Config.{Config}
use Rattle.pool.specs.Header.{guest_of, level_of}

-- is frame f a table that stands for a guest table in host frame t?
unfoldable pub watches_of : List ℕ → ℕ → ℕ → Bool
watches_of m f t = cond (eqb (level_of m f) 0) false (eqb (guest_of m f) t)

-- one of the first k frames from b on
unfoldable pub watched_from : List ℕ → ℕ → ℕ → ℕ → Bool
watched_from m b t zero = false
watched_from m b t (suc k) = cond (watches_of m (b + k) t) true (watched_from m b t k)

-- is host frame t watched: does a shadow table, of those handed out so far, stand for a guest table in it?
unfoldable pub watched_of : Config → List ℕ → ℕ → ℕ → Bool
watched_of c m fresh t = watched_from m c.hosts t fresh
