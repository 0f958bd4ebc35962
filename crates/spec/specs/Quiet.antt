-- Document 02, 5): a quiet stretch of a run, and the figure that it costs.
-- Assumes nothing.
use Rattle.std.specs.Prelude.{ℕ, Bool, true, false, not, ◌&&◌, cond, List, [], ◌∷◌, ◌++◌, leb}
use Rattle.std.proofs.Math.Option.{Option, none, some}
use Rattle.spec.specs.declared.Fault.{Fault}
use Rattle.spec.specs.Config.{Config}
use Rattle.spec.specs.Prefix.{same, any, keep, distinct, tables_of}
use Rattle.spec.specs.Walk.{Result, granted, failed}
use Rattle.spec.specs.Plain.{Place, upper}
use Rattle.spec.specs.Book.{Held, paths, watched}
use Rattle.spec.specs.Call.{Call, root, map, unmap, set_mark, clear_mark, load, store, device, forecast, address_indexes, plain}
use Rattle.spec.specs.Count.{is_granted, request_depth, request}
use Rattle.spec.specs.Refusal.{all_of, refusal}
use Rattle.spec.specs.Run.{State, step}

-- ---- what a call is to a stretch

-- a request of an address, to store (true) or to load; a call that changes nothing, a forecast or one that is refused; or any other,
-- which ends the stretch
pub data Role : Type 0 where
  asks : Bool → ℕ → Role
  rests ends : Role

abbrev pub role_of : Call → Role
role_of (root r) = ends
role_of (map g f w) = ends
role_of (unmap g) = ends
role_of (set_mark a n) = ends
role_of (clear_mark a n) = ends
role_of (load a w) = asks false a
role_of (store a w v) = asks true a
role_of (device a w v) = ends
role_of (forecast xs) = rests

abbrev pub role_by : Call → Option ℕ → Role
role_by x (some n) = rests
role_by x none = role_of x

-- the calls of a list by their roles, each with the machine and book that it meets
unfoldable pub met : List Call → State → List (Role × State)
met [] s = []
met (x ∷ xs) s = (role_by x (refusal s.config x s.machine s.book), s) ∷ met xs (step x s).1

-- ---- when a stretch is quiet

-- the stretch has granted requests, and else only calls that change nothing
abbrev pub granted_at : Role × State → Bool
granted_at (asks st a, s) = is_granted (plain s.config s.machine st a).result
granted_at (rests, s) = true
granted_at (ends, s) = false

unfoldable pub only_granted : List Call → State → Bool
only_granted xs s = all_of granted_at (met xs s)

-- the paths that are held once a request is translated: those before it, and its own
abbrev pub translated : State → Bool → ℕ → List Held
translated s st a =
    (request s.config s.machine s.book st a (request_depth s.config s.machine s.book a)).book.held

abbrev pub comes_to_watched : List Held → Result Fault Place → Bool
comes_to_watched hs (granted p) = watched p.0 hs
comes_to_watched hs (failed x) = false

-- no store comes to a frame that is watched then
abbrev pub unwatched_at : Role × State → Bool
unwatched_at (asks true a, s) = not (comes_to_watched (translated s true a) (plain s.config s.machine true a).result)
unwatched_at (asks false a, s) = true
unwatched_at (rests, s) = true
unwatched_at (ends, s) = true

unfoldable pub none_watched : List Call → State → Bool
none_watched xs s = all_of unwatched_at (met xs s)

-- the path of a request at depth d; at depth N + 1 it has none
abbrev pub path_of : Config → ℕ → ℕ → Option (List ℕ)
path_of c a d = cond (leb d c.levels) (some (upper c d (address_indexes c a))) none

abbrev pub path_at : Role × State → Option (List ℕ)
path_at (asks st a, s) = path_of s.config a (request_depth s.config s.machine s.book a)
path_at (rests, s) = none
path_at (ends, s) = none

-- the paths ps, and one more if there is one
abbrev pub added : Option (List ℕ) → List (List ℕ) → List (List ℕ)
added none ps = ps
added (some p) ps = p ∷ ps

abbrev pub paths_at : List (Role × State) → List (List ℕ)
paths_at [] = []
paths_at (o ∷ os) = added (path_at o) (paths_at os)

-- the paths that the requests touch, one for each request that has one
unfoldable pub touched : List Call → State → List (List ℕ)
touched xs s = paths_at (met xs s)

-- the shadow tables of these paths, with those of all that is held at the start, are at most S
unfoldable pub all_fit : List Call → State → Bool
all_fit xs s = leb (tables_of (touched xs s ++ paths s.book.held)) s.config.shadows

unfoldable pub quiet : List Call → State → Bool
quiet xs s = only_granted xs s && none_watched xs s && all_fit xs s

-- ---- what it costs

-- how many different ones of ps are not among hs
unfoldable pub new_paths : List (List ℕ) → List (List ℕ) → ℕ
new_paths hs ps = distinct (keep (λ p. not (any (same p) hs)) ps)

-- the figure: how many different paths it touches that were not held at its start
unfoldable pub quiet_exits : List Call → State → ℕ
quiet_exits xs s = new_paths (paths s.book.held) (touched xs s)
