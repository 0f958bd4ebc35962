-- Mapping and unmapping over the host tables, for any memory. Document 01, "Map" and "Unmap".
-- Assumes nothing.
use Rattle.std.specs.Prelude.{ℕ, Bool, true, false, cond, List, [], ◌∷◌}
use Rattle.std.proofs.Math.Option.{Option, none, some}
use Rattle.spec.specs.Config.{Config}
use Rattle.spec.specs.Entry.{indexes}
use Rattle.spec.specs.Machine.{Machine, Mapping, with, without}
use Rattle.spec.specs.Book.{Book, empty_book}
use Rattle.spec.specs.Call.{Call, map, unmap}
use Rattle.spec.specs.Refusal.{frame_fits, in_guest_area, refusal}
use Rattle.pool.specs.declared.Area.{Area}
use Rattle.pool.specs.declared.Pool.{Pool}
use Rattle.pool.specs.declared.Way.{Way}
use Rattle.pool.specs.declared.Way.TheVariants.{To, Not, Damaged}
use Rattle.area.specs.Tree.{insert_of}
use Rattle.prune.specs.Remove.{remove_of}
use Rattle.area_laws.specs.Host.{host_entry}
use Rattle.host.specs.declared.Change.{Change}
use Rattle.words.specs.After.{After, yields}
use Rattle.pool.specs.declared.Went.{Went}

-- the host tables: the first H frames
abbrev pub host_area : Config → Area
host_area c = record { base = 0; size = c.hosts; levels = c.levels }

abbrev pub changed : Pool → ℕ → List ℕ → After Change
changed p n m = yields (record { pool = p; refusal = n }) m

-- what a step in the area came to; n: the refusal where it found nothing. A refusal leaves the pool
abbrev pub change_by : Pool → Pool → ℕ → Way → Change
change_by before after n (To f) = record { pool = after; refusal = 0 }
change_by before after n Not = record { pool = before; refusal = n }
change_by before after n Damaged = record { pool = before; refusal = 11 }

abbrev pub changed_by : Pool → ℕ → After Went → After Change
changed_by p n t = yields (change_by p t.result.pool n t.result.way) t.memory

-- 8 if the guest frame has too many bits, then 9 if the host frame is not in the guest area, then 10 if there are not tables enough
unfoldable pub map_of : Config → Pool → List ℕ → ℕ → ℕ → Bool → After Change
map_of c p m g f w =
    cond (frame_fits c g)
    (cond (in_guest_area c f)
    (changed_by p 10 (insert_of (host_area c) [] p m (indexes c.levels g) (host_entry f w)))
    (changed p 9 m))
    (changed p 8 m)

-- 8 as above, then 12 if the frame is not mapped; tables that are empty then can be used again
unfoldable pub unmap_of : Config → Pool → List ℕ → ℕ → After Change
unmap_of c p m g = cond (frame_fits c g) (changed_by p 12 (remove_of (host_area c) true p m (indexes c.levels g))) (changed p 8 m)

-- ---- a list of maps and unmaps

pub data Remap : Type 0 where
  maps : ℕ → ℕ → Bool → Remap  -- guest frame, host frame, writable
  unmaps : ℕ → Remap

unfoldable pub remap_of : Config → Pool → List ℕ → Remap → After Change
remap_of c p m (maps g f w) = map_of c p m g f w
remap_of c p m (unmaps g) = unmap_of c p m g

-- the refusals, and the pool and the memory after them
pub record Remapped : Type 0 where
  pub refusals : List ℕ
  pub pool : Pool
  pub memory : List ℕ

unfoldable pub remaps_of : Config → Pool → List ℕ → List Remap → Remapped
remaps_of c p m [] = record { refusals = []; pool = p; memory = m }
remaps_of c p m (x ∷ xs) =
    let t : After Change = remap_of c p m x in
    let r : Remapped = remaps_of c t.result.pool t.memory xs in
    record { refusals = t.result.refusal ∷ r.refusals; pool = r.pool; memory = r.memory }

-- the same on the specification's mapping, by its own tests
abbrev pub as_call : Remap → Call
as_call (maps g f w) = map g f w
as_call (unmaps g) = unmap g

abbrev pub mapped_by : Remap → List Mapping → List Mapping
mapped_by (maps g f w) xs = with g f w xs
mapped_by (unmaps g) xs = without g xs

-- a machine with these mappings; a map or unmap asks for nothing else of it
abbrev pub mapping_only : List Mapping → Machine
mapping_only xs = record { area = []; mappings = xs; root = 0 }

abbrev pub no_book : Book
no_book = empty_book false

abbrev pub number_by : Option ℕ → ℕ
number_by none = 0
number_by (some n) = n

abbrev pub mapping_by : Option ℕ → Remap → List Mapping → List Mapping
mapping_by none x xs = mapped_by x xs
mapping_by (some n) x xs = xs

pub record Mapped : Type 0 where
  pub refusals : List ℕ
  pub mapping : List Mapping

unfoldable pub maps_of : Config → List Mapping → List Remap → Mapped
maps_of c ms [] = record { refusals = []; mapping = ms }
maps_of c ms (x ∷ xs) =
    let n : Option ℕ = refusal c (as_call x) (mapping_only ms) no_book in
    let r : Mapped = maps_of c (mapping_by n x ms) xs in
    record { refusals = number_by n ∷ r.refusals; mapping = r.mapping }
