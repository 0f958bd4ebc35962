-- The shadow tables' area, a held path looked up in it, and its entry, for any memory.
-- Assumes nothing.
use Rattle.std.specs.Prelude.{ℕ, ◌+◌, ◌*◌, Bool, cond, List}
use Rattle.spec.specs.Config.{Config}
use Rattle.pool.specs.declared.Area.{Area}
use Rattle.area.specs.Tree.{lookup_of}
use Rattle.layout.specs.declared.HostWalk.{HostWalk}
use Rattle.layout.specs.Layout.{named_by}

-- the S shadow frames, which follow the H host frames
abbrev pub shadow_area : Config → Area
shadow_area c = record { base = c.hosts; size = c.shadows; levels = c.levels }

-- a path is held if a shadow entry stands at its end: what stands there, from the entry of the top table on. Only the shadow
-- entries on its way are read
unfoldable pub held_of : Config → List ℕ → ℕ → List ℕ → HostWalk
held_of c m top is = named_by c (lookup_of c.hosts c.shadows m top is 0)

-- the entry of a held path: bit 0 present, bit 1 writable, bit 9 the switch bit, from bit 12 on the host frame
unfoldable pub entry_for : ℕ → Bool → Bool → ℕ
entry_for frame switch writable = frame * 4096 + cond switch 512 0 + cond writable 2 0 + 1
