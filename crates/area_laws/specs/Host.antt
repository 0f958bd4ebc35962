-- The machine's mapping as leaves of the host tables.
-- Assumes nothing.
use Rattle.std.specs.Prelude.{ℕ, ◌+◌, ◌*◌, Bool, cond, List, [], ◌∷◌}
use Rattle.std.proofs.Math.Option.{Option, none, some}
use Rattle.spec.specs.Config.{Config}
use Rattle.spec.specs.Entry.{indexes}
use Rattle.spec.specs.Machine.{Mapping}
use Rattle.area_laws.specs.Run.{Map}

-- the level 1 host entry of a frame: bit 0 set, bit 1 if it may be written, the frame number from bit 12 on
unfoldable pub host_entry : ℕ → Bool → ℕ
host_entry f w = f * 4096 + cond w 3 1

-- what a host walk finds at the end of a path
abbrev pub entry_by : Option (ℕ × Bool) → ℕ
entry_by none = 0
entry_by (some r) = host_entry r.0 r.1

-- each mapped frame's path, with its entry
unfoldable pub host_map : Config → List Mapping → Map
host_map c [] = []
host_map c (x ∷ xs) = (indexes c.levels x.guest, host_entry x.to x.right) ∷ host_map c xs
