-- The layout of the lent memory, and what the entry at the end of a path names, for any memory. Document 01, "Memory and tables".
-- Assumes nothing.
use Rattle.std.specs.Prelude.{ℕ, ◌≤◌, not, cond, eqb}
use Rattle.spec.specs.Config.{Config}
use Rattle.spec.specs.Entry.{present, writable, frame_of}
use Rattle.spec.specs.Refusal.{in_guest_area}
use Rattle.entry.specs.declared.HostPhysical.{HostPhysical}
use Rattle.area.specs.declared.Look.{Look}
use Rattle.area.specs.declared.Look.TheVariants.{Seen}
use Rattle.area.specs.declared.Look.TheVariants as look
use Rattle.layout.specs.declared.Layout.{Layout}
use Rattle.layout.specs.declared.HostWalk.{HostWalk}
use Rattle.layout.specs.declared.HostWalk.TheVariants.{Found, Absent, Damaged}

-- the specification's configuration; a unit has 64 places for marks
abbrev pub config : Layout → Config
config l = record { levels = l.levels; mark_room = 64; hosts = l.hosts; shadows = l.shadows; frames = l.frames; bits = not (eqb l.bits 0) }

-- ranges that the check of the record gives
abbrev pub LayoutFits : Layout → Type 0
LayoutFits l = (l.levels ≤ 5) × (l.hosts ≤ 65536) × (l.shadows ≤ 65536) × (l.frames ≤ 65536)

abbrev pub page : ℕ → HostPhysical
page f = record { 0 = f }

-- the entry e at the end of a path is absent or names a frame of the guest area; a present one that names another is damage (11)
unfoldable pub leaf_of : Config → ℕ → ℕ → HostWalk
leaf_of c e reads = cond (present e) (cond (in_guest_area c (frame_of e)) (Found (page (frame_of e)) (writable e)) Damaged) (Absent reads)

-- the end of a lookup
abbrev pub named_by : Config → Look → HostWalk
named_by c (Seen e reads) = leaf_of c e reads
named_by c look.Damaged = Damaged
