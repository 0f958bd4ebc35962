-- The host walk over the words of the lent memory, damaged memory too. Document 01, "Host walk".
-- Assumes nothing.
use Rattle.std.specs.Prelude.{ℕ, List}
use Rattle.spec.specs.Config.{Config}
use Rattle.spec.specs.Entry.{indexes}
use Rattle.area.specs.Tree.{lookup_of}
use Rattle.layout.specs.Layout.{named_by}
use Rattle.layout.specs.declared.HostWalk.{HostWalk}

-- the host entries of guest frame g from level N to level 1, from the entry of the top table on
unfoldable pub host_walk_of : Config → ℕ → List ℕ → ℕ → HostWalk
host_walk_of c top m g = named_by c (lookup_of 0 c.hosts m top (indexes c.levels g) 0)
