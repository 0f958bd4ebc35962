-- What every host walk over memory satisfies, damaged memory too.
use Prim.Native.Nat.{ℕ}
use native.Mathlib.Omega.{arith}
use mathlib.Core.List.{List}
use Rattle.spec.specs.Config.{Config}
use Rattle.spec.specs.Entry.{indexes}
use Rattle.spec_laws.proofs.Indexes.{indexes_length}
use Rattle.host.specs.Walk.{host_walk_of}
use Rattle.layout.proofs.Laws.{HostFits, named_fits}

pub host_fits : (c : Config) (top : ℕ) (m : List ℕ) (g : ℕ) → HostFits c (host_walk_of c top m g)
unfolding host_walk_of
host_fits c top m g = named_fits c 0 c.hosts m top (indexes c.levels g) (omega (arith, indexes_length c.levels g))
