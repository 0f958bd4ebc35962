-- The definition's four zeros, field by field.
use mathlib.Core.Path.{refl}
use Rattle.pool.specs.Pool.{none_of}
use Rattle.pool.proofs.no_tables.Goals as goal

pub returns : goal.returns
unfolding none_of
returns c = refl
