-- A repeated byte, as often as is said; by the law, since computing the length would walk it all.
use Rattle.std.proofs.Common.{ℕ, sym}
use lib.ListN.{length-replicate}
use Rattle.load_spec.specs.Load.{longest}
use Rattle.load.proofs.room.Goals as goal

pub returns : goal.returns
returns c = sym (length-replicate {A = ℕ} longest 0)
