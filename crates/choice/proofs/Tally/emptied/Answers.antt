-- The word is cleared, the rest is kept.
use mathlib.Core.Path.{refl}
use Rattle.choice.specs.Window.{emptied_of}
use Rattle.choice.proofs.Tally.emptied.Goals as goal

pub returns : goal.returns
unfolding emptied_of
returns c = refl
