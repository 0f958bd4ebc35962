-- By the definition; a remainder by 4096, divided by 8, is below 512.
use mathlib.Core.Path.{refl}
use native.Mathlib.Omega.{arith}
use Rattle.spec.specs.Entry.{word_of}
use Rattle.request.proofs.word_of.Goals as goal

pub returns : goal.returns
unfolding word_of
returns c = (refl, omega arith)
