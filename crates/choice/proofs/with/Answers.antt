use mathlib.Core.Path.{refl}
use native.Mathlib.Numerals.{add-one}
use borrow.Author.Tests.{lt-ltb, le-ltb}
use Rattle.choice.proofs.with.Goals as goal

pub returns-then-count-ge64 : goal.returns-then-count-ge64
returns-then-count-ge64 c = rw (le-ltb _ 64 c.if-count-ge64.true) (refl, refl)

pub returns : goal.returns
returns c = rw (lt-ltb _ 64 c.if-count-ge64.false, add-one) (refl, refl)
