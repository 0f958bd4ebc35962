-- By the definition. Assumes nothing.
use Rattle.std.proofs.Common.{refl}
use Rattle.spec.specs.Entry.{page_of}
use Rattle.entry.proofs.GuestVirtual.page.Goals as goal

pub returns : goal.returns
unfolding page_of
returns c = refl
