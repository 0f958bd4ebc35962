-- Memory and arrays are only read; the head with its new root is written.
use mathlib.Core.Path.{ap}
use Rattle.cangrieb.specs.Flat.{left_of}
use Rattle.cangrieb.proofs.cangrieb_root.Goals as goal

pub root_at-t-requires : goal.root_at-t-requires
root_at-t-requires c = rw c.head_in-h.ensures c.fits-fits.ensures

pub returns : goal.returns
returns c = rw (c.answer_of.ensures, c.head_words.ensures) (ap left_of (rw c.head_in-h.ensures at c.root_at-t.ensures))
