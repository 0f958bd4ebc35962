-- The words say the head, and the call in parts is given it; what is held then and the window are written back, the arrays stay.
use mathlib.Core.Path.{ap}
use Rattle.cangrieb.specs.Flat.{left_of}
use Rattle.cangrieb.proofs.cangrieb_load.Goals as goal

pub load_at-s-requires : goal.load_at-s-requires
load_at-s-requires c = rw c.head_in-h.ensures c.fits-fits.ensures

pub returns : goal.returns
returns c = rw (c.answer_of.ensures, c.put_window.ensures) (ap left_of (rw c.head_in-h.ensures at c.load_at-s.ensures))
