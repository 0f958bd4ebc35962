-- The call in parts on the head that the words say; of these only the five of what is held are written.
use mathlib.Core.Path.{ap}
use Rattle.cangrieb.specs.Flat.{left_of}
use Rattle.cangrieb.proofs.cangrieb_device_store.Goals as goal

pub device_store_at-s-requires : goal.device_store_at-s-requires
device_store_at-s-requires c = rw c.head_in-h.ensures c.fits-fits.ensures

pub returns : goal.returns
returns c =
    rw (c.answer_of.ensures, c.put_held.ensures) (ap left_of (rw c.head_in-h.ensures at c.device_store_at-s.ensures))
