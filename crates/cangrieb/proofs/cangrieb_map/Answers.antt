-- Of the words those of the host tables and of what is held are written.
use mathlib.Core.Path.{ap}
use Rattle.cangrieb.specs.Flat.{left_of}
use Rattle.cangrieb.proofs.cangrieb_map.Goals as goal

pub map_at-x-requires : goal.map_at-x-requires
map_at-x-requires c = rw c.head_in-h.ensures c.fits-fits.ensures

pub returns : goal.returns
returns c = rw (c.answer_of.ensures, c.put_tables.ensures) (ap left_of (rw c.head_in-h.ensures at c.map_at-x.ensures))
