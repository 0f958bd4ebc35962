-- A shift by the frame bits leaves 0 exactly if the number is below their power of two.
use Rattle.spec.specs.Config.{frame_bits}
use Rattle.layout.specs.Layout.{config}
use Rattle.entry.proofs.Entries.{shift_out}
use Rattle.layout.proofs.frame_fits.Goals as goal

pub returns : goal.returns
returns c = rw c.frame_bits.ensures (shift_out c.args.guest.0 (frame_bits (config c.args.layout)))
