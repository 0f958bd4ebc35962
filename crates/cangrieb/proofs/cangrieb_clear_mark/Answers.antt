-- The call in parts writes the arrays where they stand; the head is written back.
use mathlib.Core.Path.{ap}
use Rattle.cangrieb.specs.Flat.{left_of}
use Rattle.calls.specs.Calls.{clear_mark_call}
use Rattle.cangrieb.proofs.cangrieb_clear_mark.Goals as goal

pub mark_at-t-requires : goal.mark_at-t-requires
mark_at-t-requires c = rw c.head_in-h.ensures c.fits-fits.ensures

pub returns : goal.returns
unfolding clear_mark_call
returns c = rw (c.answer_of.ensures, c.head_words.ensures) (ap left_of (rw c.head_in-h.ensures at c.mark_at-t.ensures))
