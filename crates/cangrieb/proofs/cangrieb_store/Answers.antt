-- With the choice off what is held goes into the head's words for it; on, the head is written back, and the call in parts has written the arrays.
use mathlib.Core.Path.{ap}
use Rattle.cangrieb.specs.Flat.{left_of}
use Rattle.cangrieb.proofs.cangrieb_store.Goals as goal

pub store_at-s-requires : goal.store_at-s-requires
store_at-s-requires c = rw c.head_in-h.ensures (c.fits-fits.ensures, rw c.head_in-h.ensures at c.if-h-eq0.true)

pub returns-then-h-eq0 : goal.returns-then-h-eq0
returns-then-h-eq0 c =
    rw (c.answer_of.ensures, c.put_held.ensures) (ap left_of (rw c.head_in-h.ensures at c.store_at-s.ensures))

pub store_on-t-requires : goal.store_on-t-requires
store_on-t-requires c = rw c.head_in-h.ensures (c.fits-fits.ensures, rw c.head_in-h.ensures at c.if-h-eq0.false)

pub returns : goal.returns
returns c =
    rw (c.answer_of-2.ensures, c.head_words.ensures) (ap left_of (rw c.head_in-h.ensures at c.store_on-t.ensures))
