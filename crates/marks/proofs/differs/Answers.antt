-- Each way goes by its test.
use Rattle.marks.proofs.differs.Goals as goal

pub returns-then-key_fits : goal.returns-then-key_fits
returns-then-key_fits c = rw (← c.key_fits.ensures, c.if-key_fits.true, c.holds.ensures)

pub returns : goal.returns
returns c = rw (← c.key_fits.ensures, c.if-key_fits.false)
