use Rattle.record.proofs.Record.fits.Goals as goal

pub returns : goal.returns
returns c =
    let head-words = c.head_words-words in
    let head = c.head in
    rw (c.fits.ensures, head-words.ensures, head.ensures)
