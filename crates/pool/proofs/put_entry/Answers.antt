-- The word stored has the header bits of the word read and the low 52 bits of e; the two share no bit, so their sum fits.
use Rattle.pool.specs.Header.{put_entry_of}
use Rattle.pool.proofs.put_entry.Goals as goal

pub returns : goal.returns
unfolding put_entry_of
returns c = let word_in_call = c.word_in-w in
    rw (c.set_in.ensures, word_in_call.ensures)
