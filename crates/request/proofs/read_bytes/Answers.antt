-- The word by its promise, then its part: the bytes lie inside the word, so the part is within its 64 bits.
use Rattle.spec.specs.Bytes.{bytes_at}
use Rattle.request.proofs.read_bytes.Goals as goal

pub returns : goal.returns
unfolding bytes_at
returns c =
    let word_of_call = c.word_of in
    let word_in_call = c.word_in-word in
    rw (c.part.ensures, word_in_call.ensures, word_of_call.ensures.0)
