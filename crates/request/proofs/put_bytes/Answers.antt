-- The word around them, with them.
use Rattle.request.proofs.put_bytes.Goals as goal

pub returns : goal.returns
returns c =
    let set-in = c.set_in in
    let word_of_call = c.word_of in
    let with-bytes = c.with_bytes-word in
    rw (set-in.ensures, word_of_call.ensures.0, with-bytes.ensures)
