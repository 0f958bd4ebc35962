-- By the promise of the bytes.
use Rattle.request.proofs.finish.Goals as goal

pub returns : goal.returns
returns c =
    let put-bytes = c.put_bytes in
    rw put-bytes.ensures
