-- What is left is copied to the front.
use Rattle.std.proofs.Common.{arith}
use Rattle.job_stream.proofs.Buffer.{kept}
use Rattle.job_stream.proofs.keep.Goals as goal

pub returns : goal.returns
returns c =
    let a = c.args in
    kept a.buf.now c.copy_within.new.self a.at c.min-end.result a.len (omega arith) (omega (arith, c.min-end.ensures)) c.copy_within.ensures.after
