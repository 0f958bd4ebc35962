-- The bytes that came ask for the load that the whole input asks for.
use Rattle.std.proofs.Common.{rules, take}
use Rattle.load.proofs.Came.{same_load, wrote}
use Rattle.load.proofs.run.Goals as goal

pub returns : goal.returns
returns g c =
    let asked = c.read_full.new.buf in
    wrote c.write_load.result _ _ _ (take c.in_ok-n.n asked)
    (same_load _ _ asked c.in_ok-n.n (search rules) (search rules) c.in_ok-n.ensures.came c.in_ok-n.ensures.ended)
    c.write_load.ensures
