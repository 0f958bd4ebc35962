-- Four stores: each promise names the memory before it, as the definition nests them.
use Rattle.pool.specs.Header.{written}
use Rattle.pool.proofs.write_upper.Goals as goal

pub returns : goal.returns
unfolding written
returns c = let set-in = c.set_in in
    let set-in2 = c.set_in-2 in
    let set-in3 = c.set_in-3 in
    let set-in4 = c.set_in-4 in
    rw (set-in4.ensures, set-in3.ensures, set-in2.ensures, set-in.ensures)
