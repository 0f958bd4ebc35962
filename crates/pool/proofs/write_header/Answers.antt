-- Five stores and those of the upper bits: each promise names the memory before it, as the definition nests them.
use Rattle.pool.specs.Header.{written, header_of}
use Rattle.pool.proofs.write_header.Goals as goal

pub returns : goal.returns
unfolding header_of written
returns c = let set-in = c.set_in in
    let set-in2 = c.set_in-2 in
    let set-in3 = c.set_in-3 in
    let set-in4 = c.set_in-4 in
    let set-in5 = c.set_in-5 in
    let write-upper = c.write_upper in
    rw (write-upper.ensures, set-in5.ensures, set-in4.ensures, set-in3.ensures, set-in2.ensures, set-in.ensures)
