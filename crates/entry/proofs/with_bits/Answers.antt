-- By the calls' promises. Assumes nothing.
use Rattle.entry.proofs.with_bits.Goals as goal

pub returns-then-ends : goal.returns-then-ends
returns-then-ends c = let with-bit2 = c.with_bit in
    let if1 = c.if-ends in
    let with_bit_lem = c.with_bit-seen in
    rw (if1.true, with-bit2.ensures, with_bit_lem.ensures)

pub returns-else-ends : goal.returns-else-ends
returns-else-ends c = let if1 = c.if-ends in
    let with_bit_lem = c.with_bit-seen in
    rw if1.false with_bit_lem.ensures
