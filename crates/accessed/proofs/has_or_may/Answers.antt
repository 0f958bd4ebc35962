-- By the test of the bits, then by the host walk.
use Rattle.accessed.proofs.has_or_may.Goals as goal

pub returns-then-has_bits : goal.returns-then-has_bits
returns-then-has_bits c =
    let if1 = c.if-has_bits in
    let has-bits = c.has_bits in
    rw (← has-bits.ensures, if1.true)

pub returns : goal.returns
returns c =
    let may_write_lem = c.may_write in
    let if1 = c.if-has_bits in
    let has-bits = c.has_bits in
    rw (← has-bits.ensures, if1.false) may_write_lem.ensures
