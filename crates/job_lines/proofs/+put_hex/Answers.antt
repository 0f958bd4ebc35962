-- No digit, or a digit behind those that stand in front of it.
use Rattle.std.proofs.Common.{arith, append-nil, append_assoc}
use Rattle.job_lines.proofs.Numbers.{hex_zero, hex_more}
use Rattle.job_lines.proofs.+put_hex.Goals as goal

pub returns-then-width-gt0-clause-items : goal.returns-then-width-gt0-clause-items
returns-then-width-gt0-clause-items t c =
    let a = c.args in
    rw (c.push.ensures.items, c.put_hex.ensures.items, c.digit_of.ensures, hex_more a.width a.n c.if-width-gt0.true, append_assoc)

pub returns-else-width-gt0-clause-items : goal.returns-else-width-gt0-clause-items
returns-else-width-gt0-clause-items t c =
    let a = c.args in
    rw (hex_zero a.width a.n (omega arith), append-nil)
