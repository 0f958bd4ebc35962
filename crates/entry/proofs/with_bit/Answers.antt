-- Where the bit is not set there is room for it. Assumes nothing.
use Rattle.std.proofs.Common.{◌≡◌, ◌*◌, ◌%◌, ◌^◌, ◌∙◌, one-mul, arith, lit<, shl_exact, eq-eqb, ne_eqb}
use Rattle.spec.specs.Entry.{bit_set, with_bit}
use Rattle.spec_laws.proofs.EntryBits.{bit_clear}
use Rattle.entry.proofs.Entries.{bit_room}
use Rattle.entry.proofs.with_bit.Goals as goal

pub returns-then-e-bit-eq1 : goal.returns-then-e-bit-eq1
unfolding with_bit bit_set
returns-then-e-bit-eq1 c = let if1 = c.if-e-bit-eq1 in
    rw (eq-eqb _ 1 if1.true)

pub overflow_add-result : goal.overflow_add-result
unfolding bit_set
overflow_add-result c = let if1 = c.if-e-bit-eq1 in
    let args = c.args in
    let pre = c.requires in
    let one : 1 * 2 ^ args.bit % 2 ^ 64 ≡ 2 ^ args.bit = shl_exact 1 args.bit 64 (lit< tt) (omega arith) ∙ one-mul _ in
    let room = bit_room args.bit args.e pre (omega arith) (bit_clear args.bit args.e (ne_eqb _ 1 if1.false)) in
    omega (arith, one, room)

pub returns : goal.returns
unfolding with_bit bit_set
returns c = let if1 = c.if-e-bit-eq1 in
    let args = c.args in
    let one : 1 * 2 ^ args.bit % 2 ^ 64 ≡ 2 ^ args.bit = shl_exact 1 args.bit 64 (lit< tt) (omega arith) ∙ one-mul _ in
    rw (ne_eqb _ 1 if1.false, one)
