-- The bits add at most 515 to a frame number of 40 bits shifted by 12, so no sum overflows.
use native.Mathlib.Omega.{arith}
use Rattle.shadow.specs.Held.{entry_for}
use Rattle.shadow.proofs.Laws.{bit_small}
use Rattle.shadow.proofs.entry_for.Goals as goal

pub overflow_add-result : goal.overflow_add-result
overflow_add-result c = let s = bit_small c.args.switch 512 in omega (arith, c.bit_if.ensures, c.requires)

pub overflow_add-result-2 : goal.overflow_add-result-2
overflow_add-result-2 c = let s = bit_small c.args.switch 512 in let w = bit_small c.args.writable 2 in omega (arith, c.bit_if.ensures, c.bit_if-2.ensures, c.requires)

pub overflow_add-result-3 : goal.overflow_add-result-3
overflow_add-result-3 c = let s = bit_small c.args.switch 512 in let w = bit_small c.args.writable 2 in omega (arith, c.bit_if.ensures, c.bit_if-2.ensures, c.requires)

pub returns : goal.returns
unfolding entry_for
returns c = rw (← c.bit_if.ensures, ← c.bit_if-2.ensures)
