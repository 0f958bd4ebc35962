-- The mask of a power of two is the remainder (spec_laws Bytes). Assumes nothing.
use Rattle.std.proofs.Common.{eqb, ap, arith}
use Rattle.spec_laws.proofs.Bytes.{width_bounds, width_mask}
use Rattle.entry.proofs.aligned.Goals as goal

pub overflow_sub-result : goal.overflow_sub-result
overflow_sub-result c = omega (arith, (width_bounds c.args.width c.requires).0)

pub returns : goal.returns
returns c = ap (λ z. eqb z 0) (width_mask c.args.address c.args.width c.requires)
