-- 0 is none, nor is what is above 8; from 1 to 8 by the bits (spec_laws Bytes). Assumes nothing.
use Rattle.std.proofs.Common.{◌≡◌, suc, ◌-◌, eqb, sym, ap, ◌∙◌, arith}
use lib.Bits.{bit_and}
use Rattle.spec.specs.Bytes.{width_fits}
use Rattle.spec_laws.proofs.Bytes.{width_none, width_power}
use Rattle.entry.proofs.width_fits.Goals as goal

pub returns-then-width-eq0 : goal.returns-then-width-eq0
returns-then-width-eq0 c = sym (ap width_fits c.if-width-eq0.true)

pub returns-then-width-gt8 : goal.returns-then-width-gt8
returns-then-width-gt8 c = sym (width_none c.args.width (omega arith))

pub returns : goal.returns
returns c = let w = c.args.width in
    let e : w ≡ suc (w - 1) = omega arith in
    ap (λ z. eqb (bit_and z (w - 1)) 0) e ∙ width_power (w - 1) (omega arith) ∙ sym (ap width_fits e)
