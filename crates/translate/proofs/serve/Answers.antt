-- The direct part costs at most one exit, so the sum fits; the rest is what its call promises.
use native.Mathlib.Omega.{arith}
use Rattle.translate.specs.Translate.{served_of}
use Rattle.translate.proofs.Fits.{exit_small}
use Rattle.translate.proofs.serve.Goals as goal

pub overflow_add-result : goal.overflow_add-result
overflow_add-result c =
    let direct = c.direct-walked in
    let exit-of = c.exit_of in
    omega (arith, exit-of.ensures, exit_small direct.result)

pub returns : goal.returns
unfolding served_of
returns c =
    let direct = c.direct-walked in
    let exit-of = c.exit_of in
    rw (exit-of.ensures, direct.ensures)
