-- By the refusal's number: zeros and an unchanged memory, or a granted opening, where H + S is bounded by the sizes that fit.
use mathlib.Core.Path.{sym, ◌∙◌}
use native.Mathlib.Omega.{arith}
use lib.ListN.{length}
use borrow.Author.Tests.{eq-eqb, ne_eqb}
use Rattle.record.specs.Open.{open_of}
use Rattle.record.proofs.Rules.{granted_sized}
use Rattle.opening.proofs.open.Goals as goal

pub returns-then-refusal-ne0 : goal.returns-then-refusal-ne0
unfolding open_of
returns-then-refusal-ne0 c =
    let open_refusal_lem = c.open_refusal-refusal in
    let if1 = c.if-refusal-ne0 in
    let zeros = c.zeros in
    rw (← open_refusal_lem.ensures, ne_eqb _ _ if1.true, zeros.ensures)

pub open_granted-unit-requires : goal.open_granted-unit-requires
open_granted-unit-requires c =
    let args = c.args in
    let open_refusal_lem = c.open_refusal-refusal in
    let if1 = c.if-refusal-ne0 in
    let z = (granted_sized (length args.mem.now) args.hosts args.shadows args.bits (sym open_refusal_lem.ensures ∙ if1.false)).0 in omega (arith, z.guest, z.frames)

pub returns : goal.returns
unfolding open_of
returns c =
    let open_refusal_lem = c.open_refusal-refusal in
    let if1 = c.if-refusal-ne0 in
    let open-granted = c.open_granted-unit in
    rw (← open_refusal_lem.ensures, eq-eqb _ _ if1.false, ← open-granted.ensures)
