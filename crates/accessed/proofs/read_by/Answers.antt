-- A shift drops the indexes of the levels that were not walked.
use Prim.Native.Nat.{◌≤◌}
use native.Mathlib.Omega.{arith}
use Rattle.layout.specs.Layout.{config}
use Rattle.accessed.specs.Entries.{seen_of}
use Rattle.accessed.proofs.Laws.{tables_most}
use Rattle.accessed.proofs.read_by.Goals.{After-tables_in-k}
use Rattle.accessed.proofs.read_by.Goals as goal

-- no more tables than steps
few : (c : After-tables_in-k) → c.tables_in-k.result ≤ c.args.steps
few c =
    let args = c.args in
    rw c.tables_in-k.ensures (tables_most (config args.layout) args.places.now 0 args.steps)

pub returns : goal.returns
unfolding seen_of
returns c = rw c.tables_in-k.ensures

pub overflow_sub-result : goal.overflow_sub-result
overflow_sub-result c = let l = few (goal.at.overflow_sub-result c).After-tables_in-k in omega arith

pub overflow_mul-result : goal.overflow_mul-result
overflow_mul-result c = let l = few (goal.at.overflow_mul-result c).After-tables_in-k in omega arith

pub overflow_shr-result : goal.overflow_shr-result
overflow_shr-result c = let l = few (goal.at.overflow_shr-result c).After-tables_in-k in omega arith

pub overflow_sub-result-2 : goal.overflow_sub-result-2
overflow_sub-result-2 c = let l = few (goal.at.overflow_sub-result-2 c).After-tables_in-k in omega arith
