-- The word less its part and with the new one (spec_laws Bytes); in their place both parts stay below bit 64. Assumes nothing.
use mathlib.Core.Path.{◌≡◌, ap, ◌∙◌}
use Prim.Native.Nat.{ℕ, ◌+◌, ◌-◌, ◌*◌, ◌%◌, ◌^◌, ◌≤◌}
use native.Mathlib.Omega.{arith}
use lib.Pow.{shl_exact}
use Rattle.spec.specs.Bytes.{part, with_part}
use Rattle.spec_laws.proofs.Bytes.{part_lt, part_le, put_lt, put_changes}
use Rattle.words.proofs.with_part.Goals as goal

-- a part r of e, moved up to bit k
moved : (n k i e r : ℕ) → r ≡ part n i e → n + k ≤ 64 → r * 2 ^ k % 18446744073709551616 ≡ part n i e * 2 ^ k
moved n k i e r h l = ap (λ z. z * 2 ^ k % 18446744073709551616) h ∙ shl_exact n k 64 (part_lt n i e) l

-- the sum is the word with the new part
sum : (n k v e old new : ℕ) → old ≡ part n k e → new ≡ part n 0 v → n + k ≤ 64
    → e - old * 2 ^ k % 18446744073709551616 + new * 2 ^ k % 18446744073709551616 ≡ with_part n k v e
sum n k v e old new h g l = omega (arith, moved n k k e old h l, moved n k 0 v new g l, part_le n k e, put_changes n k v e)

pub overflow_sub-result : goal.overflow_sub-result
overflow_sub-result c = let n = c.args.bits in
    let k = c.args.from in
    let e = c.args.word in
    omega (arith, moved n k k e c.part.result c.part.ensures (omega arith), part_le n k e)

pub overflow_add-result : goal.overflow_add-result
overflow_add-result c = let n = c.args.bits in
    let k = c.args.from in
    let e = c.args.word in
    let v = c.args.value in
    omega (arith, sum n k v e c.part.result c.part-2.result c.part.ensures c.part-2.ensures (omega arith), put_lt n k v e 64 (omega arith) (omega arith))

pub returns : goal.returns
returns c = sum _ _ _ _ _ _ c.part.ensures c.part-2.ensures (omega arith)
