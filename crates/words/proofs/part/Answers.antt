-- Three shifts (spec_laws Bytes), in a word of 64 bits. Assumes nothing.
use mathlib.Core.Path.{◌≡◌, ap, ◌∙◌}
use Prim.Native.Nat.{ℕ, ◌+◌, ◌-◌, ◌*◌, ◌/◌, ◌%◌, ◌^◌}
use native.Mathlib.Omega.{arith}
use Rattle.spec_laws.proofs.Bytes.{part_shifts}
use Rattle.words.proofs.part.Goals as goal

pub returns : goal.returns
returns c = let n = c.args.bits in
    let x : ℕ = 64 - n in
    let word : 64 ≡ n + x = omega arith in
    ap (λ y. c.args.word / 2 ^ c.args.from * 2 ^ x % 2 ^ y / 2 ^ x) word ∙ part_shifts n c.args.from x c.args.word
