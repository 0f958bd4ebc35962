-- The bits above a guest frame number come first, then bit 7 above level 1. Assumes nothing.
use Rattle.std.proofs.Common.{◌≡◌, ℕ, ◌/◌, ◌%◌, ◌<◌, ◌≤◌, eqb, sym, ap, ◌∙◌, arith, eq-eqb}
use Rattle.spec.specs.Entry.{bit_set}
use Rattle.entry.specs.Levels.{of_levels}
use Rattle.entry.proofs.Entries.{malformed_high, malformed_low, malformed_off, malformed_on}
use Rattle.entry.proofs.malformed.Goals as goal

pub returns-then-level-le1 : goal.returns-then-level-le1
returns-then-level-le1 c =
    let low : c.args.level ≤ 1 = omega arith in
    let clear = rw c.frame_bits.ensures at c.if-e-frame_bits-eq0.true in
    sym (malformed_low (of_levels c.args.levels) _ _ clear low)

pub returns-then-e-eq0 : goal.returns-then-e-eq0
unfolding bit_set
returns-then-e-eq0 c = let a = c.args in
    let off : a.e / 128 % 2 ≡ 0 = omega arith in
    let clear = rw c.frame_bits.ensures at c.if-e-frame_bits-eq0.true in
    sym (malformed_off (of_levels a.levels) a.level a.e clear (ap (λ (x : ℕ). eqb x 1) off))

pub returns-then-e-frame_bits-eq0 : goal.returns-then-e-frame_bits-eq0
unfolding bit_set
returns-then-e-frame_bits-eq0 c = let a = c.args in
    let above : 1 < a.level = omega arith in
    let on : a.e / 128 % 2 ≡ 1 = omega arith in
    let clear = rw c.frame_bits.ensures at c.if-e-frame_bits-eq0.true in
    c.misplaced.ensures ∙ sym (malformed_on (of_levels a.levels) a.level a.e clear above (eq-eqb (a.e / 128 % 2) 1 on))

pub returns : goal.returns
returns c = let some = rw c.frame_bits.ensures at c.if-e-frame_bits-eq0.false in
    sym (malformed_high (of_levels c.args.levels) _ _ some)
