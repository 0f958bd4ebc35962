-- Where the low bits agree, the upper ones tell; else the numbers differ.
use mathlib.Core.Path.{sym}
use Prim.Native.Nat.{◌<◌}
use native.Mathlib.Omega.{arith}
use Rattle.pool.specs.Header.{guest_of}
use Rattle.pool.proofs.Laws.{low_same, low_other}
use Rattle.pool.proofs.stands_for.Goals as goal

pub returns-then-frame_at-guest : goal.returns-then-frame_at-guest
unfolding guest_of
returns-then-frame_at-guest c = rw (← c.upper.ensures, ← c.frame_at.ensures) (low_same _ _ _ c.if-frame_at-guest.true)

pub returns-else-frame_at-guest : goal.returns-else-frame_at-guest
unfolding guest_of
returns-else-frame_at-guest c = let frame_at = c.frame_at in
    let args = c.args in
    let small : frame_at.result < 65536 = omega (arith, frame_at.ensures) in
    rw (← frame_at.ensures) (sym (low_other frame_at.result _ args.guest small c.if-frame_at-guest.false))
