-- The words below i are 0.
use Prim.Native.Nat.{◌+◌}
use mathlib.Core.Path.{◌≡◌, sym}
use Prim.Native.Nat.{◌*◌}
use native.Mathlib.Omega.{arith}
use Rattle.words.proofs.Laws.{zeroed_none, zeroed_more}
use Rattle.record.specs.Open.{cleared_of}
use borrow.Author.Rules.{rules}
use Rattle.opening.proofs.clear_frames.Goals as goal

pub loop-i-init : goal.loop-i-init
loop-i-init c = (omega arith, search rules, search rules, sym (zeroed_none _ _))

pub loop-i-preserved : goal.loop-i-preserved
loop-i-preserved c =
    let z : 0 + c.loop-i.i ≡ c.loop-i.i = omega arith in
    let args = c.args in
    let loop = c.loop-i in
    (omega arith, search rules, search rules, rw (c.set_word.ensures, loop.invariant.3) (rw z at (zeroed_more args.mem.now 0 loop.i)))

pub returns : goal.returns
unfolding cleared_of
returns c = let full : c.loop-i.i ≡ c.args.frames * 512 = omega arith in rw (c.loop-i.invariant.3, full)
