-- Invariant: i words from the frame's first place on are set to 0, the rest as lent; a round sets one more, and 512 are all.
use mathlib.Core.Path.{◌≡◌, sym}
use native.Mathlib.Omega.{arith}
use Rattle.words.proofs.Laws.{zeroed_none, zeroed_more}
use borrow.Author.Rules.{rules}
use Rattle.words.proofs.zero_frame.Goals as goal

pub loop-i-init : goal.loop-i-init
loop-i-init c = (search rules, search rules, search rules, sym (zeroed_none _ _))

pub loop-i-preserved : goal.loop-i-preserved
loop-i-preserved c = let loop = c.loop-i in
    (search rules, search rules, search rules, rw (c.set_word.ensures, loop.invariant.3, zeroed_more))

pub returns : goal.returns
returns c = let full : c.loop-i.i ≡ 512 = omega arith in rw (c.loop-i.invariant.3, full, c.loop-i.invariant.1)
