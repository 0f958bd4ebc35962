-- Only a place past the end needs a law: the list's default there is 0.
use mathlib.Core.Path.{sym}
use lib.ListN.{get_or-eq_default}
use Rattle.words.proofs.word_at.Goals as goal

pub returns-else-place-mem : goal.returns-else-place-mem
returns-else-place-mem c = sym (get_or-eq_default c.args.mem.now 0 c.if-place-mem.false)
