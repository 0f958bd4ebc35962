-- Only a place past the end needs a law: a store there leaves the list as it is.
use mathlib.Core.Path.{sym}
use lib.Seq.{set_out}
use Rattle.words.proofs.set_word.Goals as goal

pub returns-else-place-mem : goal.returns-else-place-mem
returns-else-place-mem c = sym (set_out c.args.mem.now _ _ c.if-place-mem.false)
