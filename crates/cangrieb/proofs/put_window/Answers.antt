-- With the choice off the tally stays as it is; on, its one word is written.
use mathlib.Core.Path.{ap, ◌∙◌}
use Rattle.record.specs.Words.{head_in, head_words}
use Rattle.cangrieb.proofs.Words.{window_off, window_on}
use Rattle.cangrieb.proofs.put_window.Goals as goal

pub returns-then-tally-eq0 : goal.returns-then-tally-eq0
returns-then-tally-eq0 c =
    c.put_held.ensures ∙ ap head_words (window_off (head_in c.args.head.now) c.args.held c.args.answer (rw c.head_in.ensures at c.if-tally-eq0.true))

pub returns : goal.returns
returns c =
    rw (c.put_charged.ensures, c.put_held.ensures, c.tally_after-after.ensures, c.head_in.ensures) (ap head_words (window_on (head_in c.args.head.now) c.args.held c.args.answer))
