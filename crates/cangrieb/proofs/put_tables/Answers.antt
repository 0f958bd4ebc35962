-- Nine words are written, and the others are seen to stay.
use mathlib.Core.Path.{ap, ◌∙◌}
use Rattle.record.specs.Words.{head_in, head_words}
use Rattle.calls.specs.Calls.{head_remapped}
use Rattle.cangrieb.proofs.Words.{put_tables}
use borrow.Author.Rules.{rules}
use Rattle.cangrieb.proofs.put_tables.Goals as goal

pub returns : goal.returns
returns c =
    put_tables c.words_in-words.result c.args.x (search rules) ∙ ap (λ ws. head_words (head_remapped (head_in ws) c.args.x)) c.words_in-words.ensures
