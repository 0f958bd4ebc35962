-- Five words are written; a list of 20 words is told apart word by word, so the others are seen to stay.
use mathlib.Core.Path.{ap, ◌∙◌}
use Rattle.calls.specs.Calls.{head_held}
use Rattle.record.specs.Words.{head_in, head_words}
use Rattle.cangrieb.proofs.Words.{put_held_lem}
use borrow.Author.Rules.{rules}
use Rattle.cangrieb.proofs.put_held.Goals as goal

pub returns : goal.returns
returns c =
    put_held_lem c.words_in-words.result c.args.held (search rules) ∙ ap (λ ws. head_words (head_held (head_in ws) c.args.held)) c.words_in-words.ensures
