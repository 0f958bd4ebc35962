-- One word is written; a list of 20 words is told apart word by word, so the others are seen to stay.
use mathlib.Core.Path.{ap, ◌∙◌}
use Rattle.record.specs.Words.{head_in, head_words}
use Rattle.cangrieb.specs.Flat.{head_charged}
use Rattle.cangrieb.proofs.Words.{put_charged}
use borrow.Author.Rules.{rules}
use Rattle.cangrieb.proofs.put_charged.Goals as goal

pub returns : goal.returns
returns c =
    put_charged c.words_in-words.result c.args.charged (search rules) ∙ ap (λ ws. head_words (head_charged (head_in ws) c.args.charged)) c.words_in-words.ensures
