-- The paths dropped, or damage met.
use Rattle.request.specs.Access.{dropped_of}
use Rattle.request.proofs.drop_watched.Goals as goal

pub returns-then-left : goal.returns-then-left
unfolding dropped_of
returns-then-left c =
    let if1 = c.if-left in
    let drop_word_lem = c.drop_word-left in
    let word_of_call = c.word_of in
    let pre = c.requires in
    rw (pre.3, ← word_of_call.ensures.0, ← drop_word_lem.ensures, if1.true)

pub returns : goal.returns
unfolding dropped_of
returns c =
    let if1 = c.if-left in
    let drop_word_lem = c.drop_word-left in
    let word_of_call = c.word_of in
    let pre = c.requires in
    rw (pre.3, ← word_of_call.ensures.0, ← drop_word_lem.ensures, if1.false)
