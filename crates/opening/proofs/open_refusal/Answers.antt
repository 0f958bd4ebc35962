-- The words are tested before the areas, in the order of the rule's list; 0 says that no test failed.
use Rattle.spec.specs.Refusal.{open_refusal}
use Rattle.record.specs.Open.{refusal_of}
use Rattle.opening.proofs.open_refusal.Goals as goal

pub returns-then-not-words_fit : goal.returns-then-not-words_fit
unfolding refusal_of open_refusal
returns-then-not-words_fit c =
    let words-fit = c.words_fit in
    let if1 = c.if-not-words_fit in
    rw (← words-fit.ensures, if1.true)

pub returns-then-not-areas_fit : goal.returns-then-not-areas_fit
unfolding refusal_of open_refusal
returns-then-not-areas_fit c =
    let words-fit = c.words_fit in
    let if1 = c.if-not-words_fit in
    let layout = c.layout in
    let areas-fit = c.areas_fit in
    let if2 = c.if-not-areas_fit in
    rw (← words-fit.ensures, if1.false, ← (rw layout.ensures at areas-fit.ensures), if2.true)

pub returns : goal.returns
unfolding refusal_of open_refusal
returns c =
    let words-fit = c.words_fit in
    let if1 = c.if-not-words_fit in
    let layout = c.layout in
    let areas-fit = c.areas_fit in
    let if2 = c.if-not-areas_fit in
    rw (← words-fit.ensures, if1.false, ← (rw layout.ensures at areas-fit.ensures), if2.false)
