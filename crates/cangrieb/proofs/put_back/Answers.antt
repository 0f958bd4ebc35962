-- Head and answer in numbers, each by its promise; the arrays are copied.
use Rattle.cangrieb.proofs.put_back.Goals as goal

pub returns : goal.returns
returns c = rw (c.head_words.ensures, c.head.ensures, c.answer_of.ensures)
