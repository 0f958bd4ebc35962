-- Nine bits for each index are at most 63, so the shift is the definition's division of the page number.
use Rattle.translate.proofs.path_of.Goals as goal

pub returns : goal.returns
returns c = rw c.page.ensures
