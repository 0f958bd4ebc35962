-- Of the whole walk's trail only its end is used.
use Rattle.walk.specs.Memory.{root_trail}
use Rattle.translate.specs.Translate.{plain_of}
use Rattle.translate.proofs.plain.Goals as goal

pub returns : goal.returns
unfolding plain_of root_trail
returns c =
    let as_walked = c.as_walked in
    let whole = c.whole-trail in
    rw (as_walked.ensures, whole.ensures)
