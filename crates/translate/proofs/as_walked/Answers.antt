-- The exits are those of the end.
use Rattle.translate.proofs.as_walked.Goals as goal

pub returns : goal.returns
returns c =
    let exit-of = c.exit_of in
    rw exit-of.ensures
