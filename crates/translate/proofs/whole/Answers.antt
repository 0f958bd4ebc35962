-- By the walk's promise.
use Rattle.translate.proofs.whole.Goals as goal

pub returns : goal.returns
returns c =
    let walk-root = c.walk_root in
    let page = c.page in
    rw (← page.ensures) walk-root.ensures
