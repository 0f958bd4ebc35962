-- Damage met by the marks, or the bits and then the bytes.
use Rattle.calls.proofs.store_settled.Goals as goal

pub settle_own-requires : goal.settle_own-requires
settle_own-requires c =
    let pre = c.requires in
    rw c.space_in.ensures pre.0
