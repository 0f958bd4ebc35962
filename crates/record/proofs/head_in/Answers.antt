use Rattle.record.proofs.head_in.Goals as goal

pub returns : goal.returns
returns c =
    let pools-in = c.pools_in in
    let layout-in = c.layout_in in
    rw (layout-in.ensures, pools-in.ensures, c.tally_in.ensures, c.set_in.ensures)
