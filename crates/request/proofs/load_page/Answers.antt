-- The bytes of the page where the path leads.
use mathlib.Core.Path.{refl}
use mathlib.Core.Bool.{false}
use Rattle.layout.specs.Layout.{config}
use Rattle.translate.proofs.Fits.{held_small}
use Rattle.request.proofs.Held.{path_small, load_page}
use Rattle.request.proofs.load_page.Goals as goal

pub read_bytes-requires : goal.read_bytes-requires
read_bytes-requires c =
    let args = c.args in
    let pre = c.requires in
    (path_small (config args.space.layout) args.space.top args.mem.now args.held args.root.0 false args.address.0 0 pre.0.3 (held_small (config args.space.layout) args.held pre.1 pre.0.3) _ _ pre.3, pre.2)

pub returns : goal.returns
returns c =
    let args = c.args in
    let pre = c.requires in
    rw c.read_bytes.ensures (load_page (config args.space.layout) args.space.top args.mem.now args.held args.root.0 args.address.0 args.width 0 _ _ refl pre.3)
