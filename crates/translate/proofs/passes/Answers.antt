-- At depth 0 of a load the entry where the walk ends is read.
use mathlib.Core.Path.{◌≡◌}
use borrow.Author.Tests.{eq-eqb}
use Prim.Native.Nat.{◌-◌}
use native.Mathlib.Omega.{arith}
use Rattle.layout.specs.Layout.{config}
use Rattle.accessed.proofs.Walks.{seen_frames, seen_sum}
use Rattle.translate.specs.Translate.{path_of, passes_of}
use Rattle.translate.proofs.passes.Goals as goal

pub last_dirty-requires : goal.last_dirty-requires
last_dirty-requires c =
    let args = c.args in
    let pre = c.requires in
    let read_by_lem = c.read_by-read in
    let path-of = c.path_of in
    let sum = seen_sum (config args.layout) args.guests.now (args.layout.levels - args.request.depth) (path_of args.request.depth args.request.address.0) in
    rw (read_by_lem.ensures, path-of.ensures) (omega (arith, sum, pre.0.0), seen_frames (config args.layout) args.guests.now (args.layout.levels - args.request.depth) (path_of args.request.depth args.request.address.0) pre.0.3)

pub returns : goal.returns
unfolding passes_of
returns c =
    let last-dirty = c.last_dirty in
    let read_by_lem = c.read_by-read in
    let path-of = c.path_of in
    let at_page : c.args.request.depth ≡ 0 = omega arith in
    rw (c.if-not-writable.false, eq-eqb _ _ at_page, c.if-request.false) (rw (read_by_lem.ensures, path-of.ensures) at last-dirty.ensures)
