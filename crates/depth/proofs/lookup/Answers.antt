-- The set places less those that the search left are those that it read.
use mathlib.Core.Path.{◌≡◌, ap₂}
use Prim.Native.Nat.{◌-◌}
use native.Mathlib.Omega.{arith}
use Rattle.marks.specs.Table.{lookup_among}
use Rattle.depth.proofs.lookup.Goals as goal

pub returns : goal.returns
returns c = let args = c.args in
    let found = c.search-s in
    let whole = lookup_among args.levels args.place.now args.set args.address.0 in
    let read : c.count.result - c.count-2.result ≡ whole.read = omega (arith, found.ensures.1, c.count.ensures, c.count-2.ensures) in
    ap₂ (λ d n. record { depth = d; read = n }) found.ensures.0 read
