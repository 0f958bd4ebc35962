-- Both halves, moved up, are the numbers without a bit above offset and indexes (Halves).
use Rattle.std.proofs.Common.{◌≡◌, ◌+◌, ◌*◌, ◌%◌, ◌^◌, ◌∙◌, one-mul, arith, lit<, shl_exact}
use Rattle.entry.proofs.Halves.{fits_moved}
use Rattle.entry.proofs.GuestVirtual.fits.Goals as goal

pub returns : goal.returns
returns c =
    let levels = c.args.levels in
    let half : 1 * 2 ^ (11 + 9 * levels) % 2 ^ 64 ≡ 2 ^ (11 + 9 * levels) = shl_exact 1 (11 + 9 * levels) 64 (lit< tt) (omega arith) ∙ one-mul _ in
    rw (c.wrapping_add_u64-moved.ensures.value, half) (fits_moved levels c.args.self.0 (omega arith) (omega arith))
