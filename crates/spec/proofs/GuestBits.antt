-- The lines with accessed and dirty bits hold, as the checker computes them.
use Rattle.std.specs.Prelude.{◌&&◌, T}
use Rattle.spec.specs.Computing.{specifying}
use Rattle.spec.specs.Guest.{answers}
use Rattle.spec.specs.GuestBits.{config, memory, start, set_lines, refill_lines, owed_lines}
use Rattle.spec.proofs.Guest.{given, searches_hold}

pub bits_hold : T (set_lines start && refill_lines start && owed_lines start)
unfolding specifying config memory start answers set_lines refill_lines owed_lines
bits_hold = given searches_hold tt
