-- The lines with the automatic choice hold, as the checker computes them.
use Rattle.std.specs.Prelude.{ℕ, true, false, T}
use Rattle.spec.specs.Computing.{specifying}
use Rattle.spec.specs.Guest.{answers}
use Rattle.spec.specs.GuestChoice.{config, mapped, turned, start, guest, times, low, high, charges, thrice_lines, afterwards, charge_lines, window_lines, lowest_lines, thrice, charging, charging_lines, room_lines, three, again, pressing, leaving_lines, rule_lines, deep_lines}
use Rattle.spec.proofs.Guest.{given}
use Rattle.spec.proofs.GuestBits.{bits_hold}

-- what has to be opened to compute the lines
choosing : ℕ
unfolding specifying answers config mapped turned start guest times low high charges thrice_lines afterwards charge_lines window_lines lowest_lines thrice charging charging_lines room_lines three again pressing leaving_lines rule_lines deep_lines
choosing = 0

pub charges_hold : T (charge_lines (start true (config 4 4 64) guest) (start false (config 4 4 64) guest))
unfolding choosing
charges_hold = given bits_hold tt

pub window_holds : T (window_lines (start true (config 4 4 64) guest))
unfolding choosing
window_holds = given charges_hold tt

pub lowest_holds : T lowest_lines
unfolding choosing
lowest_holds = given window_holds tt

pub room_holds : T room_lines
unfolding choosing
room_holds = given lowest_holds tt

pub leaving_holds : T leaving_lines
unfolding choosing
leaving_holds = given room_holds tt

pub rules_hold : T rule_lines
unfolding choosing
rules_hold = given leaving_holds tt

pub deep_holds : T deep_lines
unfolding choosing
deep_holds = given rules_hold tt
