-- The lines of document 01's "A sixteen-frame guest" and its job example hold, as the checker computes them.
use Rattle.std.specs.Prelude.{◌&&◌, T}
use Rattle.spec.specs.Quiet.{met, only_granted, none_watched, touched, all_fit, quiet, new_paths, quiet_exits}
use Rattle.spec.specs.Computing.{specifying}
use Rattle.spec.specs.Guest.{config, memory, start, answers, arrives, guest_lines, job_lines, more_lines, root_lines, depth_lines, unmapped_lines, exit_lines, fill_lines, room_lines, legal_lines, kernel_lines, forecast_lines, most_lines, load_lines, byte_lines, entry_lines, width_lines, costs, quiet_lines, loud_lines, finds, search_lines, open_lines, config5, five_lines, quiet_five_lines}

-- a proof beside one that is had already. Each proof below is given the one before it, in the other files of lines too: where that one is refused
-- this one is not computed, so that a wrong specification is refused at the first lines that fail
abbrev pub given : {A B : Type 0} → A → B → B
given a b = b

-- all of them, computed
pub lines_hold : T (guest_lines start && job_lines && more_lines start && open_lines && five_lines)
unfolding specifying config config5 memory start answers arrives guest_lines job_lines more_lines open_lines five_lines
lines_hold = tt

-- and those of the rules left open
pub rules_hold : T (root_lines start && depth_lines start && unmapped_lines start && exit_lines start && fill_lines start && room_lines start)
unfolding specifying config memory start answers root_lines depth_lines unmapped_lines exit_lines fill_lines room_lines
rules_hold = given lines_hold tt

-- and those of both halves
pub halves_hold : T (legal_lines start && kernel_lines start)
unfolding specifying config memory start answers legal_lines kernel_lines
halves_hold = given rules_hold tt

-- and those of forecasts
pub forecasts_hold : T (forecast_lines start && most_lines start)
unfolding specifying config memory start answers forecast_lines most_lines
forecasts_hold = given halves_hold tt

-- and those of widths
pub widths_hold : T (load_lines start && byte_lines start && entry_lines start && width_lines start)
unfolding specifying config memory start answers arrives load_lines byte_lines entry_lines width_lines
widths_hold = given forecasts_hold tt

-- and those of quiet stretches
pub stretches_hold : T (quiet_lines start && quiet_five_lines)
unfolding specifying config config5 memory start met only_granted none_watched touched all_fit quiet new_paths quiet_exits costs quiet_lines quiet_five_lines
stretches_hold = given widths_hold tt

-- and of those that one condition keeps out
pub conditions_hold : T (loud_lines start)
unfolding specifying config memory start met only_granted none_watched touched all_fit new_paths quiet_exits loud_lines
conditions_hold = given stretches_hold tt

-- and those of the search among the marks
pub searches_hold : T search_lines
unfolding finds search_lines
searches_hold = given conditions_hold tt
