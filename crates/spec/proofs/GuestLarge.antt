-- The lines of a guest that has large pages hold, as the checker computes them.
use Rattle.std.specs.Prelude.{true, false, T}
use Rattle.spec.specs.Quiet.{met, only_granted, none_watched, touched, all_fit, quiet, new_paths, quiet_exits}
use Rattle.spec.specs.Computing.{specifying}
use Rattle.spec.specs.Guest.{answers, costs}
use Rattle.spec.specs.GuestLarge.{config, memory, start, walk_lines, depth_lines, malformed_lines, fault_lines, drop_lines, stretch_lines, bit_lines, choice_lines, five_lines}
use Rattle.spec.proofs.Guest.{given}
use Rattle.spec.proofs.GuestChoice.{deep_holds}

pub large_walks_hold : T (walk_lines (start false false))
unfolding specifying config memory start answers walk_lines
large_walks_hold = given deep_holds tt

pub large_depths_hold : T (depth_lines (start false false))
unfolding specifying config memory start answers depth_lines
large_depths_hold = given large_walks_hold tt

pub large_malformed_hold : T (malformed_lines (start false false))
unfolding specifying config memory start answers malformed_lines
large_malformed_hold = given large_depths_hold tt

pub large_faults_hold : T (fault_lines (start false false))
unfolding specifying config memory start answers fault_lines
large_faults_hold = given large_malformed_hold tt

pub large_drops_hold : T (drop_lines (start false false))
unfolding specifying config memory start answers drop_lines
large_drops_hold = given large_faults_hold tt

pub large_stretches_hold : T (stretch_lines (start false false))
unfolding specifying config memory start met only_granted none_watched touched all_fit quiet new_paths quiet_exits costs stretch_lines
large_stretches_hold = given large_drops_hold tt

pub large_bits_hold : T (bit_lines (start true false))
unfolding specifying config memory start answers bit_lines
large_bits_hold = given large_stretches_hold tt

pub large_choice_holds : T (choice_lines (start false true))
unfolding specifying config memory start answers choice_lines
large_choice_holds = given large_bits_hold tt

pub large_five_levels_hold : T five_lines
unfolding specifying answers five_lines
large_five_levels_hold = given large_choice_holds tt
