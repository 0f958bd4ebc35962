-- The loop is a run of turns, counted.
use Rattle.job_stream.proofs.Steps.{Going}
use Rattle.job_stream.proofs.run_turns.Given as goal

abbrev pub invariant-loop-turn : goal.invariant-loop-turn
invariant-loop-turn g l = Going l.initial.mem l.initial.buf l.f l.mem l.buf l._turn
