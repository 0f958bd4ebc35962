-- Each round of the loop is one turn more of the run.
use Rattle.std.proofs.Common.{◌≡◌, true}
use Rattle.job_stream.proofs.Steps.{going_start, going_next}
use Rattle.job_stream.proofs.run_turns.Goals as goal
use Rattle.job_stream.proofs.run_turns.Goals.{then-f, else-f}

pub loop-turn-init : goal.loop-turn-init
loop-turn-init g c = going_start c.args.mem.now c.args.buf.now

pub loop-turn-preserved : goal.loop-turn-preserved
loop-turn-preserved g c =
    let l = c.loop-turn in
    let t = c.turn-f in
    let more : l.f.more ≡ true = elim c.if-f.branch [ then-f w ↦ w.if-f.true | else-f w ↦ cc ] in
    going_next c.args.mem.now c.args.buf.now l.f l.mem l.buf l._turn t.result t.new.mem t.new.buf l.invariant more t.ensures
