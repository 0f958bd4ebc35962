-- The cut of the bytes that are there decides.
use Rattle.std.proofs.Common.{◌≡◌, sym, ◌∙◌}
use Rattle.job_stream.specs.Turns.{cut_of}
use Rattle.job_stream.proofs.Steps.{turn_runs, turn_short}
use Rattle.job_stream.proofs.turn.Goals as goal

pub returns-in-Short : goal.returns-in-Short
returns-in-Short g c =
    let a = c.args in
    let read = c.refill in
    let cut : c.cut_at.result ≡ cut_of a.f a.buf.now = rw c.part.ensures at c.cut_at.ensures in
    turn_short a.f read.result a.mem.now read.new.mem a.buf.now read.new.buf (sym cut ∙ c.in-Short.is) read.ensures.0 read.ensures.1

pub returns-in_default : goal.returns-in_default
returns-in_default g c =
    let a = c.args in
    let cut : c.cut_at.result ≡ cut_of a.f a.buf.now = rw c.part.ensures at c.cut_at.ensures in
    turn_runs a.f c.run_record.result a.mem.now c.run_record.new.mem a.buf.now (λ e. c.in_default.not-Short (cut ∙ e)) c.run_record.ensures
