-- A read's bytes stand behind those that came before.
use Rattle.std.proofs.Common.{rules}
use Rattle.load.proofs.Came.{read_on}
use Rattle.load.proofs.read_full.Goals as goal

pub loop-done-preserved : goal.loop-done-preserved
loop-done-preserved g c = record {
  within = search rules;
  long = search rules;
  came = read_on _ _ _ c.loop-done.buf c.read.new.buf _ _ _ c.loop-done.invariant.within c.in_ok-n.ensures.bound.0 c.loop-done.invariant.came c.in_ok-n.ensures.bytes.0;
}
