-- Each way by its test.
use Rattle.accessed.proofs.ends.Goals as goal

pub returns-then-store : goal.returns-then-store
returns-then-store c = rw c.if-store.true
