-- Both entries are the definition's, by the flag; a frame below 65,536 leaves room for the low bits.
use Rattle.area_laws.specs.Host.{host_entry}
use Rattle.host.proofs.leaf_word.Goals as goal

pub returns-then-writable : goal.returns-then-writable
unfolding host_entry
returns-then-writable c = rw c.if-writable.true

pub returns-else-writable : goal.returns-else-writable
unfolding host_entry
returns-else-writable c = rw c.if-writable.false
