-- What is put, with the records that are left, is the load; each of them needs at most 21 bytes.
use Rattle.std.proofs.Common.{length, take, ◌++◌, ◌≡◌, ◌≤◌, ◌<◌, ◌+◌, ◌-◌, ◌*◌}
use Rattle.load_spec.specs.Load.{states, calls_from, bytes_all, load_of}
use Rattle.load_records.proofs.put_load.Given as goal

abbrev pub invariant-loop-record : goal.invariant-loop-record
invariant-loop-record l = record {
  long : length l.out ≡ length l.initial.out;
  drawn : l.state < states;
  room : l.at + 21 * (l.count - l._record) ≤ length l.out;
  rest : take l.at l.out ++ bytes_all (calls_from (l.count - l._record) l.state) ≡ load_of l.seed l.count;
}
