-- One behind the other.
use Rattle.std.proofs.Common.{ℕ, List, ◌++◌, ap, ◌∙◌, append_assoc}
use Rattle.job_records.specs.Encoded.{bytes_of}
use Rattle.load_records.proofs.put_longs.Goals as goal

pub returns : goal.returns
returns c =
    let a = c.args in
    c.put_long-2.ensures ∙ ap (λ (x : List ℕ). x ++ bytes_of 8 a.n) c.put_long.ensures ∙ append_assoc a.out.now.items (bytes_of 8 a.m) (bytes_of 8 a.n)
