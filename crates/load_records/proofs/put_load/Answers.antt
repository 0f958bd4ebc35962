-- What is put, with the records that are left, is the load; each of them needs at most 21 bytes.
use Rattle.std.proofs.Common.{ℕ, ◌≡◌, ◌<◌, ◌-◌, List, ◌++◌, length, take, refl, sym, ap, ap₂, subst, ◌∙◌, arith, append-nil, append_assoc, rules}
use Rattle.load_spec.specs.declared.Drawn.{Drawn}
use Rattle.load_spec.specs.Load.{states, calls_from, bytes_all}
use Rattle.load_records.specs.Laws.{drawn_below, load_is, calls_none, calls_more}
use Rattle.load_records.proofs.put_load.Goals as goal

pub loop-record-init : goal.loop-record-init
loop-record-init c =
    let a = c.args in
    let p = c.put_record-at in
    let l : length p.new.out ≡ length a.out.now = search rules in
    let n : length c.open_record.result.items ≡ 8 = ap length c.open_record.ensures in
    let z : a.count - 0 ≡ a.count = omega arith in
    record {
      long = refl;
      drawn = omega arith;
      room = omega (arith, p.ensures.0, l, n);
      rest = ap₂ (λ (x y : List ℕ). x ++ y) (p.ensures.2 ∙ c.open_record.ensures) (ap (λ (k : ℕ). bytes_all (calls_from k a.seed)) z) ∙ sym (load_is a.seed a.count (omega arith) (omega arith));
    }

pub loop-record-preserved : goal.loop-record-preserved
loop-record-preserved c =
    let l = c.loop-record in
    let d = c.drawn_by-call in
    let p = c.put_record-at-in-loop-record in
    let n : length p.new.out ≡ length l.out = search rules in
    let more = calls_more c.args.count l._record l.state d.result (omega (arith, c.loop-record-test.true)) d.ensures in
    record {
      long = n ∙ l.invariant.long;
      drawn = subst (λ (x : Drawn). x.state < states) (sym d.ensures) (drawn_below l.state);
      room = omega (arith, p.ensures.1, n, l.invariant.room);
      rest = rw (p.ensures.2, c.record_of.ensures, append_assoc) (ap (λ (x : List ℕ). take l.at l.out ++ x) (sym more) ∙ l.invariant.rest);
    }

pub returns : goal.returns
returns c =
    let l = c.loop-record in
    (omega (arith, l.invariant.room), sym (append-nil (take l.at l.out)) ∙ ap (λ (x : List ℕ). take l.at l.out ++ x) (sym (calls_none (c.args.count - l._record) l.state (omega arith))) ∙ l.invariant.rest)
