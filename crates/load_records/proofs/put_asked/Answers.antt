-- The tests of the definition, in its order; what is left is the load of the two numbers.
use Rattle.std.proofs.Common.{sym, ap₂, ◌∙◌, arith}
use Rattle.load_spec.specs.Load.{load_of}
use Rattle.load_records.specs.Laws.{load_seed, load_count, load_cut, load_whole_lem}
use Rattle.load_records.proofs.put_asked.Goals as goal

pub returns-then-input-lt16 : goal.returns-then-input-lt16
returns-then-input-lt16 c = (omega arith, sym (load_cut c.args.input.now (omega arith)))

pub returns-then-seed-ge-STATES : goal.returns-then-seed-ge-STATES
returns-then-seed-ge-STATES c =
    let m = c.number8-seed in
    (omega arith, sym (load_whole_lem c.args.input.now (omega arith) ∙ load_seed _ _ (omega (arith, m.ensures))))

pub returns-then-count-gt-MOST : goal.returns-then-count-gt-MOST
returns-then-count-gt-MOST c =
    let m = c.number8-seed in
    let n = c.number8-count in
    (omega arith, sym (load_whole_lem c.args.input.now (omega arith) ∙ load_count _ _ (omega (arith, m.ensures)) (omega (arith, n.ensures))))

pub returns : goal.returns
returns c =
    let m = c.number8-seed in
    let n = c.number8-count in
    (omega (arith, c.put_load.ensures.0), c.put_load.ensures.1 ∙ ap₂ load_of m.ensures n.ensures ∙ sym (load_whole_lem c.args.input.now (omega arith)))
