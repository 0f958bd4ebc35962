-- Not watched, or by what the drops left.
use mathlib.Core.Path.{sym, ◌∙◌}
use native.Mathlib.Omega.{arith}
use Rattle.spec.specs.Entry.{word_of}
use Rattle.layout.specs.Layout.{config}
use Rattle.request.specs.Access.{dropped_of}
use Rattle.request.proofs.Leaves.{drop_leaves, written_plainly}
use Rattle.request.proofs.written.Goals as goal

pub returns-then-not-watched : goal.returns-then-not-watched
unfolding dropped_of
returns-then-not-watched c =
    let put-bytes = c.put_bytes in
    let if1 = c.if-not-watched in
    let watched = c.watched in
    let args = c.args in
    rw (← watched.ensures, if1.true, put-bytes.ensures) (written_plainly args.held args.held args.references args.exits args.page.0 args.address args.width args.value args.mem.now)

pub drop_watched-put-requires : goal.drop_watched-put-requires
drop_watched-put-requires c =
    let if1 = c.if-not-watched in
    let watched = c.watched in
    let pre = c.requires in
    (pre.0, pre.1, pre.2, sym watched.ensures ∙ if1.false)

pub finish-requires : goal.finish-requires
finish-requires c =
    let drop-watched = c.drop_watched-put in
    let args = c.args in
    let pre = c.requires in
    let left = rw (← drop-watched.ensures) at (drop_leaves (config args.layout) args.mem.now args.held.pool args.page.0 (word_of args.address) pre.1) in
    (pre.2, pre.3, pre.4, omega (arith, left.exits))
