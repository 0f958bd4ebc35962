-- By the depth, then by what the shadow tables hold; a frame found there lies in the guest area or stands in the record.
use Prim.Native.Nat.{◌<◌}
use native.Mathlib.Omega.{arith}
use mathlib.Core.Bool.{false}
use borrow.Author.Tests.{lt-ltb, le-ltb}
use Rattle.spec.specs.Entry.{frame_limit}
use Rattle.layout.specs.Layout.{config}
use Rattle.forecast.specs.Forecast.{load_of}
use Rattle.forecast.proofs.Fits.{served_most, served_exits, plain_most, plain_exits, kept_is}
use Rattle.forecast.proofs.one_load.Goals as goal

pub pay-requires : goal.pay-requires
pay-requires c =
    let pre = c.requires in
    let args = c.args in
    let k = config args.space.layout in (
      (omega (arith, pre.2.0), omega (arith, pre.2.0)),
      rw c.plain-t.ensures (plain_exits k args.space.top args.mem.now pre.0.0 args.held false args.root.0 args.address.0),
      rw c.plain-t.ensures (plain_most k args.space.top args.mem.now pre.0.0 args.held false args.root.0 args.address.0),
    )

pub returns-then-space-depth : goal.returns-then-space-depth
unfolding load_of
returns-then-space-depth c =
    let if1 = c.if-space-depth in
    let plain = c.plain-t in
    rw (lt-ltb _ _ if1.true, c.pay.ensures, plain.ensures)

pub serve-t-requires : goal.serve-t-requires
serve-t-requires c =
    let pre = c.requires in
    let if1 = c.if-space-depth in
    let kept_at = c.kept_at in
    let args = c.args in
    let k = config args.space.layout in
    let at = rw (← kept_at.ensures, c.in-Found.is) at (kept_is k (λ f. f < frame_limit) (λ f g. omega (arith, g.1, pre.0)) args.mem.now args.held args.before.paths.kept args.address.0 args.depth (λ z. pre.1)) in
    (pre.0, if1.false, at, omega arith)

pub pay-requires-in-Found : goal.pay-requires-in-Found
pay-requires-in-Found c =
    let pre = c.requires in
    let if1 = c.if-space-depth in
    let args = c.args in
    let k = config args.space.layout in (
      (omega (arith, pre.2.0), omega (arith, pre.2.0)),
      rw c.serve-t.ensures (served_exits k args.space.top args.mem.now pre.0.0 args.held false args.address.0 args.depth _ _ 0 (omega arith)),
      rw c.serve-t.ensures (served_most k args.space.top args.mem.now pre.0.0 args.held false args.address.0 args.depth _ _ 0 if1.false),
    )

pub returns-in-Found : goal.returns-in-Found
unfolding load_of
returns-in-Found c =
    let if1 = c.if-space-depth in
    let kept_at = c.kept_at in
    let serve = c.serve-t in
    rw (le-ltb _ _ if1.false, ← kept_at.ensures, c.in-Found.is, c.pay-in-Found.ensures, serve.ensures)

pub returns-in-Absent : goal.returns-in-Absent
unfolding load_of
returns-in-Absent c =
    let if1 = c.if-space-depth in
    let kept_at = c.kept_at in
    rw (le-ltb _ _ if1.false, ← kept_at.ensures, c.in-Absent.is) c.missed.ensures

pub returns-in-Damaged : goal.returns-in-Damaged
unfolding load_of
returns-in-Damaged c =
    let if1 = c.if-space-depth in
    let kept_at = c.kept_at in
    rw (le-ltb _ _ if1.false, ← kept_at.ensures, c.in-Damaged.is)
