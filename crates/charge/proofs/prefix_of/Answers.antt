-- The loop climbs the links: the prefix of the table that it has come to, with the slots met so far below it, is the whole. What a slot
-- counts for is bounded by the links left.
use mathlib.Core.Path.{◌≡◌, sym, ◌∙◌}
use mathlib.Core.Bool.{true, false}
use Prim.Native.Nat.{◌-◌, ◌*◌, ◌<◌}
use native.Mathlib.Omega.{arith}
use Rattle.spec.specs.Entry.{frame_limit}
use Rattle.layout.specs.Layout.{config}
use lib.Pow.{pow_pos}
use Rattle.pool.specs.Header.{parent_of, inside_of}
use Rattle.pool.proofs.Laws.{parent_small, slot_small}
use Rattle.charge.specs.Charge.{prefix_of}
use Rattle.charge.proofs.Laws.{up_step, up_out, up_none, up_all, place_next, low_next}
use Rattle.charge.proofs.prefix_of.Goals as goal

pub loop-links-init : goal.loop-links-init
loop-links-init c =
    let args = c.args in
    let pre = c.requires in
    let one = pow_pos (9 * (4 - args.above)) in
    (pre.1, pre.0, omega arith, omega arith, up_all (prefix_of (config args.layout) args.mem.now args.above args.frame))

pub overflow_mul-number : goal.overflow_mul-number
overflow_mul-number c =
    let slot = c.slot in
    let loop-test = c.loop-links-test in
    let loop = c.loop-links in
    let args = c.args in
    let small : slot.result < 512 = rw slot.ensures (slot_small args.mem.now loop.t) in
    let fits = place_next loop.links loop.place loop-test.true loop.invariant.1 loop.invariant.2 in
    let next = low_next slot.result loop.place loop.number small loop.invariant.3 in
    omega arith

pub overflow_add-number : goal.overflow_add-number
overflow_add-number c =
    let slot = c.slot in
    let loop-test = c.loop-links-test in
    let loop = c.loop-links in
    let args = c.args in
    let small : slot.result < 512 = rw slot.ensures (slot_small args.mem.now loop.t) in
    let fits = place_next loop.links loop.place loop-test.true loop.invariant.1 loop.invariant.2 in
    let next = low_next slot.result loop.place loop.number small loop.invariant.3 in
    omega arith

pub overflow_mul-place : goal.overflow_mul-place
overflow_mul-place c =
    let loop-test = c.loop-links-test in
    let loop = c.loop-links in
    let fits = place_next loop.links loop.place loop-test.true loop.invariant.1 loop.invariant.2 in
    omega arith

pub loop-links-preserved : goal.loop-links-preserved
loop-links-preserved c =
    let slot = c.slot in
    let loop-test = c.loop-links-test in
    let loop = c.loop-links in
    let args = c.args in
    let small : slot.result < 512 = rw slot.ensures (slot_small args.mem.now loop.t) in
    let fits = place_next loop.links loop.place loop-test.true loop.invariant.1 loop.invariant.2 in
    let next = low_next slot.result loop.place loop.number small loop.invariant.3 in
    let parent = c.parent-p in
    let inside = c.inside in
    let inner : inside_of args.layout.hosts args.layout.shadows (parent_of args.mem.now loop.t) ≡ true = rw (← parent.ensures) (sym inside.ensures ∙ c.if-inside.true) in
    let low : parent.result < frame_limit = rw parent.ensures (omega (arith, parent_small args.mem.now loop.t)) in
    let whole = up_step (config args.layout) args.mem.now loop.links loop.t loop.place loop.number loop-test.true inner in
    (low, omega (arith, loop.invariant.1), fits.1, next, rw (parent.ensures, slot.ensures) (sym whole ∙ loop.invariant.4))

pub returns-else-inside : goal.returns-else-inside
returns-else-inside c =
    let args = c.args in
    let loop = c.loop-links in
    let loop-test = c.loop-links-test in
    let parent = c.parent-p in
    let inside = c.inside in
    let out : inside_of args.layout.hosts args.layout.shadows (parent_of args.mem.now loop.t) ≡ false = rw (← parent.ensures) (sym inside.ensures ∙ c.if-inside.false) in
    sym (up_out (config args.layout) args.mem.now loop.links loop.t loop.place loop.number loop-test.true out) ∙ loop.invariant.4

pub returns : goal.returns
returns c =
    let loop = c.loop-links in
    let z : loop.links ≡ 0 = omega arith in rw (z, up_none) at loop.invariant.4
