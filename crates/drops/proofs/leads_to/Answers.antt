-- From a guest table by the word at the index; from a span at level 1 to the frame at the index, where the difference cannot run below zero.
use mathlib.Core.Path.{sym, ap, ◌∙◌}
use Prim.Native.Nat.{◌+◌, ◌-◌}
use native.Mathlib.Omega.{arith}
use lib.Dec.{eqb}
use borrow.Author.Tests.{ne_eqb}
use Rattle.spec.specs.Entry.{frame_of, large}
use Rattle.layout.specs.Layout.{config}
use Rattle.drops.proofs.Laws.{lead_large, lead_named, lead_part, lead_page, sum_test}
use Rattle.drops.proofs.leads_to.Goals as goal

pub word_in-e-requires : goal.word_in-e-requires
word_in-e-requires c =
    let pre = c.requires in
    (omega (arith, c.if-place-layout.true, pre.0.3), pre.2)

pub returns-then-large : goal.returns-then-large
returns-then-large c =
    let args = c.args in
    let guest = c.guest-place in
    let level = c.level-level in
    let if1 = c.if-place-layout in
    let word_in_call = c.word_in-e in
    let is-large = c.large in
    let if2 = c.if-large in
    rw (← level.ensures, ← guest.ensures)
    (sym (lead_large (config args.layout) args.mem.now args.guest level.result guest.result args.at if1.true (ap (large level.result) (sym word_in_call.ensures) ∙ sym is-large.ensures ∙ if2.true)))

pub returns-then-place-layout : goal.returns-then-place-layout
returns-then-place-layout c =
    let args = c.args in
    let guest = c.guest-place in
    let level = c.level-level in
    let if1 = c.if-place-layout in
    let word_in_call = c.word_in-e in
    let is-large = c.large in
    let if2 = c.if-large in
    let frame-of = c.frame_of in
    rw (← level.ensures, ← guest.ensures)
    (ap (λ f. eqb args.guest f) (frame-of.ensures ∙ ap frame_of word_in_call.ensures)
    ∙ sym (lead_named (config args.layout) args.mem.now args.guest level.result guest.result args.at if1.true (ap (large level.result) (sym word_in_call.ensures) ∙ sym is-large.ensures ∙ if2.false)))

pub returns-then-at-guest : goal.returns-then-at-guest
returns-then-at-guest c =
    let args = c.args in
    let guest = c.guest-place in
    let level = c.level-level in
    let if1 = c.if-place-layout in
    let if3 = c.if-level-eq1 in
    let if4 = c.if-at-guest in
    rw (← level.ensures, ← guest.ensures)
    (sym (lead_page (config args.layout) args.mem.now args.guest level.result guest.result args.at if1.false if3.true
    ∙ sum_test args.guest (guest.result - args.layout.frames) args.at if4.true))

pub returns-else-at-guest : goal.returns-else-at-guest
returns-else-at-guest c =
    let args = c.args in
    let guest = c.guest-place in
    let level = c.level-level in
    let if1 = c.if-place-layout in
    let if3 = c.if-level-eq1 in
    let if4 = c.if-at-guest in
    rw (← level.ensures, ← guest.ensures)
    (sym (lead_page (config args.layout) args.mem.now args.guest level.result guest.result args.at if1.false if3.true
    ∙ ne_eqb args.guest (guest.result - args.layout.frames + args.at) (λ e. omega (arith, e, if4.false))))

pub returns-else-level-eq1 : goal.returns-else-level-eq1
returns-else-level-eq1 c =
    let args = c.args in
    let guest = c.guest-place in
    let level = c.level-level in
    let if1 = c.if-place-layout in
    let if3 = c.if-level-eq1 in
    rw (← level.ensures, ← guest.ensures)
    (sym (lead_part (config args.layout) args.mem.now args.guest level.result guest.result args.at if1.false if3.false))
