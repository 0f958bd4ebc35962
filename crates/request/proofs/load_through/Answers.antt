-- The direct part lacks no bit, and the load is said; or it is judged by its bits.
use mathlib.Core.Path.{sym, ap, ◌∙◌, subst}
use mathlib.Core.Bool.{true, false}
use Rattle.words.specs.After.{yields}
use Rattle.layout.specs.Layout.{config}
use Rattle.translate.specs.declared.Translated.{Translated}
use native.Mathlib.Omega.{arith}
use Rattle.translate.specs.Translate.{translation, exit_by, judged_by}
use Rattle.translate.proofs.Fits.{held_small}
use Rattle.translate.proofs.Bits.{bitless_none, trail_came, trail_lacking}
use Rattle.request.specs.Access.{ReachesFrame, load_from, load_of}
use Rattle.request.proofs.Held.{path_plainly, path_judged, path_small, reaches_as, load_plainly}
use Rattle.request.proofs.load_through.Goals as goal

pub direct-walked-requires : goal.direct-walked-requires
direct-walked-requires c =
    let args = c.args in
    let pre = c.requires in
    let inside = path_small (config args.space.layout) args.space.top args.mem.now args.held args.root.0 false args.address.0 args.depth pre.0.3 (held_small (config args.space.layout) args.held pre.1 pre.0.3) _ _ pre.4 in
    (pre.0, pre.3, inside)

pub loaded-requires : goal.loaded-requires
loaded-requires c =
    let if1 = c.if-bitless in
    let bitless = c.bitless in
    let args = c.args in
    let pre = c.requires in
    let none = bitless_none (config args.space.layout) args.space.top args.mem.now false args.address.0 args.depth args.page.0 args.writable (sym bitless.ensures ∙ if1.true) in
    let went = path_plainly (config args.space.layout) args.space.top args.mem.now args.held args.root.0 false args.address.0 args.depth _ _ none pre.3 pre.4 in
    (subst ReachesFrame (sym c.direct-walked.ensures) (reaches_as (config args.space.layout) args.space.top args.mem.now args.held args.root.0 false args.address.0 args.depth pre.1 pre.0.0 _ pre.0.3 went), pre.2)

pub returns-then-bitless : goal.returns-then-bitless
unfolding load_of
returns-then-bitless c =
    let exit-of = c.exit_of-exits in
    let direct = c.direct-walked in
    let if1 = c.if-bitless in
    let bitless = c.bitless in
    let args = c.args in
    let pre = c.requires in
    let none = bitless_none (config args.space.layout) args.space.top args.mem.now false args.address.0 args.depth args.page.0 args.writable (sym bitless.ensures ∙ if1.true) in
    let went = path_plainly (config args.space.layout) args.space.top args.mem.now args.held args.root.0 false args.address.0 args.depth _ _ none pre.3 pre.4 in
    let end = direct.result in
    c.loaded.ensures ∙ load_plainly (config args.space.layout) args.space.top args.root.0 args.held args.held args.address.0 args.width exit-of.result end args.mem.now
    ∙ ap (λ e. load_from (config args.space.layout) args.space.top args.root.0 args.held args.address.0 args.width (yields (translation args.held e end false) args.mem.now)) exit-of.ensures
    ∙ ap (λ r. load_from (config args.space.layout) args.space.top args.root.0 args.held args.address.0 args.width (yields (translation args.held (exit_by r) r false) args.mem.now)) direct.ensures ∙ sym (ap (load_from (config args.space.layout) args.space.top args.root.0 args.held args.address.0 args.width) went)

pub direct_trail-trail-requires : goal.direct_trail-trail-requires
direct_trail-trail-requires c =
    let args = c.args in
    let pre = c.requires in
    let inside = path_small (config args.space.layout) args.space.top args.mem.now args.held args.root.0 false args.address.0 args.depth pre.0.3 (held_small (config args.space.layout) args.held pre.1 pre.0.3) _ _ pre.4 in
    (pre.0, pre.3, inside)

pub lacking-requires : goal.lacking-requires
lacking-requires c =
    let pre = c.requires in
    (pre.0, omega (arith, pre.0.0, pre.3))

pub loaded-requires-then-not-lacking : goal.loaded-requires-then-not-lacking
loaded-requires-then-not-lacking c =
    let lacking = c.lacking in
    let direct-trail = c.direct_trail-trail in
    let args = c.args in
    let pre = c.requires in
    let none = sym (lacking.ensures ∙ trail_lacking (config args.space.layout) args.space.top args.mem.now false args.address.0 args.depth args.page.0 args.writable direct-trail.result direct-trail.ensures (omega (arith, pre.0.0, pre.3))) ∙ c.if-not-lacking.true in
    let came = trail_came (config args.space.layout) args.space.top args.mem.now false args.address.0 args.depth args.page.0 args.writable direct-trail.result direct-trail.ensures in
    let went = path_plainly (config args.space.layout) args.space.top args.mem.now args.held args.root.0 false args.address.0 args.depth _ _ none pre.3 pre.4 in
    (subst ReachesFrame (sym came) (reaches_as (config args.space.layout) args.space.top args.mem.now args.held args.root.0 false args.address.0 args.depth pre.1 pre.0.0 _ pre.0.3 went), pre.2)

pub returns-then-not-lacking : goal.returns-then-not-lacking
unfolding load_of
returns-then-not-lacking c =
    let exit-of2 = c.exit_of-exits-then-not-lacking in
    let if2 = c.if-not-lacking in
    let lacking = c.lacking in
    let direct-trail = c.direct_trail-trail in
    let args = c.args in
    let pre = c.requires in
    let none = sym (lacking.ensures ∙ trail_lacking (config args.space.layout) args.space.top args.mem.now false args.address.0 args.depth args.page.0 args.writable direct-trail.result direct-trail.ensures (omega (arith, pre.0.0, pre.3))) ∙ if2.true in
    let came = trail_came (config args.space.layout) args.space.top args.mem.now false args.address.0 args.depth args.page.0 args.writable direct-trail.result direct-trail.ensures in
    let went = path_plainly (config args.space.layout) args.space.top args.mem.now args.held args.root.0 false args.address.0 args.depth _ _ none pre.3 pre.4 in
    let end = direct-trail.result.walked in
    c.loaded-then-not-lacking.ensures ∙ load_plainly (config args.space.layout) args.space.top args.root.0 args.held args.held args.address.0 args.width exit-of2.result end args.mem.now
    ∙ ap (λ e. load_from (config args.space.layout) args.space.top args.root.0 args.held args.address.0 args.width (yields (translation args.held e end false) args.mem.now)) exit-of2.ensures
    ∙ ap (λ r. load_from (config args.space.layout) args.space.top args.root.0 args.held args.address.0 args.width (yields (translation args.held (exit_by r) r false) args.mem.now)) came ∙ sym (ap (load_from (config args.space.layout) args.space.top args.root.0 args.held args.address.0 args.width) went)

pub load_by-requires : goal.load_by-requires
load_by-requires c =
    let judged = c.judged-t in
    let if2 = c.if-not-lacking in
    let lacking = c.lacking in
    let direct-trail = c.direct_trail-trail in
    let args = c.args in
    let pre = c.requires in
    let some = sym (lacking.ensures ∙ trail_lacking (config args.space.layout) args.space.top args.mem.now false args.address.0 args.depth args.page.0 args.writable direct-trail.result direct-trail.ensures (omega (arith, pre.0.0, pre.3))) ∙ if2.false in
    let came = trail_came (config args.space.layout) args.space.top args.mem.now false args.address.0 args.depth args.page.0 args.writable direct-trail.result direct-trail.ensures in
    let went = path_judged (config args.space.layout) args.space.top args.mem.now args.held args.root.0 false args.address.0 args.depth _ _ some pre.3 pre.4 in
    let leads = judged.ensures ∙ ap (judged_by args.held true _) came in
    (pre.0, subst (λ (o : Translated). ReachesFrame o.walked) (sym leads) (reaches_as (config args.space.layout) args.space.top args.mem.now args.held args.root.0 false args.address.0 args.depth pre.1 pre.0.0 _ pre.0.3 went), pre.2)

pub returns : goal.returns
unfolding load_of
returns c =
    let load-by = c.load_by in
    let judged = c.judged-t in
    let if2 = c.if-not-lacking in
    let lacking = c.lacking in
    let direct-trail = c.direct_trail-trail in
    let args = c.args in
    let pre = c.requires in
    let some = sym (lacking.ensures ∙ trail_lacking (config args.space.layout) args.space.top args.mem.now false args.address.0 args.depth args.page.0 args.writable direct-trail.result direct-trail.ensures (omega (arith, pre.0.0, pre.3))) ∙ if2.false in
    let came = trail_came (config args.space.layout) args.space.top args.mem.now false args.address.0 args.depth args.page.0 args.writable direct-trail.result direct-trail.ensures in
    let went = path_judged (config args.space.layout) args.space.top args.mem.now args.held args.root.0 false args.address.0 args.depth _ _ some pre.3 pre.4 in
    let leads = judged.ensures ∙ ap (judged_by args.held true _) came in
    load-by.ensures
    ∙ ap (λ (o : Translated). load_from (config args.space.layout) args.space.top args.root.0 args.held args.address.0 args.width (yields o args.mem.now)) leads ∙ sym (ap (load_from (config args.space.layout) args.space.top args.root.0 args.held args.address.0 args.width) went)
