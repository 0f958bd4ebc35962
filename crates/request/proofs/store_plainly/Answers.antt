-- A case of the definition each: another depth, no path, a watched frame, and the bytes written.
use mathlib.Core.Path.{refl, sym, ◌∙◌}
use mathlib.Core.Bool.{true}
use borrow.Author.Tests.{eq-eqb, ne_eqb}
use Rattle.layout.specs.Layout.{config}
use Rattle.translate.proofs.Fits.{held_small}
use Rattle.request.specs.Access.{plainly_of}
use Rattle.request.proofs.Held.{path_small}
use Rattle.request.proofs.store_plainly.Goals as goal

pub returns-then-depth-ne0 : goal.returns-then-depth-ne0
unfolding plainly_of
returns-then-depth-ne0 c = rw (ne_eqb c.args.depth 0 c.if-depth-ne0.true) refl

pub returns-then-watched : goal.returns-then-watched
unfolding plainly_of
returns-then-watched c =
    let path_held = c.path_held in
    let if1 = c.if-depth-ne0 in
    let args = c.args in
    rw (eq-eqb args.depth 0 if1.false, sym path_held.ensures ∙ c.in-Found.is, sym c.watched.ensures ∙ c.if-watched.true) refl

pub put_bytes-requires : goal.put_bytes-requires
put_bytes-requires c =
    let path_held = c.path_held in
    let args = c.args in
    let pre = c.requires in
    (path_small (config args.layout) 0 args.mem.now args.held 0 true args.address.0 args.depth pre.0.3 (held_small (config args.layout) args.held pre.1 pre.0.3) _ _ (sym path_held.ensures ∙ c.in-Found.is), pre.2)

pub returns-else-watched : goal.returns-else-watched
unfolding plainly_of
returns-else-watched c =
    let if2 = c.if-watched in
    let watched = c.watched in
    let path_held = c.path_held in
    let if1 = c.if-depth-ne0 in
    let args = c.args in
    rw (eq-eqb args.depth 0 if1.false, sym path_held.ensures ∙ c.in-Found.is, sym watched.ensures ∙ if2.false, c.put_bytes.ensures) refl

pub returns-in-Absent : goal.returns-in-Absent
unfolding plainly_of
returns-in-Absent c =
    let path_held = c.path_held in
    let if1 = c.if-depth-ne0 in
    let args = c.args in
    rw (eq-eqb args.depth 0 if1.false, sym path_held.ensures ∙ c.in-Absent.is) refl

pub returns-in-Damaged : goal.returns-in-Damaged
unfolding plainly_of
returns-in-Damaged c =
    let if1 = c.if-depth-ne0 in
    let args = c.args in
    rw (eq-eqb args.depth 0 if1.false, sym c.path_held.ensures ∙ c.in-Damaged.is) refl
