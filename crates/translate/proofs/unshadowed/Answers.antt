-- With bits off the plain walk; with bits on its end as it is if no bit lacks, and else judged.
use mathlib.Core.Path.{◌≡◌, refl, sym, ap, ◌∙◌}
use mathlib.Core.Bool.{Bool, true, false, ◌&&◌, cond}
use mathlib.Core.List.{List}
use Prim.Native.Nat.{ℕ}
use native.Mathlib.Omega.{arith}
use Rattle.spec.specs.Config.{Config}
use Rattle.spec.specs.Entry.{page_of}
use Rattle.spec.specs.Bits.{lacks}
use Rattle.entry.specs.declared.HostPhysical.{HostPhysical}
use Rattle.layout.specs.Layout.{config}
use Rattle.walk.specs.declared.Trail.{Trail}
use Rattle.walk.specs.declared.Walked.{Walked}
use Rattle.walk.specs.declared.Walked.TheVariants as walked
use Rattle.walk.specs.Memory.{walked_of, root_trail}
use Rattle.accessed.specs.Entries.{seen_of, seen_entries, words_of, owed_of}
use Rattle.translate.specs.declared.Checked.{Checked}
use Rattle.translate.specs.declared.Checked.TheVariants as checked
use Rattle.translate.specs.declared.Held.{Held}
use Rattle.translate.specs.Translate.{whole as wholeWalk, exit_by, translation, settled_by, judged_by, lacking_by, debt_by, entries_of, checked_of}
use Rattle.translate.proofs.Bits.{whole_checked, chosen_off, chosen_on, unshadowed_off, unshadowed_on}
use Rattle.translate.proofs.unshadowed.Goals as goal

-- entries of which none lacks a bit are clear
entries_clear : (c : Config) (ht : ℕ) (m : List ℕ) (root : ℕ) (st : Bool) (d : ℕ) (xs : List (ℕ × ℕ)) → lacks (words_of m) st xs ≡ false → entries_of c ht m root st d xs ≡ checked.Clear false
unfolding entries_of
entries_clear c ht m root st d xs e = ap (λ b. cond b (debt_by d (owed_of c ht m st c.levels root xs)) (checked.Clear false)) e

both_on : (b l : Bool) → b ≡ true → (b && l) ≡ false → l ≡ false
both_on b l on e = sym (ap (λ x. x && l) on) ∙ e

-- a walk's end of which no bit lacks, judged by clear bits
unlacking : (h : Held) (k : Checked) (lack : Bool) (r : Walked) → lacking_by lack r ≡ false
    → ((w : Bool) (t : HostPhysical) (n : ℕ) → r ≡ walked.Arrived w t n → lack ≡ false → k ≡ checked.Clear false)
    → judged_by h true k r ≡ translation h (exit_by r) r false
unlacking h k lack (walked.Arrived w t n) e f = ap (settled_by h n (walked.Arrived w t n)) (f w t n refl e)
unlacking h k lack (walked.Faulted x n) e f = refl
unlacking h k lack walked.Damaged e f = refl

pub returns-then-space-eq0 : goal.returns-then-space-eq0
returns-then-space-eq0 c =
    let plain = c.plain in
    let if1 = c.if-space-eq0 in
    let args = c.args in
    plain.ensures ∙ sym (unshadowed_off (config args.space.layout) args.space.top args.mem.now args.held args.root.0 args.request.store args.request.address.0 args.request.depth (chosen_off _ if1.true))

pub lacking-requires : goal.lacking-requires
lacking-requires c =
    let pre = c.requires in
    (pre, omega (arith, pre.0))

pub returns-then-not-lacking : goal.returns-then-not-lacking
unfolding root_trail
returns-then-not-lacking c =
    let as_walked = c.as_walked in
    let if2 = c.if-not-lacking in
    let lacking = c.lacking in
    let whole = c.whole-trail in
    let if1 = c.if-space-eq0 in
    let args = c.args in
    let pre = c.requires in
    let came : walked_of (config args.space.layout) args.space.top args.mem.now 0 (wholeWalk (config args.space.layout) args.request.store args.root.0 args.request.address.0) ≡ whole.result.walked = sym (ap (λ (t : Trail). t.walked) whole.ensures) in
    let on = chosen_on _ if1.false in
    let clear : (w : Bool) (t : HostPhysical) (n : ℕ) → whole.result.walked ≡ walked.Arrived w t n → ((config args.space.layout).bits && lacks (words_of args.mem.now) args.request.store (seen_entries whole.result.tables (seen_of (config args.space.layout) whole.result.tables args.space.layout.levels (page_of args.request.address.0)))) ≡ false → checked_of (config args.space.layout) args.space.top args.mem.now args.root.0 args.request.store args.request.address.0 args.request.depth ≡ checked.Clear false = λ w t n e none.
    let bits : entries_of (config args.space.layout) args.space.top args.mem.now args.root.0 args.request.store args.request.depth (seen_entries whole.result.tables (seen_of (config args.space.layout) whole.result.tables args.space.layout.levels (page_of args.request.address.0))) ≡ checked_of (config args.space.layout) args.space.top args.mem.now args.root.0 args.request.store args.request.address.0 args.request.depth = rw whole.ensures (whole_checked (config args.space.layout) args.space.top args.mem.now args.root.0 args.request.store args.request.address.0 _ _ _ (omega (arith, pre.0)) (came ∙ e) args.request.depth) in
    sym bits ∙ entries_clear (config args.space.layout) args.space.top args.mem.now args.root.0 args.request.store args.request.depth _ (both_on _ _ on none)
    in
    as_walked.ensures
    ∙ sym (unlacking args.held _ _ whole.result.walked (sym lacking.ensures ∙ if2.true) clear)
    ∙ sym (unshadowed_on (config args.space.layout) args.space.top args.mem.now args.held args.root.0 args.request.store args.request.address.0 args.request.depth _ on came)

pub returns : goal.returns
unfolding root_trail
returns c =
    let judged = c.judged in
    let whole = c.whole-trail in
    let if1 = c.if-space-eq0 in
    let args = c.args in
    let came : walked_of (config args.space.layout) args.space.top args.mem.now 0 (wholeWalk (config args.space.layout) args.request.store args.root.0 args.request.address.0) ≡ whole.result.walked = sym (ap (λ (t : Trail). t.walked) whole.ensures) in
    judged.ensures ∙ sym (unshadowed_on (config args.space.layout) args.space.top args.mem.now args.held args.root.0 args.request.store args.request.address.0 args.request.depth _ (chosen_on _ if1.false) came)
