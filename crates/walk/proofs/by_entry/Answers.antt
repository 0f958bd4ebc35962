-- Absent, malformed, the beginning of a large page, or else a frame.
use mathlib.Core.Path.{◌≡◌, sym, ◌∙◌}
use mathlib.Core.Bool.{false}
use Rattle.spec.specs.Entry.{malformed}
use Rattle.spec.specs.Plain.{entry_lead}
use Rattle.layout.specs.Layout.{config}
use Rattle.entry.proofs.Entries.{malformed_levels}
use Rattle.walk.specs.Memory.{led_by_entry}
use Rattle.walk.proofs.Laws.{large_well}
use Rattle.walk.proofs.by_entry.Goals.{After-frame_of}
use Rattle.walk.proofs.by_entry.Goals as goal

-- the entry is well formed
well : (c : After-frame_of) → let args = c.args in malformed (config args.layout) args.level args.e ≡ false
well c =
    let args = c.args in
    malformed_levels (config args.layout) args.level args.e ∙ sym c.malformed.ensures ∙ c.if-malformed.false

pub returns-then-malformed : goal.returns-then-malformed
unfolding led_by_entry
returns-then-malformed c =
    let args = c.args in
    let present = c.present in
    let if1 = c.if-present in
    let judged = c.malformed in
    let if2 = c.if-malformed in
    rw (← present.ensures, if1.true, malformed_levels (config args.layout) args.level args.e, ← judged.ensures, if2.true)

pub returns-then-has_large_bit : goal.returns-then-has_large_bit
unfolding led_by_entry entry_lead
returns-then-has_large_bit c =
    let args = c.args in
    let present = c.present in
    let if1 = c.if-present in
    let frame-of = c.frame_of in
    let writable = c.writable in
    let both = c.both-w in
    let has-large-bit = c.has_large_bit in
    let if3 = c.if-has_large_bit in
    let good = well (goal.at.returns-then-has_large_bit c).After-frame_of in
    rw (← present.ensures, if1.true, good, large_well (config args.layout) args.level args.e good, ← has-large-bit.ensures, if3.true, ← writable.ensures, ← both.ensures, ← frame-of.ensures)

pub returns-else-has_large_bit : goal.returns-else-has_large_bit
unfolding led_by_entry entry_lead
returns-else-has_large_bit c =
    let args = c.args in
    let present = c.present in
    let if1 = c.if-present in
    let frame-of = c.frame_of in
    let writable = c.writable in
    let both = c.both-w in
    let has-large-bit = c.has_large_bit in
    let if3 = c.if-has_large_bit in
    let good = well (goal.at.returns-else-has_large_bit c).After-frame_of in
    rw (← present.ensures, if1.true, good, large_well (config args.layout) args.level args.e good, ← has-large-bit.ensures, if3.false, ← writable.ensures, ← both.ensures, ← frame-of.ensures)

pub returns-else-present : goal.returns-else-present
unfolding led_by_entry
returns-else-present c = rw (← c.present.ensures, c.if-present.false)
