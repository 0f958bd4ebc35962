-- A place below the frames of the memory is a table, and its entry decides; any other is a span.
use borrow.Author.Tests.{le-leb, lt-leb}
use Rattle.spec.specs.Plain.{is_span}
use Rattle.walk.specs.Memory.{led_of}
use Rattle.walk.proofs.lead.Goals as goal

pub returns-then-place-layout : goal.returns-then-place-layout
unfolding led_of is_span
returns-then-place-layout c =
    let args = c.args in
    let if1 = c.if-place-layout in
    let word_in_call = c.word_in in
    let by-entry = c.by_entry in
    rw (lt-leb args.layout.frames args.place.0 if1.true, ← word_in_call.ensures) by-entry.ensures

pub returns-else-place-layout : goal.returns-else-place-layout
unfolding led_of is_span
returns-else-place-layout c =
    let args = c.args in
    let if1 = c.if-place-layout in
    let by_span = c.by_span in
    rw (le-leb args.layout.frames args.place.0 if1.false) by_span.ensures
