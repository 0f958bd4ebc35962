-- One name for the definitions that a computed line of the specification unfolds.
-- Assumes nothing.
use Rattle.std.specs.Prelude.{ℕ}
use Rattle.spec.specs.Entry.{bit_set, present, writable, accessed, dirty, with_bit, frame_of, large, frames_below, malformed, index, indexes, page_of, word_of}
use Rattle.spec.specs.Bytes.{part, with_part, bytes_at, with_bytes}
use Rattle.spec.specs.Walk.{trace}
use Rattle.spec.specs.Plain.{span, is_span, first_frame, hosted, entry, next, entry_lead, span_lead, onward, turn, levels, walk}
use Rattle.spec.specs.Machine.{host_cost, world}
use Rattle.spec.specs.Bits.{owed, owes, bits_set}
use Rattle.spec.specs.Call.{plain, device_walk, verdict, access, machine_step}
use Rattle.spec.specs.Choice.{charge_of, observed, operated}
use Rattle.spec.specs.Count.{depth_in, request, storing, book_step}
use Rattle.spec.specs.Refusal.{open_refusal, alike_from, tests, refusal}
use Rattle.spec.specs.Forecast.{served, figures_of}
use Rattle.spec.specs.Run.{step, run, after, opening}

-- written `unfolding specifying`; its value is nobody's
unfoldable pub specifying : ℕ
unfolding bit_set present writable accessed dirty with_bit frame_of large frames_below malformed index indexes page_of word_of part with_part bytes_at with_bytes trace span is_span first_frame hosted entry next entry_lead span_lead onward turn levels walk host_cost world owed owes bits_set plain device_walk verdict access machine_step charge_of observed operated depth_in request storing book_step open_refusal alike_from tests refusal served figures_of step run after opening
specifying = 0
