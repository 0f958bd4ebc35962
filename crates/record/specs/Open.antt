-- The opening of the unit on any memory. Document 01, "Open".
-- Assumes nothing.
use Rattle.std.specs.Prelude.{ℕ, ◌+◌, ◌*◌, Bool, cond, List, [], eqb, length}
use Rattle.spec.specs.Refusal.{open_refusal}
use Rattle.words.specs.Words.{zeroed}
use Rattle.pool.specs.declared.Pool.{Pool}
use Rattle.pool.specs.Pool.{none_of}
use Rattle.area.specs.Tree.{enter_of}
use Rattle.host.specs.Map.{host_area}
use Rattle.marks.specs.Table.{table_of, number}
use Rattle.record.specs.declared.Record.{Record}
use Rattle.record.specs.declared.Opened.{Opened}
use Rattle.layout.specs.declared.Layout.{Layout}
use Rattle.layout.specs.Layout.{page}
use Rattle.record.specs.Record.{layout_of, config_by, guest_frame, choice_of, zeros}
use Rattle.words.specs.After.{After, yields}
use Rattle.pool.specs.declared.Went.{Went}

-- the number with which an opening on that many words is refused, or 0
unfoldable pub refusal_of : ℕ → ℕ → ℕ → Bool → ℕ
refusal_of words h s bits = number (open_refusal (config_by words h s bits) words)

-- the first n frames are cleared: an opening clears all host and shadow frames
unfoldable pub cleared_of : List ℕ → ℕ → List ℕ
cleared_of m n = zeroed m 0 (n * 512)

-- the host tables' top table is handed out from the first host frame
unfoldable pub entered_of : List ℕ → ℕ → ℕ → Bool → After Went
entered_of m h s bits = enter_of (host_area (config_by (length m) h s bits)) none_of (cleared_of m (h + s)) 0

-- the record of a granted opening: root 0, no mark set, no path held. on: whether the automatic choice is on
unfoldable pub first_of : Layout → Pool → Bool → Record
first_of l p on = record {
  layout = l;
  pools = record { host = p; shadow = none_of };
  guest = record { root = guest_frame 0; held = page 0; marks = table_of []; choice = choice_of on };
}

-- what a granted opening leaves
unfoldable pub granted_of : List ℕ → ℕ → ℕ → Bool → Bool → After Record
granted_of m h s bits on = let t = entered_of m h s bits in yields (first_of (layout_of (length m) h s bits) t.result.pool on) t.memory

abbrev pub granted : After Record → After Opened
granted k = yields (record { unit = k.result; refusal = 0 }) k.memory

-- bits, on: whether it chooses accessed and dirty bits, and the automatic choice. A refused opening hands back a record of zeros and leaves every word
unfoldable pub open_of : List ℕ → ℕ → ℕ → Bool → Bool → After Opened
open_of m h s bits on =
    let n = refusal_of (length m) h s bits in
    cond (eqb n 0) (granted (granted_of m h s bits on)) (yields (record { unit = zeros; refusal = n }) m)
