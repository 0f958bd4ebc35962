-- The unit's record: what it says in the specification's terms, and whether it breaks a rule.
-- Assumes nothing.
use Rattle.std.specs.Prelude.{ℕ, ◌*◌, ◌/◌, ◌%◌, Bool, false, ◌&&◌, ◌||◌, cond, List, eqb, leb, ltb, replicate}
use Rattle.std.proofs.Math.Option.{Option, none, some}
use Rattle.spec.specs.Config.{Config}
use Rattle.spec.specs.Refusal as rule
use Rattle.spec.specs.Refusal.{areas_fit, top_fits, record_fits}
use Rattle.entry.specs.declared.GuestPhysical.{GuestPhysical}
use Rattle.entry.specs.declared.HostPhysical.{HostPhysical}
use Rattle.pool.specs.declared.Pool.{Pool}
use Rattle.pool.specs.Header.{inside_of}
use Rattle.pool.specs.Pool.{none_of}
use Rattle.layout.specs.declared.Layout.{Layout}
use Rattle.layout.specs.Layout.{config, page}
use Rattle.marks.specs.declared.Marks.{Marks}
use Rattle.marks.specs.Reading.{marks_of}
use Rattle.choice.specs.declared.Tally.{Tally}
use Rattle.choice.specs.declared.Choice.{Choice}
use Rattle.choice.specs.Order.{choice_fits}
use Rattle.choice.specs.Reading.{window_in, automatic_in}
use Rattle.record.specs.declared.Pools.{Pools}
use Rattle.record.specs.declared.Record.{Record}
use Rattle.record.specs.declared.Head.{Head}

-- the levels N of the guest's tables and of the host's
abbrev pub levels : ℕ
levels = 4

-- the layout that an opening gives a memory of that many words, 512 to a frame. bits: it chooses accessed and dirty bits
abbrev pub layout_of : ℕ → ℕ → ℕ → Bool → Layout
layout_of words h s bits = record { levels = levels; hosts = h; shadows = s; frames = words / 512; bits = cond bits 1 0 }

abbrev pub config_by : ℕ → ℕ → ℕ → Bool → Config
config_by words h s bits = config (layout_of words h s bits)

abbrev pub config_of : Record → Config
config_of r = config r.layout

-- a guest frame, by its number
abbrev pub guest_frame : ℕ → GuestPhysical
guest_frame g = record { 0 = g }

-- the frame held at depth N, by the path of no index; 0 says that it is not held, since frame 0 is a host frame
abbrev pub held_top : ℕ → Option ℕ
held_top f = cond (eqb f 0) none (some f)

-- what the record says, as the rule reads it
abbrev pub reading : Record → rule.Record
reading r = record {
  words = r.layout.frames * 512;
  config = config_of r;
  root = r.guest.root.0;
  marks = marks_of r.layout.levels r.guest.marks;
  choice = eqb r.guest.choice.tally.on 1;
  automatic = automatic_in r.layout.levels r.guest.choice.tally r.guest.choice.order r.guest.marks.place;
  window = window_in r.layout.levels r.guest.choice.tally r.guest.choice.ring;
  top = held_top r.guest.held.0;
}

-- the entry of a table in the area of s frames from b on
unfoldable pub is_table : ℕ → ℕ → ℕ → Bool
is_table b s e = eqb (e % 4096) 1 && inside_of b s (e / 4096)

-- the ranges of what that area keeps: no more frames handed out than it has, nor more tables in use; the top table is one of it
unfoldable pub pool_fits : ℕ → ℕ → Pool → Bool
pool_fits b s p = leb p.fresh s && leb p.used p.fresh && (eqb p.top 0 || is_table b s p.top)

-- of the host tables a top one stands always
unfoldable pub pools_fit : Layout → Pools → Bool
pools_fit l p = is_table 0 l.hosts p.host.top && pool_fits 0 l.hosts p.host && pool_fits l.hosts l.shadows p.shadow

-- what an opening chooses: the levels, and whether bits are set, which is 0 or 1
unfoldable pub choices_fit : Layout → Bool
choices_fit l = eqb l.levels levels && leb l.bits 1

-- what the automatic choice keeps, by its numbers
abbrev pub chosen_fits : Record → Bool
chosen_fits r = choice_fits r.guest.choice.tally r.guest.choice.order r.guest.marks.place r.guest.marks.set

-- a record that does not meet 3 on a memory of that length
unfoldable pub fits_of : Record → ℕ → Bool
fits_of r len = record_fits (reading r) len && choices_fit r.layout && chosen_fits r && pools_fit r.layout r.pools

-- ---- in parts

-- the sizes: the memory's length, and that an opening would grant the words, H and S
unfoldable pub sizes_fit : Layout → ℕ → Bool
sizes_fit l len = eqb len (l.frames * 512) && (ltb 0 l.frames && leb l.frames 65536) && areas_fit (config l)

-- the held frame and what the areas keep
unfoldable pub tables_fit : Layout → ℕ → Pools → Bool
tables_fit l held p = top_fits (config l) (held_top held) && pools_fit l p

-- a record by its head and its arrays
abbrev pub record_by : Head → List ℕ → List ℕ → List ℕ → Record
record_by h place ring order = record {
  layout = h.layout;
  pools = h.pools;
  guest = record {
    root = h.root;
    held = h.held;
    marks = record { set = h.set; place = place };
    choice = record { tally = h.tally; ring = ring; order = order };
  };
}

abbrev pub head_of : Record → Head
head_of r = record {
  layout = r.layout;
  pools = r.pools;
  root = r.guest.root;
  held = r.guest.held;
  set = r.guest.marks.set;
  tally = r.guest.choice.tally;
}

-- nothing is kept; on: whether the choice is on
abbrev pub choice_of : Bool → Choice
choice_of on = record { tally = record { on = cond on 1 0; charged = 0; at = 0; count = 0 }; ring = replicate 64 0; order = replicate 64 0 }

-- what a refused opening hands back; every later call refuses it with 3
unfoldable pub zeros : Record
zeros = record {
  layout = record { levels = 0; hosts = 0; shadows = 0; frames = 0; bits = 0 };
  pools = record { host = none_of; shadow = none_of };
  guest = record { root = guest_frame 0; held = page 0; marks = record { set = 0; place = replicate 64 0 }; choice = choice_of false };
}

-- ---- with one part changed

unfoldable pub head_root : Head → ℕ → Head
head_root h g = record { layout = h.layout; pools = h.pools; root = guest_frame g; held = h.held; set = h.set; tally = h.tally }

unfoldable pub head_tables : Head → Pools → HostPhysical → Head
head_tables h p f = record { layout = h.layout; pools = p; root = h.root; held = f; set = h.set; tally = h.tally }

unfoldable pub head_marks : Head → ℕ → Tally → Head
head_marks h n t = record { layout = h.layout; pools = h.pools; root = h.root; held = h.held; set = n; tally = t }

unfoldable pub head_tally : Head → Tally → Head
head_tally h t = record { layout = h.layout; pools = h.pools; root = h.root; held = h.held; set = h.set; tally = t }

abbrev pub with_head : Record → Head → Record
with_head r h = record_by h r.guest.marks.place r.guest.choice.ring r.guest.choice.order

-- with other marks, and what the automatic choice then keeps
unfoldable pub with_marks : Record → Marks → Choice → Record
with_marks r t x = record {
  layout = r.layout;
  pools = r.pools;
  guest = record { root = r.guest.root; held = r.guest.held; marks = t; choice = x };
}
