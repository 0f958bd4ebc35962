-- The record and the lent memory stand for machine and book: what every granted opening has and every call keeps.
-- Assumes nothing.
use mathlib.Core.Path.{◌≡◌, refl}
use Prim.Native.Nat.{ℕ, ◌*◌}
use mathlib.Core.Bool.{true, false}
use mathlib.Core.List.{List, []}
use mathlib.Core.Option.{Option, none, some}
use lib.Dec.{ltb}
use lib.ListN.{length, drop}
use Rattle.spec.specs.Config.{Config, guest_base}
use Rattle.spec.specs.Answer.{line}
use Rattle.spec.specs.Prefix.{keep}
use Rattle.spec.specs.Plain.{Place}
use Rattle.spec.specs.Machine.{Machine, lookup}
use Rattle.spec.specs.Book.{Held, find}
use Rattle.spec.specs.Call.{Call}
use Rattle.spec.specs.Run.{State, step}
use Rattle.spec.specs.Prefix.{All}
use Rattle.spec_laws.proofs.Asks.{AnswerIn}
use Rattle.spec_laws.proofs.Keeps.{Valid, InGuestArea}
use Rattle.spec_laws.proofs.Runs.{BookFits}
use Rattle.pool.specs.declared.Pool.{Pool}
use Rattle.area_laws.proofs.Whole.{Holds}
use Rattle.host.proofs.Mapping.{Maps, walk_is, lookup_inside}
use Rattle.walk.proofs.Stands.{Stands}
use Rattle.marks.specs.Reading.{marks_of}
use Rattle.marks.proofs.Order.{SameMembers}
use Rattle.marks.proofs.Book.{Sorted}
use Rattle.choice.proofs.Chosen.{Chosen}
use Rattle.record.specs.declared.Record.{Record}
use Rattle.record.specs.Record.{config_of, fits_of}
use Rattle.shadow.specs.Held.{shadow_area}
use Rattle.drops_laws.proofs.Held.{leaf_at}
use Rattle.drops_laws.proofs.Valid.{frames_at, entry_of}
use Rattle.words.specs.After.{After}
use Rattle.calls.specs.declared.Reply.{Reply}
use Rattle.calls.specs.Calls.{host_top}

-- the held paths that stand in the shadow tables: those with an index; the one of no index stands in the record
abbrev pub longer : List Held → List Held
longer hs = keep (λ (h : Held). ltb 0 (length h.path)) hs

abbrev pub top_by : ℕ → Option Held → ℕ
top_by f none = 0
top_by f (some h) = f

-- the host frames by prefix, as a walk over memory reaches them
abbrev pub frames : Record → List ℕ → List ℕ → ℕ
frames r m = frames_at (config_of r) (host_top r) m r.guest.root.0

pub record Inv (s : State) (r : Record) (m : List ℕ) : Type 0 where
  pub fits : fits_of r (length m) ≡ true
  pub sorted : Sorted r.layout.levels r.guest.marks
  pub root : r.guest.root.0 ≡ s.machine.root
  pub maps : Maps (config_of r) s.machine.mappings r.pools.host m
  pub area : drop (512 * guest_base (config_of r)) m ≡ s.machine.area
  pub book : BookFits (config_of r) s.book
  pub valid : All (Valid (config_of r) s.machine) s.book.held
  pub marks : SameMembers (marks_of r.layout.levels r.guest.marks) s.book.marks
  pub chosen : Chosen (config_of r) r.guest.choice r.guest.marks s.book
  pub shadow : Holds (shadow_area (config_of r)) false r.pools.shadow m (leaf_at (entry_of (config_of r) (frames r m)) (longer s.book.held)) (frames r m)
  pub top : r.guest.held.0 ≡ top_by (frames r m []) (find [] s.book.held)

-- the host tables and the guest area stand for the machine
pub stands : (c : Config) (s : Machine) (p : Pool) (m : List ℕ) → Maps c s.mappings p m → drop (512 * guest_base c) m ≡ s.area → Stands c s p.top m
stands c s p m h e = record {
  tables = walk_is c s.mappings p m h;
  inside = λ g. go g (lookup g s.mappings) refl;
  area = e;
}
  where
    go : (g : ℕ) (o : Option Place) → lookup g s.mappings ≡ o → AnswerIn (InGuestArea c) o
    go g none q = tt
    go g (some x) q = lookup_inside c g s.mappings x h.inside q

-- machine and book under a configuration
abbrev pub at : Config → State → State
at c s = record { config = c; machine = s.machine; book = s.book }

-- ---- what a call of the unit does, and that it follows the specification's step

-- the call x, which leaves e, says what the specification's step says, and keeps the invariant
pub record Follows (x : Call) (s : State) (r : Record) (e : After Reply) : Type 0 where
  pub config : config_of e.result.unit ≡ (step x (at (config_of r) s)).1.config
  pub says : line e.result.answer ≡ (step x (at (config_of r) s)).0
  pub next : Inv (step x (at (config_of r) s)).1 e.result.unit e.memory
