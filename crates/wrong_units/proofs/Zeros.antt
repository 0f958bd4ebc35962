-- A guest of zeros, whose frames are mapped and whose tables are written by the run itself: for units that are machine and book.
-- Assumes nothing.
use mathlib.Core.Path.{◌≡◌, refl, sym, ◌∙◌}
use Prim.Native.Nat.{ℕ}
use mathlib.Core.Bool.{Bool, false, not}
use mathlib.Core.List.{List}
use lib.Dec.{T}
use lib.ListN.{length, replicate}
use Rattle.spec.specs.Answer.{Line}
use Rattle.spec.specs.Call.{Call}
use Rattle.spec.specs.Refusal.{open_refusal}
use Rattle.spec.specs.Run.{step}
use Rattle.spec.specs.Guest.{code, equal}
use Rattle.spec.specs.GuestChoice.{mapped}
use Rattle.record.specs.Record.{config_by}
use Rattle.record.specs.Open.{refusal_of}
use Rattle.wrong_units.specs.Unit.{MemoryUnit, after_by, specified, Demand-3}
use Rattle.wrong_units.proofs.Refute.{demand_last, differ}

-- 14 frames: 4 for host tables, 5 for shadow tables, so that paths by two tables of level 1 fit and by three do not, 5 for the guest
abbrev pub memory : List ℕ
memory = replicate 7168 0

pub grants : refusal_of (length memory) 4 5 false ≡ 0
unfolding refusal_of open_refusal
grants = refl

-- the guest's frames are mapped
abbrev pub all_mapped : List Call
all_mapped = mapped (config_by (length memory) 4 5 false) 5 0

-- a unit, opened with the automatic choice on or off, that after the calls xs says one line to the call x, and the specification another
pub refuted_after : (on : Bool) (u : MemoryUnit) (xs : List Call) (x : Call) (wrong right : Line)
    → (u.call x (after_by u xs (u.opens memory 4 5 false on))).0 ≡ wrong → (step x (specified memory 4 5 false on xs)).0 ≡ right
    → T (not (equal (code wrong) (code right))) → Demand-3 u → ⊥
refuted_after on u xs x wrong right w r t d = differ wrong right t (sym w ∙ demand_last u d memory 4 5 false on xs x grants ∙ r)
