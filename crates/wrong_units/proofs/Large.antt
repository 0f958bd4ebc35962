-- Units that misread large pages (document 02, 8). Each is refused by demand 3, on a guest of zeros whose tables are mapped and written by the
-- run itself.
-- Assumes nothing.
use mathlib.Core.Path.{◌≡◌, refl, ap}
use Prim.Native.Nat.{ℕ, pred, ◌^◌}
use mathlib.Core.Bool.{Bool, true, false, not}
use mathlib.Core.List.{List, [], ◌∷◌, ◌++◌}
use lib.Dec.{T}
use lib.ListN.{length}
use Rattle.spec.specs.declared.Fault.{Fault}
use Rattle.spec.specs.Answer.{Line, value, fault}
use Rattle.spec.specs.Config.{Config}
use Rattle.spec.specs.Entry.{malformed}
use Rattle.spec.specs.Walk.{Walk, ◌>>=◌}
use Rattle.spec.specs.Plain.{Place, hosted, entry, entry_lead, onward, turn, levels, walk}
use Rattle.spec.specs.Call.{Call, map, set_mark, load_word, store_word, device_word}
use Rattle.spec.specs.Run.{State, step, run, opened}
use Rattle.spec.specs.Computing.{specifying}
use Rattle.spec.specs.Guest.{code, equal}
use Rattle.spec.specs.GuestChoice.{mapped}
use Rattle.record.specs.Record.{config_by}
use Rattle.claims.specs.Run.{machine_run}
use Rattle.wrong_units.specs.Unit.{MemoryUnit, run_by, after_by, specified, Demand-3}
use Rattle.wrong_units.specs.WrongChoice.{step_by}
use Rattle.wrong_units.specs.WrongLarge.{say_step, saying, turn_by, levels_by, walk_by, ends_at_four, low_bits_ignored, protected_at_one, shallow, whole_step, whole_page}
use Rattle.wrong_units.proofs.Zeros.{memory, all_mapped, refuted_after}

-- ---- what is refused below is the change: a unit that says what machine and book say meets the demand,

run_ours : (xs : List Call) (s : State) → run_by (saying (λ x s l. l)) xs s ≡ machine_run (run xs s)
unfolding run_by run say_step
run_ours [] s = refl
run_ours (x ∷ xs) s = ap (λ os. ((step x s).0, (step x s).1.machine.area) ∷ os) (run_ours xs (step x s).1)

pub saying_ours : Demand-3 (saying (λ x s l. l))
unfolding Demand-3
saying_ours m h s bits on xs g = run_ours xs (opened (config_by (length m) h s bits) on m)

-- and with our own parts of a level the walk is ours
levels_ours : (c : Config) (st : Bool) (n t : ℕ) (w : Bool) (is : List ℕ) → levels_by (turn_by malformed entry_lead onward) c st n t w is ≡ levels c st n t w is
unfolding levels_by levels turn entry
levels_ours c st n t w [] = refl
levels_ours c st n t w (i ∷ is) = ap (λ (k : Place → Walk Fault Place). turn c st n t i w >>= k) (λ j r. levels_ours c st (pred n) r.0 r.1 is j)

pub walk_ours : (c : Config) (st : Bool) (root : ℕ) (is : List ℕ) → walk_by (turn_by malformed entry_lead onward) c st root is ≡ walk c st root is
unfolding walk_by walk
walk_ours c st root is = ap (λ (k : Place → Walk Fault Place). hosted root >>= k) (λ j r. levels_ours c st c.levels r.0 true is j)

-- ---- the guest

-- each run begins so: the guest's frames are mapped, and its tables of levels 4, 3 and 2, in the guest frames 0, 1 and 2, lead to a 2 MiB page
-- of the guest frames from 0 on, for the addresses from 0x200000 on. Guest frame 4 begins with 0x77
begin : List Call
begin = all_mapped
    ++ (device_word 0 0x1003 ∷ device_word 0x1000 0x2003 ∷ device_word 0x2008 0x83 ∷ device_word 0x4000 0x77 ∷ [])

-- what has to be opened to compute a run
walking_on : ℕ
unfolding specifying after_by step_by say_step levels_by walk_by whole_step mapped begin
walking_on = 0

-- a unit that after such a beginning and the calls xs says one line to the call x, and the specification another
refuted : (u : MemoryUnit) (xs : List Call) (x : Call) (wrong right : Line) → (u.call x (after_by u (begin ++ xs) (u.opens memory 4 5 false false))).0 ≡ wrong
    → (step x (specified memory 4 5 false false (begin ++ xs))).0 ≡ right → T (not (equal (code wrong) (code right))) → Demand-3 u → ⊥
refuted u xs = refuted_after false u (begin ++ xs)

-- ---- the walk

-- an entry of level 4 with bit 7: a load says the word of guest frame 0, not M with level 4
pub ends_at_four_refuted : Demand-3 ends_at_four → ⊥
unfolding walking_on ends_at_four
ends_at_four_refuted = refuted ends_at_four (device_word 8 0x83 ∷ []) (load_word (2 ^ 39)) (value 0x1003 5 1) (fault 77 4 0 5 1) refl refl tt

-- a large entry of level 2 whose frame number is 1: a load says the word of guest frame 0, not M with level 2
pub low_bits_ignored_refuted : Demand-3 low_bits_ignored → ⊥
unfolding walking_on low_bits_ignored
low_bits_ignored_refuted = refuted low_bits_ignored (device_word 0x2010 0x1083 ∷ []) (load_word 0x400000) (value 0x1003 15 1) (fault 77 2 0 15 1) refl refl tt

-- a large entry of level 2 without the writable bit: a store says P with level 1, not with level 2
pub protected_at_one_refuted : Demand-3 protected_at_one → ⊥
unfolding walking_on protected_at_one
protected_at_one_refuted = refuted protected_at_one (device_word 0x2018 0x81 ∷ []) (store_word 0x600000 1) (fault 80 1 0 15 1) (fault 80 2 0 15 1) refl refl tt

-- ---- the depth

-- under a mark of level 2 a load of the 2 MiB page has depth 2: held, it says 0x1003 7 0. At depth 0 it says 0x1003 4 0
pub shallow_refuted : Demand-3 shallow → ⊥
unfolding walking_on shallow
shallow_refuted = refuted shallow (set_mark 0x200000 2 ∷ load_word 0x200000 ∷ []) (load_word 0x200000) (value 0x1003 4 0) (value 0x1003 7 0) refl refl tt

-- ---- one entry for the whole page

-- guest frame 3 is loaded from; then guest frame 4, whose first word was 0x77, is mapped to the host frame of guest frame 3, and loaded from: 0
pub whole_page_refuted : Demand-3 whole_page → ⊥
unfolding walking_on
whole_page_refuted = refuted whole_page (load_word 0x203000 ∷ map 4 12 true ∷ []) (load_word 0x204000) (value 0x77 4 1) (value 0 4 1) refl refl tt
