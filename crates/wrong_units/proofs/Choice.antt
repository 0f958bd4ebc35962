-- Units that misread the automatic choice of marks (document 02, 7 and 9). Each is refused by demand 3, on a guest of zeros whose tables are mapped
-- and written by the run itself; three of them also by the claim that the choice is not seen.
-- Assumes nothing.
use mathlib.Core.Path.{◌≡◌, refl, sym, ap, ◌∙◌}
use Prim.Native.Nat.{ℕ, zero, suc, ◌*◌, ◌^◌}
use mathlib.Core.Bool.{true, false, not}
use mathlib.Core.List.{List, [], ◌∷◌, ◌++◌}
use mathlib.Core.Option.{Option, none, some}
use lib.Dec.{T}
use lib.ListN.{length}
use Rattle.spec.specs.Answer.{Line, ok, value, done, no}
use Rattle.spec.specs.Config.{Config}
use Rattle.spec.specs.Prefix.{same, any, keep}
use Rattle.spec.specs.Machine.{Machine}
use Rattle.spec.specs.Book.{Book}
use Rattle.spec.specs.Choice.{choosing, owned, room_for}
use Rattle.spec.specs.Call.{Call, root, map, unmap, set_mark, clear_mark, load, store, device, forecast, load_word, store_word, device_word}
use Rattle.spec.specs.Count.{book_step}
use Rattle.spec.specs.Refusal.{tests, refusal}
use Rattle.spec.specs.Run.{State, told, answered, step, run, opened}
use Rattle.spec.specs.Computing.{specifying}
use Rattle.spec.specs.Guest.{code, equal}
use Rattle.spec.specs.GuestChoice.{mapped, guest, times, low, high, charges, thrice, three, again}
use Rattle.spec.specs.Heard.{bare}
use Rattle.spec_laws.proofs.Lists.{all_map, keep_all, is_true}
use Rattle.spec_laws.proofs.Choice.{all_in}
use Rattle.record.specs.Record.{config_by}
use Rattle.claims.specs.Run.{machine_run}
use Rattle.wrong_units.specs.Unit.{MemoryUnit, run_by, after_by, specified, Demand-3, ChoiceUnseen}
use Rattle.wrong_units.specs.WrongChoice.{told_by, answered_by, step_by, keeping, our_enters, our_charges, load_choosing, store_choosing, faults_left_out, root_keeps_window, counted_before, to_the_highest, charged_for_overflow, devices_charge, exit_for_a_mark, never_leaves, order_step, ordering, our_order, lowest_leaves, newest_leaves, age_kept, set_refused, clear_refused, seven_too_early, automatic_is_set, clears_automatic}
use Rattle.wrong_units.proofs.Ours.{demand_3_unseen}
use Rattle.wrong_units.proofs.Refute.{unseen_last, differ}
use Rattle.wrong_units.proofs.Zeros.{memory, grants, all_mapped, refuted_after}

-- ---- with our own rules machine and book meet the demand: so what is refused below is the change

-- they say what the specification says
told_ours : (x : Call) (s : State) → told_by s (book_step s.config x s.machine s.book) x ≡ told x s
told_ours (root g) s = refl
told_ours (map g f w) s = refl
told_ours (unmap g) s = refl
told_ours (set_mark a n) s = refl
told_ours (clear_mark a n) s = refl
told_ours (load a w) s = refl
told_ours (store a w v) s = refl
told_ours (device a w v) s = refl
told_ours (forecast xs) s = refl

step_ours : (x : Call) (s : State) → step_by book_step refusal x s ≡ step x s
unfolding step_by step
step_ours x s = by (refusal s.config x s.machine s.book)
  where
    by : (n : Option ℕ) → answered_by x s (book_step s.config x s.machine s.book) n ≡ answered x s n
    by (some n) = refl
    by none = ap (λ l. (l, (answered x s none).1)) (told_ours x s)

run_ours : (xs : List Call) (s : State) → run_by (keeping book_step refusal) xs s ≡ machine_run (run xs s)
unfolding run_by run
run_ours [] s = refl
run_ours (x ∷ xs) s =
    ap (λ (o : Line × State). (o.0, o.1.machine.area) ∷ run_by (keeping book_step refusal) xs o.1) (step_ours x s)
    ∙ ap (λ os. ((step x s).0, (step x s).1.machine.area) ∷ os) (run_ours xs (step x s).1)

pub keeping_ours : Demand-3 (keeping book_step refusal)
unfolding Demand-3
keeping_ours m h s bits on xs g = run_ours xs (opened (config_by (length m) h s bits) on m)

-- brought into our own order the automatic marks stay as they are
order_ours : (xs : List Call) (s : State) (before : List (List ℕ)) → run_by (ordering our_order) xs (s, before) ≡ machine_run (run xs s)
unfolding run_by run order_step
order_ours [] s before = refl
order_ours (x ∷ xs) s before =
    let t = (step x s).1 in
    let ps = t.book.automatic in
    let same-marks : keep (λ p. any (same p) ps) ps ≡ ps = keep_all (λ p. any (same p) ps) ps (all_map _ _ ps (λ p h. is_true (any (same p) ps) h) (all_in ps)) in
    let with-marks : List (List ℕ) → State = λ qs. record { config = t.config; machine = t.machine; book = choosing t.book qs t.book.window } in
    ap (λ qs. ((step x s).0, t.machine.area) ∷ run_by (ordering our_order) xs (with-marks qs, ps)) same-marks
    ∙ ap (λ os. ((step x s).0, t.machine.area) ∷ os) (order_ours xs t ps)

pub ordering_ours : Demand-3 (ordering our_order)
unfolding Demand-3
ordering_ours m h s bits on xs g = order_ours xs (opened (config_by (length m) h s bits) on m) []

-- nor is the choice seen in them
pub keeping_unseen : ChoiceUnseen (keeping book_step refusal)
keeping_unseen = demand_3_unseen (keeping book_step refusal) keeping_ours

-- and what takes an argument for the change is ours with our own argument
pub load_choosing_ours : (c : Config) (a w : ℕ) (m : Machine) (b : Book) → load_choosing our_enters c a w m b ≡ book_step c (load a w) m b
unfolding load_choosing book_step
load_choosing_ours c a w m b = refl

pub store_choosing_ours : (c : Config) (a w v : ℕ) (m : Machine) (b : Book) → store_choosing our_enters our_charges c a w v m b ≡ book_step c (store a w v) m b
unfolding store_choosing book_step
store_choosing_ours c a w v m b = refl

pub set_refused_ours : (c : Config) (a n : ℕ) (m : Machine) (b : Book) → set_refused owned room_for c a n m b ≡ refusal c (set_mark a n) m b
unfolding set_refused refusal tests
set_refused_ours c a n m b = refl

pub clear_refused_ours : (c : Config) (a n : ℕ) (m : Machine) (b : Book) → clear_refused owned c a n m b ≡ refusal c (clear_mark a n) m b
unfolding clear_refused refusal tests
clear_refused_ours c a n m b = refl

-- ---- the guest

-- each run begins so: the guest's frames are mapped, and its tables are written by device stores
begin : List Call
begin = all_mapped ++ guest

-- n marks of the operator's, at prefixes that the guest does not use
operators : ℕ → List Call
operators zero = []
operators (suc n) = operators n ++ (set_mark (suc n * 2 ^ 39) 1 ∷ [])

-- (0, 0, 0) has an automatic mark beside them; with 63 of them the table is full
beside : ℕ → List Call
beside n = charges 3 ++ operators n

-- what has to be opened to compute a run
booking : ℕ
unfolding specifying after_by step_by load_choosing store_choosing order_step set_refused clear_refused mapped guest times low high charges thrice three again begin operators beside
booking = 0

-- a unit that after such a beginning and the calls xs says one line to the call x, and the specification another
refuted : (u : MemoryUnit) (xs : List Call) (x : Call) (wrong right : Line) → (u.call x (after_by u (begin ++ xs) (u.opens memory 4 5 false true))).0 ≡ wrong
    → (step x (specified memory 4 5 false true (begin ++ xs))).0 ≡ right → T (not (equal (code wrong) (code right))) → Demand-3 u → ⊥
refuted u xs = refuted_after true u (begin ++ xs)

-- ---- the window

-- two charges, a load of 0, 60 faults, and a third charge, as the first leaves the window: there is no mark. With the faults left out of it
-- there is, and a load of 0 says 0 8 1, not 0 4 1
pub faults_left_out_refuted : Demand-3 faults_left_out → ⊥
unfolding booking faults_left_out
faults_left_out_refuted =
    refuted faults_left_out (charges 2 ++ (load_word 0 ∷ times 60 (load_word (2 ^ 39) ∷ []) ++ (low ∷ []))) (load_word 0) (value 0 8 1) (value 0 4 1) refl refl tt

-- two charges, a root load, and a third charge, the only one in the window: a load of 0 says 0 8 1, not 0 4 1
pub root_keeps_window_refuted : Demand-3 root_keeps_window → ⊥
unfolding booking root_keeps_window
root_keeps_window_refuted = refuted root_keeps_window (charges 2 ++ (root 0 ∷ load_word 0 ∷ low ∷ [])) (load_word 0) (value 0 8 1) (value 0 4 1) refl refl tt

-- three charges, and no mark before a fourth: a load of 0 says 0 4 1, not 0 8 1
pub counted_before_refuted : Demand-3 counted_before → ⊥
unfolding booking counted_before
counted_before_refuted = refuted counted_before (charges 3) (load_word 0) (value 0 4 1) (value 0 8 1) refl refl tt

-- ---- charges

-- three stores drop a path of (0, 0, 0) and one of (0, 0, 1) each: the mark goes to (0, 0, 1), and a load of 0 says 0 4 1, not 0 8 1
pub to_the_highest_refuted : Demand-3 to_the_highest → ⊥
unfolding booking to_the_highest
to_the_highest_refuted =
    refuted to_the_highest (times 3 (load_word 0 ∷ load_word 0x200000 ∷ low ∷ [])) (load_word 0) (value 0 4 1) (value 0 8 1) refl refl tt

-- two charges to (0, 0, 1), by stores to the entry that they come by, which leave no path; then paths of (0, 0, 1) and (0, 0, 2), for which a
-- store by (0, 0, 0) finds no table left: its fill drops both, and nobody is charged. As a third charge it makes a mark: a load of 0x200000
-- says 0 8 1, not 0 4 1
pub charged_for_overflow_refuted : Demand-3 charged_for_overflow → ⊥
unfolding booking charged_for_overflow
charged_for_overflow_refuted =
    refuted charged_for_overflow (times 2 (store_word 0x204020 0x3003 ∷ []) ++ (load_word 0x200000 ∷ load_word 0x400000 ∷ low ∷ [])) (load_word 0x200000) (value 0 8 1) (value 0 4 1) refl refl tt

-- three device stores to the entry that a load of 0 reads: the fourth load says 0 8 1, not 0 4 1
pub devices_charge_refuted : Demand-3 devices_charge → ⊥
unfolding booking devices_charge
devices_charge_refuted =
    refuted devices_charge (times 3 (load_word 0 ∷ device_word 0x3000 0x4003 ∷ [])) (load_word 0) (value 0 8 1) (value 0 4 1) refl refl tt

-- ---- automatic marks

-- two charges, and a third, which sets the mark: the store says done 4 2, not 4 1
pub exit_for_a_mark_refuted : Demand-3 exit_for_a_mark → ⊥
unfolding booking exit_for_a_mark
exit_for_a_mark_refuted = refuted exit_for_a_mark (charges 2 ++ (load_word 0 ∷ [])) low (done 4 2) (done 4 1) refl refl tt

-- the table is full, one of its marks is automatic; three charges to (0, 0, 1) make that one leave. If it stays, a load of 0x200000 says 0 4 1,
-- not 0 8 1
pub never_leaves_refuted : Demand-3 never_leaves → ⊥
unfolding booking never_leaves
never_leaves_refuted =
    refuted never_leaves (beside 63 ++ times 3 (load_word 0x200000 ∷ low ∷ [])) (load_word 0x200000) (value 0 4 1) (value 0 8 1) refl refl tt

-- (0, 0, 1), (0, 0, 0) and (0, 0, 2) have automatic marks, set in that order, with three charges each; the last of 62 marks of the operator's finds
-- the table full, and the first of the three leaves: a load of 0x200000 says 0 4 1. If the lowest leaves, or the newest, it says 0 8 0
pub lowest_leaves_refuted : Demand-3 lowest_leaves → ⊥
unfolding booking lowest_leaves
lowest_leaves_refuted = refuted lowest_leaves (three ++ operators 62) (load_word 0x200000) (value 0 8 0) (value 0 4 1) refl refl tt

pub newest_leaves_refuted : Demand-3 newest_leaves → ⊥
unfolding booking newest_leaves
newest_leaves_refuted = refuted newest_leaves (three ++ operators 62) (load_word 0x200000) (value 0 8 0) (value 0 4 1) refl refl tt

-- but that first one was cleared and set again, and none has a charge: it stays, and a load of 0x200000 says 0 8 1. With its old age it leaves
pub age_kept_refuted : Demand-3 age_kept → ⊥
unfolding booking age_kept
age_kept_refuted = refuted age_kept (three ++ again ++ operators 62) (load_word 0x200000) (value 0 4 1) (value 0 8 1) refl refl tt

-- ---- the operator's marks among them

-- the table is full, one of its marks is automatic: one mark more is no 7, not ok
pub seven_too_early_refuted : Demand-3 seven_too_early → ⊥
unfolding booking seven_too_early
seven_too_early_refuted = refuted seven_too_early (beside 63) (set_mark (2 ^ 46) 1) (no 7) ok refl refl tt

-- the operator sets the automatic mark of (0, 0, 0): no 6, not ok
pub automatic_is_set_refuted : Demand-3 automatic_is_set → ⊥
unfolding booking automatic_is_set
automatic_is_set_refuted = refuted automatic_is_set (charges 3) (set_mark 0 1) (no 6) ok refl refl tt

-- the operator clears it: ok, not no 6
pub clears_automatic_refuted : Demand-3 clears_automatic → ⊥
unfolding booking clears_automatic
clears_automatic_refuted = refuted clears_automatic (charges 3) (clear_mark 0 1) ok (no 6) refl refl tt

-- ---- these three are seen: after the same calls with the choice off, which makes no mark, they say what the specification says

seen : (u : MemoryUnit) (xs : List Call) (x : Call) (on off : Line) → (u.call x (after_by u (begin ++ xs) (u.opens memory 4 5 false true))).0 ≡ on
    → (u.call x (after_by u (begin ++ xs) (u.opens memory 4 5 false false))).0 ≡ off → T (not (equal (code (bare on)) (code (bare off)))) → ChoiceUnseen u → ⊥
seen u xs x on off p q t d = differ (bare on) (bare off) t (ap bare (sym p) ∙ unseen_last u d memory 4 5 false (begin ++ xs) x grants ∙ ap bare q)

-- one mark beside 63: no 7 with the choice on, ok with it off
pub seven_too_early_seen : ChoiceUnseen seven_too_early → ⊥
unfolding booking seven_too_early
seven_too_early_seen = seen seven_too_early (beside 63) (set_mark (2 ^ 46) 1) (no 7) ok refl refl tt

-- a mark at (0, 0, 0) set: no 6 and ok
pub automatic_is_set_seen : ChoiceUnseen automatic_is_set → ⊥
unfolding booking automatic_is_set
automatic_is_set_seen = seen automatic_is_set (charges 3) (set_mark 0 1) (no 6) ok refl refl tt

-- and cleared: ok and no 6
pub clears_automatic_seen : ChoiceUnseen clears_automatic → ⊥
unfolding booking clears_automatic
clears_automatic_seen = seen clears_automatic (charges 3) (clear_mark 0 1) ok (no 6) refl refl tt
