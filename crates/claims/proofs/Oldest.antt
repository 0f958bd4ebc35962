-- Which automatic mark the unit's record has leave: after any run the oldest of those with the fewest charges. Document 02, 9).
-- Assumes nothing.
use mathlib.Core.Path.{◌≡◌, subst}
use Prim.Native.Nat.{ℕ}
use mathlib.Core.Bool.{Bool}
use mathlib.Core.List.{List, []}
use mathlib.Core.Option.{Option, none, some, map}
use lib.ListN.{length}
use Rattle.spec.specs.Call.{Call}
use Rattle.spec.specs.Run.{after, opened}
use Rattle.spec_laws.proofs.Charges.{IfSome}
use Rattle.spec_laws.proofs.Ages.{past_of, Oldest, oldest_leaves}
use Rattle.marks.proofs.Book.{sorted_fits}
use Rattle.choice.specs.declared.Choice.{Choice}
use Rattle.choice.specs.Order.{leaving_of}
use Rattle.choice.proofs.Automatic.{indexes_at}
use Rattle.choice.proofs.Chosen.{leaving_is}
use Rattle.record.specs.declared.Record.{Record}
use Rattle.record.specs.Record.{config_of, config_by}
use Rattle.record.specs.Open.{refusal_of}
use Rattle.claims.specs.Run.{run_of}
use Rattle.claims.proofs.Demands.{after_run}

if_made : {A B : Type 0} (P : B → Type 0) (f : A → B) (o : Option A) → IfSome P (map f o) → IfSome (λ a. P (f a)) o
if_made P f none h = tt
if_made P f (some a) h = h

-- the place of the mark that a record has leave where room is needed, by the definition that `choice::leaving` is proved equal to
abbrev pub leaving_in : Record → Option ℕ
leaving_in r =
    let x : Choice = r.guest.choice in
    leaving_of r.layout.levels x.ring x.tally x.order r.guest.marks.place

-- Document 02, 9). After a granted opening on any memory, whatever it chooses, and any list of calls: the mark at that place is an automatic mark of
-- the book with the fewest charges in its window, and each other one has more, or was set after it
pub run_oldest : (m : List ℕ) (h s : ℕ) (bits on : Bool) (xs : List Call) → refusal_of (length m) h s bits ≡ 0
    → let r = (run_of m h s bits on xs).result.unit in
    let o = opened (config_by (length m) h s bits) on m in
    let b = (after xs o).book in
    IfSome (λ i. Oldest b.window (past_of xs o []) b.automatic (indexes_at r.layout.levels r.guest.marks.place i)) (leaving_in r)
run_oldest m h s bits on xs g =
    let r = (run_of m h s bits on xs).result.unit in
    let c = config_by (length m) h s bits in
    let o = opened c on m in
    let b = (after xs o).book in
    let t = r.guest.marks in
    let inv = (after_run m h s bits on xs g).1 in
    let same = leaving_is (config_of r) r.guest.choice t b inv.chosen (sorted_fits r.layout.levels t inv.sorted) in
    if_made (Oldest b.window (past_of xs o []) b.automatic) (indexes_at r.layout.levels t.place) (leaving_in r)
    (subst (IfSome (Oldest b.window (past_of xs o []) b.automatic)) same (oldest_leaves c on m xs b.window))
