-- The search among the marks: after any run it finds the depth by the book's marks, and reads no more of them than it has to; what it
-- says of a record that breaks no rule, and of any. Document 02, 3).
-- Assumes nothing.
use mathlib.Core.Path.{◌≡◌, subst}
use Prim.Native.Nat.{ℕ, ◌^◌, ◌<◌, ◌≤◌}
use native.Mathlib.Omega.{arith}
use mathlib.Core.Bool.{Bool, true}
use mathlib.Core.List.{List}
use lib.Count.{ones}
use lib.ListN.{length}
use Rattle.spec.specs.Book.{depth}
use Rattle.spec.specs.Search.{search}
use Rattle.spec.specs.Call.{Call, address_indexes}
use Rattle.spec.specs.Run.{State, after, opened}
use Rattle.marks.proofs.Book.{sorted_fits, lookup_marks, depth_marks, depth_book}
use Rattle.marks.proofs.Lookup.{lookup_all, lookup_few, lookup_bounded}
use Rattle.record.specs.declared.Record.{Record}
use Rattle.record.specs.Record.{config_of, config_by, fits_of}
use Rattle.record.specs.Open.{refusal_of}
use Rattle.record.proofs.Rules.{fits_layout, fits_keys}
use Rattle.calls.specs.Calls.{lookup_at}
use Rattle.claims.specs.Run.{run_of}
use Rattle.claims.specs.Lookups.{marks_in, LooksUp}
use Rattle.claims.proofs.Invariant.{Inv}
use Rattle.claims.proofs.Moves.{inv_fits}
use Rattle.claims.proofs.Demands.{after_run, run_config}

-- ---- any record

-- on every record, a damaged one too, it says a level of three bits, and reads no mark that is not set
pub any_lookup : (r : Record) (a : ℕ) → r.guest.marks.set < 2 ^ 64 → ((lookup_at r a).depth ≤ 7) × ((lookup_at r a).read ≤ ones r.guest.marks.set)
any_lookup r a word = lookup_bounded r.layout.levels r.guest.marks a word

-- on one that breaks no rule, whatever the order of its marks, it is the specification's search, and finds the depth by its marks
pub sound_lookup : (r : Record) (len a : ℕ) → r.guest.marks.set < 2 ^ 64 → fits_of r len ≡ true
    → let is = address_indexes (config_of r) a in (lookup_at r a ≡ search r.layout.levels (marks_in r) is) × ((lookup_at r a).depth ≡ depth (marks_in r) is)
sound_lookup r len a word fits =
    let keys = fits_keys word (fits_layout r len fits) in
    (lookup_marks (config_of r) r.guest.marks a keys, depth_marks (config_of r) r.guest.marks a keys)

-- ---- a run
looks_up : (s : State) (r : Record) (m : List ℕ) → Inv s r m → (a : ℕ) → LooksUp (config_of r) s.book r a (lookup_at r a)
looks_up s r m inv a =
    let c = config_of r in
    let t = r.guest.marks in
    let small : r.layout.levels < 7 = omega (arith, (inv_fits inv).sizes.deep) in
    record {
      marks = inv.marks;
      searched = lookup_marks c t a (sorted_fits r.layout.levels t inv.sorted);
      deep = depth_book c t s.book small inv.sorted inv.marks a;
      all = lookup_all c t s.book small inv.sorted inv.marks a;
      few = lookup_few c t s.book small inv.sorted inv.marks a;
    }

-- Document 02, 3). After a granted opening on any memory, whatever it chooses, and any list of calls, for every address: the search is the
-- specification's among the record's marks in the order of their places, these are the book's, its depth is the book's, and it read all of
-- them or, with one of level N + 1, at most N + 1
pub run_lookup : (m : List ℕ) (h s : ℕ) (bits on : Bool) (xs : List Call) → refusal_of (length m) h s bits ≡ 0 → (a : ℕ)
    → let r = (run_of m h s bits on xs).result.unit in
    let c = config_by (length m) h s bits in
    LooksUp c (after xs (opened c on m)).book r a (lookup_at r a)
run_lookup m h s bits on xs g a =
    let u = run_of m h s bits on xs in
    let r = u.result.unit in
    let c = config_by (length m) h s bits in
    let t = after xs (opened c on m) in
    let k = after_run m h s bits on xs g in
    subst (λ x. LooksUp x t.book r a (lookup_at r a)) (run_config m h s bits on xs g) (looks_up t r u.memory k.1 a)
