-- Searches among the marks that misread where to end or what to count: each is refused by the claim about lookups, in the record after a
-- few marks are set on a memory just opened; and a unit whose loads end their search too early, by demand 3.
-- Assumes nothing.
use mathlib.Core.Path.{◌≡◌, refl, sym, ap, ◌∙◌, subst}
use Prim.Native.Nat.{ℕ}
use native.Mathlib.Omega.{arith}
use mathlib.Core.Bool.{false}
use mathlib.Core.List.{List, [], ◌∷◌, ◌++◌}
use lib.ListN.{length}
use Rattle.spec.specs.declared.Lookup.{Lookup}
use Rattle.spec.specs.Answer.{value}
use Rattle.spec.specs.Search.{search}
use Rattle.spec.specs.Call.{Call, set_mark, clear_mark, load_word, address_indexes}
use Rattle.spec.specs.Run.{step}
use Rattle.spec.specs.Computing.{specifying}
use Rattle.record.specs.declared.Record.{Record}
use Rattle.record.specs.Record.{config_by}
use Rattle.calls.specs.Calls.{call_of}
use Rattle.claims.specs.Lookups.{marks_in}
use Rattle.wrong_units.specs.Unit.{after_by, specified, Demand-3, Searches, told, unit_by, cangrieb, Lookups}
use Rattle.wrong_units.specs.Wrong.{search_to, ends_at_n, loads_end_at_n, counts_places, last_not_counted}
use Rattle.wrong_units.proofs.Computing.{calling}
use Rattle.wrong_units.proofs.Mapped.{memory, grants, opens, opened_record, opened_words, first_record}
use Rattle.wrong_units.proofs.Filled.{mapped_words, other_maps}
use Rattle.wrong_units.proofs.Refute.{Comes, goes_on, refuted, begin, begins_at}

-- the record of ours after these calls on the memory just opened
abbrev left : List Call → Record
left ys = (after_by cangrieb ys (opened_record, opened_words)).0

-- the specification's search among the marks of a record
abbrev searched : Record → ℕ → Lookup
searched r a = let c = config_by (length memory) 4 4 false in search c.levels (marks_in r) (address_indexes c a)

-- a search that says something else there
not_found : (f : Searches) (ys : List Call) (a : ℕ) → (f (left ys) a ≡ searched (left ys) a → ⊥) → Lookups f → ⊥
unfolding Lookups after_by
not_found f ys a clash l = clash (subst (λ (e : Record × List ℕ). f e.0 a ≡ searched e.0 a) comes (l memory 4 4 false false ys (grants false) a).searched)
  where
    comes : Comes call_of ys (after_by cangrieb ys (opened_record, opened_words))
    comes = goes_on false false call_of [] ys (opened_record, opened_words) _ (ap (λ e. (told e).1) (opens false false)) refl

-- ---- marks of level 4 and 5: the search goes on after the first

abbrev both : List Call
both = set_mark 0 4 ∷ set_mark 0 5 ∷ []

ends_at_n_says : ends_at_n (left both) 0 ≡ record { depth = 4; read = 1 }
unfolding ends_at_n search_to after_by calling
ends_at_n_says = refl

both_right : searched (left both) 0 ≡ record { depth = 5; read = 2 }
unfolding after_by calling
both_right = refl

pub ends_at_n_refuted : Lookups ends_at_n → ⊥
ends_at_n_refuted = not_found ends_at_n both 0 (λ e. let z = ap (λ (f : Lookup). f.read) (sym ends_at_n_says ∙ e ∙ both_right) in omega arith)

-- its loads: at depth 5 a load reads 24 words, and at depth 4 it reads 20 and fills a path
loads_comes : Comes loads_end_at_n begin (first_record, mapped_words)
unfolding loads_end_at_n after_by
loads_comes = begins_at loads_end_at_n refl other_maps

loads_say : ((unit_by loads_end_at_n).call (load_word 0) (after_by (unit_by loads_end_at_n) both (first_record, mapped_words))).0 ≡ value 0x3003 20 1
unfolding loads_end_at_n ends_at_n search_to after_by calling
loads_say = refl

loads_right : (step (load_word 0) (specified memory 4 4 false false (begin ++ both))).0 ≡ value 0x3003 24 0
unfolding specifying
loads_right = refl

pub loads_end_at_n_refuted : Demand-3 (unit_by loads_end_at_n) → ⊥
loads_end_at_n_refuted = refuted loads_end_at_n begin both (load_word 0) (first_record, mapped_words) (value 0x3003 20 1) (value 0x3003 24 0) loads_comes loads_say loads_right tt

-- ---- a mark that was cleared leaves its place: only the mark of level 5, at the second one, is set and read

abbrev second : List Call
second = set_mark 0 1 ∷ set_mark 0 5 ∷ clear_mark 0 1 ∷ []

counts_places_says : counts_places (left second) 0 ≡ record { depth = 5; read = 2 }
unfolding counts_places after_by calling
counts_places_says = refl

second_right : searched (left second) 0 ≡ record { depth = 5; read = 1 }
unfolding after_by calling
second_right = refl

pub counts_places_refuted : Lookups counts_places → ⊥
counts_places_refuted = not_found counts_places second 0 (λ e. let z = ap (λ (f : Lookup). f.read) (sym counts_places_says ∙ e ∙ second_right) in omega arith)

-- ---- the mark that ends the search is one of those read

last_not_counted_says : last_not_counted (left second) 0 ≡ record { depth = 5; read = 0 }
unfolding last_not_counted after_by calling
last_not_counted_says = refl

pub last_not_counted_refuted : Lookups last_not_counted → ⊥
last_not_counted_refuted = not_found last_not_counted second 0 (λ e. let z = ap (λ (f : Lookup). f.read) (sym last_not_counted_says ∙ e ∙ second_right) in omega arith)
