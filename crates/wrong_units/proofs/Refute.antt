-- How a run refuses a unit: by the line of its last call.
-- Assumes nothing.
use mathlib.Core.Path.{◌≡◌, refl, sym, ap, ◌∙◌, subst}
use Prim.Native.Nat.{ℕ, ◌^◌}
use mathlib.Core.Bool.{Bool, true, false, not}
use mathlib.Core.List.{List, [], ◌∷◌, ◌++◌}
use mathlib.Core.Option.{none}
use lib.Dec.{T, eqb, eqb_refl}
use lib.ListN.{length}
use Rattle.spec.specs.declared.Answer.{Answer}
use Rattle.spec.specs.Answer.{Line, ok, value, line}
use Rattle.spec.specs.Entry.{word_of}
use Rattle.spec.specs.Bytes.{bytes_at}
use Rattle.spec.specs.Call.{Call, map, set_mark, load, load_word}
use Rattle.spec.specs.Guest.{code, equal}
use Rattle.spec.specs.Run.{State, step, run, after, opened}
use Rattle.spec_laws.proofs.Lists.{both, not_both}
use Rattle.spec.specs.Heard.{bare}
use Rattle.entry.specs.declared.HostPhysical.{HostPhysical}
use Rattle.words.specs.Words as words
use Rattle.walk.specs.declared.Walked.TheVariants as walked
use Rattle.record.specs.declared.Record.{Record}
use Rattle.record.specs.Record.{config_by}
use Rattle.record.specs.Open.{refusal_of}
use Rattle.calls.specs.Calls.{call_of}
use Rattle.claims.specs.Run.{machine_run, heard_unit}
use Rattle.claims.specs.Plain.{plain_walk, with_own, reads_of, AsWalked, Unrefused}
use Rattle.wrong_units.specs.Unit.{MemoryUnit, run_by, after_by, specified, Demand-3, Demand-2, ChoiceUnseen, Calls, told, unit_by}
use Rattle.wrong_units.proofs.Mapped.{memory, grants, opens, opened_by, opened_record, opened_words, first_by, first_record, tables, first_map}
use Rattle.wrong_units.proofs.Filled.{others, mapped_words, marked, held_record, held_words, fills}

-- ---- the line of the last call

last_of : Line → List (Line × List ℕ) → Line
last_of l [] = l
last_of l (o ∷ os) = last_of o.0 os

run_last : (u : MemoryUnit) (xs : List Call) (x : Call) (s : u.Inner) (l : Line) → last_of l (run_by u (xs ++ (x ∷ [])) s) ≡ (u.call x (after_by u xs s)).0
unfolding last_of run_by after_by
run_last u [] x s l = refl
run_last u (y ∷ ys) x s l = run_last u ys x (u.call y s).1 (u.call y s).0

step_last : (xs : List Call) (x : Call) (s : State) (l : Line) → last_of l (machine_run (run (xs ++ (x ∷ [])) s)) ≡ (step x (after xs s)).0
unfolding last_of run after
step_last [] x s l = refl
step_last (y ∷ ys) x s l = step_last ys x (step y s).1 (step y s).0

-- what demand 3 says of it
pub demand_last : (u : MemoryUnit) → Demand-3 u → (m : List ℕ) (h s : ℕ) (bits on : Bool) (xs : List Call) (x : Call) → refusal_of (length m) h s bits ≡ 0
    → (u.call x (after_by u xs (u.opens m h s bits on))).0 ≡ (step x (specified m h s bits on xs)).0
unfolding Demand-3
demand_last u d m h s bits on xs x g =
    sym (run_last u xs x (u.opens m h s bits on) ok) ∙ ap (last_of ok) (d m h s bits on (xs ++ (x ∷ [])) g) ∙ step_last xs x (opened (config_by (length m) h s bits) on m) ok

heard_last : (os : List (Line × List ℕ)) (l : Line) → last_of (bare l) (heard_unit os) ≡ bare (last_of l os)
unfolding last_of
heard_last [] l = refl
heard_last (o ∷ os) l = heard_last os o.0

-- and what it is to be heard alike with the choice on and off
pub unseen_last : (u : MemoryUnit) → ChoiceUnseen u → (m : List ℕ) (h s : ℕ) (bits : Bool) (xs : List Call) (x : Call) → refusal_of (length m) h s bits ≡ 0
    → bare (u.call x (after_by u xs (u.opens m h s bits true))).0 ≡ bare (u.call x (after_by u xs (u.opens m h s bits false))).0
unfolding ChoiceUnseen
unseen_last u d m h s bits xs x g = sym (by true) ∙ ap (last_of ok) (d m h s bits (xs ++ (x ∷ [])) g) ∙ by false
  where
    by : (on : Bool) → last_of ok (heard_unit (run_by u (xs ++ (x ∷ [])) (u.opens m h s bits on))) ≡ bare (u.call x (after_by u xs (u.opens m h s bits on))).0
    by on = heard_last (run_by u (xs ++ (x ∷ [])) (u.opens m h s bits on)) ok ∙ ap bare (run_last u xs x (u.opens m h s bits on) ok)

-- ---- two lines that differ

equal_refl : (xs : List ℕ) → T (equal xs xs)
equal_refl [] = tt
equal_refl (x ∷ xs) = both (eqb x x) (equal xs xs) (eqb_refl x) (equal_refl xs)

pub differ : (k l : Line) → T (not (equal (code k) (code l))) → k ≡ l → ⊥
differ k l t p = not_both (equal (code k) (code k)) (equal_refl (code k)) (subst (λ x. T (not (equal (code k) (code x)))) (sym p) t)

-- ---- on the small guest

-- where a table of calls leaves the unit after an opening with these choices and these calls
abbrev pub ComesBy : Bool → Bool → Calls → List Call → Record × List ℕ → Type 0
ComesBy bits on f xs s = after_by (unit_by f) xs ((unit_by f).opens memory 4 4 bits on) ≡ s

-- with bits off, and no automatic choice
abbrev pub Comes : Calls → List Call → Record × List ℕ → Type 0
Comes f xs s = ComesBy false false f xs s

after_append : (u : MemoryUnit) (xs ys : List Call) (s : u.Inner) → after_by u (xs ++ ys) s ≡ after_by u ys (after_by u xs s)
unfolding after_by
after_append u [] ys s = refl
after_append u (x ∷ xs) ys s = after_append u xs ys (u.call x s).1

-- on from where it came
pub goes_on : (bits on : Bool) (f : Calls) (xs ys : List Call) (s t : Record × List ℕ) → ComesBy bits on f xs s → after_by (unit_by f) ys s ≡ t → ComesBy bits on f (xs ++ ys) t
goes_on bits on f xs ys s t c e = after_append (unit_by f) xs ys ((unit_by f).opens memory 4 4 bits on) ∙ ap (after_by (unit_by f) ys) c ∙ e

-- a unit that after the calls xs and then ys says one line to the call x, and the specification another; s is where it is after xs
pub refuted_by : (bits on : Bool) (f : Calls) (xs ys : List Call) (x : Call) (s : Record × List ℕ) (wrong right : Line) → ComesBy bits on f xs s
    → ((unit_by f).call x (after_by (unit_by f) ys s)).0 ≡ wrong → (step x (specified memory 4 4 bits on (xs ++ ys))).0 ≡ right
    → T (not (equal (code wrong) (code right))) → Demand-3 (unit_by f) → ⊥
refuted_by bits on f xs ys x s wrong right c w r t d =
    differ wrong right t
    (sym (ap (λ e. ((unit_by f).call x e).0) (goes_on bits on f xs ys s (after_by (unit_by f) ys s) c refl) ∙ w)
    ∙ demand_last (unit_by f) d memory 4 4 bits on (xs ++ ys) x (grants bits) ∙ r)

pub refuted : (f : Calls) (xs ys : List Call) (x : Call) (s : Record × List ℕ) (wrong right : Line) → Comes f xs s
    → ((unit_by f).call x (after_by (unit_by f) ys s)).0 ≡ wrong → (step x (specified memory 4 4 false false (xs ++ ys))).0 ≡ right
    → T (not (equal (code wrong) (code right))) → Demand-3 (unit_by f) → ⊥
refuted = refuted_by false false

-- right after the opening
pub refuted_opened_by : (bits on : Bool) (f : Calls) (ys : List Call) (x : Call) (wrong right : Line)
    → ((unit_by f).call x (after_by (unit_by f) ys (opened_by bits on, opened_words))).0 ≡ wrong → (step x (specified memory 4 4 bits on ys)).0 ≡ right
    → T (not (equal (code wrong) (code right))) → Demand-3 (unit_by f) → ⊥
unfolding after_by
refuted_opened_by bits on f ys x wrong right = refuted_by bits on f [] ys x (opened_by bits on, opened_words) wrong right (ap (λ e. (told e).1) (opens bits on))

pub refuted_opened : (f : Calls) (ys : List Call) (x : Call) (wrong right : Line)
    → ((unit_by f).call x (after_by (unit_by f) ys (opened_record, opened_words))).0 ≡ wrong → (step x (specified memory 4 4 false false ys)).0 ≡ right
    → T (not (equal (code wrong) (code right))) → Demand-3 (unit_by f) → ⊥
refuted_opened = refuted_opened_by false false

-- a unit whose load of w bytes there is not refused and does not yield u, which stands where the plain walk over its memory comes to, in
-- host frame t
pub not_as_walked : (f : Calls) (xs ys : List Call) (a w u : ℕ) (s : Record × List ℕ) (t : HostPhysical) (y : Bool) (k : ℕ) (x : Answer) → Comes f xs s
    → let e : Record × List ℕ = after_by (unit_by f) ys s in
    (f (load a w) e.0 e.1).result.answer ≡ x → Unrefused x → plain_walk e.0 e.1 false a ≡ walked.Arrived y t k → bytes_at a w (words.word_in (with_own e.0 e.1 false a) t.0 (word_of a)) ≡ u
    → ((n c : ℕ) → line x ≡ value u n c → ⊥) → Demand-2 f → ⊥
unfolding Demand-2
not_as_walked f xs ys a w u s t y k x c p q r o clash d =
    let e = after_by (unit_by f) ys s in
    let l = subst Walks (goes_on false false f xs ys s e c refl) (d memory 4 4 false false (xs ++ ys) (grants false) a w none) (subst Unrefused (sym p) q) in
    let g = subst (AsWalked e.0 e.1 a w none (f (load a w) e.0 e.1)) r l in
    let n : ℕ = reads_of e.0 e.1 false a in
    clash n g.exits (ap line (sym p) ∙ g.says ∙ ap (λ v. value v n g.exits) o)
  where
    Walks : Record × List ℕ → Type 0
    Walks e = Unrefused (f (load a w) e.0 e.1).result.answer → AsWalked e.0 e.1 a w none (f (load a w) e.0 e.1) (plain_walk e.0 e.1 false a)

-- the four frames are mapped
abbrev pub begin : List Call
begin = map 0 8 true ∷ others

-- a unit whose first map is ours, and which then maps the others
pub begins_by : (bits on : Bool) (f : Calls) → (told (f (map 0 8 true) (opened_by bits on) opened_words)).1 ≡ (told (call_of (map 0 8 true) (opened_by bits on) opened_words)).1
    → after_by (unit_by f) others (first_by bits on, tables []) ≡ (first_by bits on, mapped_words) → ComesBy bits on f begin (first_by bits on, mapped_words)
unfolding after_by
begins_by bits on f p q =
    ap (λ e. after_by (unit_by f) begin (told e).1) (opens bits on)
    ∙ ap (after_by (unit_by f) others) (p ∙ ap (λ e. (told e).1) (first_map bits on))
    ∙ q

pub begins_at : (f : Calls) → (told (f (map 0 8 true) opened_record opened_words)).1 ≡ (told (call_of (map 0 8 true) opened_record opened_words)).1
    → after_by (unit_by f) others (first_record, tables []) ≡ (first_record, mapped_words) → Comes f begin (first_record, mapped_words)
begins_at = begins_by false false

-- marks of level 3 at two addresses, and a load through the first: its path is held
abbrev pub hold : List Call
hold = set_mark 0 3 ∷ set_mark (2 ^ 39) 3 ∷ load_word 0 ∷ []

-- a unit that sets the marks, and whose load is ours
pub holds_at : (f : Calls) → after_by (unit_by f) (set_mark 0 3 ∷ set_mark (2 ^ 39) 3 ∷ []) (first_record, mapped_words) ≡ (marked, mapped_words)
    → (told (f (load_word 0) marked mapped_words)).1 ≡ (told (call_of (load_word 0) marked mapped_words)).1
    → Comes f begin (first_record, mapped_words) → Comes f (begin ++ hold) (held_record, held_words)
unfolding after_by
holds_at f p q c =
    goes_on false false f begin hold (first_record, mapped_words) (held_record, held_words) c
    (ap (λ (e : Record × List ℕ). (told (f (load_word 0) e.0 e.1)).1) p ∙ q ∙ ap (λ e. (told e).1) fills)
