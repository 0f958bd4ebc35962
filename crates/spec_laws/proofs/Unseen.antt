-- The automatic choice changes no value, fault or refusal: a call is answered by the machine and by the operator's marks, which are those of
-- the same calls with the choice off. Only references, exits and the figures of a forecast go by the automatic marks too.
-- Assumes nothing.
use mathlib.Core.Path.{◌≡◌, refl, sym, ap, ap₂, ◌∙◌, subst}
use Prim.Native.Nat.{ℕ, ◌<◌}
use native.Mathlib.Omega.{arith}
use mathlib.Core.Bool.{Bool, true, false, not, ◌||◌, or-true}
use mathlib.Core.List.{List, [], ◌∷◌}
use mathlib.Core.Option.{Option, none, some}
use lib.Dec.{leb, leb→le}
use lib.ListN.{length}
use Rattle.spec.specs.declared.Fault.{Fault}
use Rattle.spec.specs.Answer.{Line}
use Rattle.spec.specs.Config.{Config}
use Rattle.spec.specs.Entry.{word_of}
use Rattle.spec.specs.Prefix.{keep}
use Rattle.spec.specs.Walk.{Result}
use Rattle.spec.specs.Plain.{Place}
use Rattle.spec.specs.Machine.{Machine}
use Rattle.spec.specs.Book.{Mark, Book, Window, mark_at, same_mark, is_set}
use Rattle.spec.specs.Choice.{charge_of, leaf_mark, is_automatic, owned, leaving, is_some}
use Rattle.spec.specs.Call as call
use Rattle.spec.specs.Call.{Call, Outcome, root, map, unmap, set_mark, clear_mark, load, store, device, forecast, address_indexes, verdict, machine_step}
use Rattle.spec.specs.Count.{Counted, request_depth, request, storing, book_step}
use Rattle.spec.specs.Refusal.{first_failed, address_fits, level_fits, tests, refusal}
use Rattle.spec.specs.Run.{State, line_of, told, answered, step, run, opened}
use Rattle.spec.specs.Heard.{bare}
use Rattle.spec_laws.proofs.Lists.{all_any, keep_all, or_left, is_false}
use Rattle.spec_laws.proofs.Charges.{IfSome, bare_unset}
use Rattle.spec_laws.proofs.Choice.{keep_fewer, any_map, owned_observed, owned_operated, owned_unmarking}
use Rattle.spec_laws.proofs.Runs.{BookFits, request_book, stored_book, request_keeps, step_config, step_fits, opened_fits}
use Rattle.spec_laws.proofs.Rules.{MarkRules, BookRules, ChargeRules, stored_charge, request_rules, step_rules, opened_rules}

-- ---- the refusals go by the operator's marks alone

-- a book with these of the operator's marks and nothing else
abbrev pub manual : List Mark → Book
manual ms = record { marks = ms; held = []; automatic = []; window = []; choice = false }

pub owned_manual : (ms : List Mark) → owned (manual ms) ≡ ms
owned_manual ms = keep_all (λ x. true) ms (all_any (λ x. true ≡ true) ms (λ x. refl))

-- 7 applies exactly where the operator's marks alone fill the table
room_owned : (c : Config) (w : Window) (ms : List Mark) (ps : List (List ℕ)) → MarkRules c ms ps
    → (not (leb c.mark_room (length ms)) || is_some (leaving w ps)) ≡ (not (leb c.mark_room (length (keep (λ x. not (is_automatic ps x)) ms))) || false)
room_owned c w ms [] i = ap (λ l. not (leb c.mark_room (length l)) || false) (sym (owned_manual ms))
room_owned c w ms (p ∷ ps) i =
    let own = keep (λ x. not (is_automatic (p ∷ ps) x)) ms in
    let l : length own < length ms = keep_fewer (is_automatic (p ∷ ps)) ms
    (any_map (same_mark (leaf_mark p)) (is_automatic (p ∷ ps)) ms (λ y t. or_left (same_mark (leaf_mark p) y) (is_automatic ps y) t) i.set.0) in
    let f : leb c.mark_room (length own) ≡ false = is_false _ (λ t. let k = leb→le c.mark_room (length own) t in absurd (omega (arith, i.few))) in
    or-true (not (leb c.mark_room (length ms))) ∙ ap (λ t. not t || false) (sym f)

pub tests_owned : (c : Config) (x : Call) (m : Machine) (b : Book) → BookRules c b → tests c x m b ≡ tests c x m (manual (owned b))
unfolding tests
tests_owned c (root r) m b i = refl
tests_owned c (map g f w) m b i = refl
tests_owned c (unmap g) m b i = refl
tests_owned c (set_mark a n) m b i =
    ap₂ (λ ms r. (address_fits c a, 4) ∷ (level_fits c n, 5) ∷ (not (is_set (mark_at c n (address_indexes c a)) ms), 6) ∷ (r, 7) ∷ []) (sym (owned_manual (owned b)))
    (room_owned c b.window b.marks b.automatic i.marks)
tests_owned c (clear_mark a n) m b i =
    ap (λ ms. (address_fits c a, 4) ∷ (level_fits c n, 5) ∷ (is_set (mark_at c n (address_indexes c a)) ms, 6) ∷ []) (sym (owned_manual (owned b)))
tests_owned c (load a w) m b i = refl
tests_owned c (store a w v) m b i = refl
tests_owned c (device a w v) m b i = refl
tests_owned c (forecast xs) m b i = refl

pub refusal_owned : (c : Config) (x : Call) (m : Machine) (b : Book) → BookRules c b → refusal c x m b ≡ refusal c x m (manual (owned b))
unfolding refusal
refusal_owned c x m b i = ap first_failed (tests_owned c x m b i)

-- ---- what a call does to the operator's marks

abbrev pub owned_after : Config → Call → List Mark → List Mark
owned_after c (root r) ms = ms
owned_after c (map g f w) ms = ms
owned_after c (unmap g) ms = ms
owned_after c (set_mark a n) ms = mark_at c n (address_indexes c a) ∷ ms
owned_after c (clear_mark a n) ms = keep (λ y. not (same_mark (mark_at c n (address_indexes c a)) y)) ms
owned_after c (load a w) ms = ms
owned_after c (store a w v) ms = ms
owned_after c (device a w v) ms = ms
owned_after c (forecast xs) ms = ms

-- a request changes the held paths alone
request_owned : (c : Config) (m : Machine) (b : Book) (st : Bool) (a d : ℕ) → owned (request c m b st a d).book ≡ owned b
request_owned c m b st a d = request_book (λ k. owned k ≡ owned b) c m b st a d refl (λ r l e g. refl)

storing_owned : (i : ℕ) (r : Result Fault Place) (k : Counted) → owned (storing i r k).book ≡ owned k.book
storing_owned i r k = stored_book (λ b. owned b ≡ owned k.book) i r k refl (λ t. refl)

pub owned_step : (c : Config) (x : Call) (m : Machine) (b : Book) → BookFits c b → BookRules c b → owned (book_step c x m b).book ≡ owned_after c x (owned b)
unfolding book_step
owned_step c (root r) m b f i = refl
owned_step c (map g h w) m b f i = refl
owned_step c (unmap g) m b f i = refl
owned_step c (set_mark a n) m b f i = owned_operated c (mark_at c n (address_indexes c a)) b
owned_step c (clear_mark a n) m b f i = owned_unmarking (mark_at c n (address_indexes c a)) b
owned_step c (load a w) m b f i = owned_observed c none _ tt ∙ request_owned c m b false a _
owned_step c (store a w v) m b f i =
    let k = request c m b true a (request_depth c m b a) in
    let r = verdict c m true a in
    owned_observed c (charge_of c (word_of a) r k.book.held) _
    (unset _ (charge_of c (word_of a) r k.book.held) (stored_charge c (word_of a) r k (request_keeps c m b true a f) (request_rules c m b true a _ i)))
    ∙ storing_owned (word_of a) r k ∙ request_owned c m b true a _
  where
    unset : (ms : List Mark) (o : Option (List ℕ)) → IfSome (ChargeRules c ms) o → IfSome (λ p. is_set (leaf_mark p) ms ≡ false) o
    unset ms none h = tt
    unset ms (some p) h = bare_unset ms p h.bare
owned_step c (device a w v) m b f i = storing_owned (word_of a) _ _
owned_step c (forecast xs) m b f i = refl

-- ---- a run as it is heard

-- what is heard at a call, and the machine after it
abbrev pub heard_at : Line × State → Line × Machine
heard_at o = (bare o.0, o.1.machine)

abbrev pub heard : List (Line × State) → List (Line × Machine)
heard [] = []
heard (o ∷ os) = heard_at o ∷ heard os

-- the machine with the operator's marks: no held path, no automatic mark, no window
abbrev pub alone : Config → Machine → List Mark → State
alone c m ms = record { config = c; machine = m; book = manual ms }

abbrev pub marks_by : Config → Call → List Mark → Option ℕ → List Mark
marks_by c x ms (some n) = ms
marks_by c x ms none = owned_after c x ms

-- its run, each call on a book with nothing but these marks
unfoldable pub spoken : Config → List Call → Machine → List Mark → List (Line × Machine)
spoken c [] m ms = []
spoken c (x ∷ xs) m ms =
    let o : Line × Machine = heard_at (step x (alone c m ms)) in
    o ∷ spoken c xs o.1 (marks_by c x ms (refusal c x m (manual ms)))

bare_line : (o : Outcome) (r e t u : ℕ) → bare (line_of o r e) ≡ bare (line_of o t u)
bare_line call.ok r e t u = refl
bare_line call.done r e t u = refl
bare_line (call.value v) r e t u = refl
bare_line (call.fault x) r e t u = refl

-- so heard, a line does not go by the book
bare_told : (x : Call) (s : State) (b : Book) → bare (told x s) ≡ bare (told x (record { config = s.config; machine = s.machine; book = b }))
bare_told (root g) s b = bare_line (machine_step s.config (root g) s.machine).0 _ _ _ _
bare_told (map g f w) s b = bare_line (machine_step s.config (map g f w) s.machine).0 _ _ _ _
bare_told (unmap g) s b = bare_line (machine_step s.config (unmap g) s.machine).0 _ _ _ _
bare_told (set_mark a n) s b = bare_line (machine_step s.config (set_mark a n) s.machine).0 _ _ _ _
bare_told (clear_mark a n) s b = bare_line (machine_step s.config (clear_mark a n) s.machine).0 _ _ _ _
bare_told (load a w) s b = bare_line (machine_step s.config (load a w) s.machine).0 _ _ _ _
bare_told (store a w v) s b = bare_line (machine_step s.config (store a w v) s.machine).0 _ _ _ _
bare_told (device a w v) s b = bare_line (machine_step s.config (device a w v) s.machine).0 _ _ _ _
bare_told (forecast xs) s b = refl

pub heard_step : (x : Call) (s : State) → BookFits s.config s.book → BookRules s.config s.book
    → let c = s.config in
    let m = s.machine in
    let ms = owned s.book in
    let o = step x s in
    (heard_at o ≡ heard_at (step x (alone c m ms))) × (owned o.1.book ≡ marks_by c x ms (refusal c x m (manual ms)))
unfolding step
heard_step x s f i =
    subst (λ q. (heard_at (answered x s r) ≡ heard_at (answered x t q)) × (owned (answered x s r).1.book ≡ marks_by c x (owned b) q)) (refusal_owned c x m b i) (by r)
  where
    c : Config
    c = s.config

    m : Machine
    m = s.machine

    b : Book
    b = s.book

    t : State
    t = alone c m (owned b)

    r : Option ℕ
    r = refusal c x m b

    by : (q : Option ℕ) → (heard_at (answered x s q) ≡ heard_at (answered x t q)) × (owned (answered x s q).1.book ≡ marks_by c x (owned b) q)
    by (some n) = (refl, refl)
    by none = (ap (λ l. (l, (machine_step c x m).1)) (bare_told x s (manual (owned b))), owned_step c x m b f i)

-- whether the choice is on or off, a run is heard as that of machine and operator's marks
pub heard_run : (xs : List Call) (s : State) → BookFits s.config s.book → BookRules s.config s.book
    → heard (run xs s) ≡ spoken s.config xs s.machine (owned s.book)
unfolding run spoken
heard_run [] s f i = refl
heard_run (x ∷ xs) s f i =
    let o = step x s in
    let k = heard_step x s f i in
    ap₂ (λ a l. a ∷ l) k.0 (heard_run xs o.1 (step_fits x s f) (step_rules x s f i)
    ∙ ap (λ c. spoken c xs o.1.machine (owned o.1.book)) (step_config x s)
    ∙ ap₂ (λ m ms. spoken s.config xs m ms) (ap (λ (z : Line × Machine). z.1) k.0) k.1)

-- after an opening on any memory, over any list of calls: with the choice on, each call says what it says with the choice off, but for
-- references, exits and a forecast's figures, and leaves the same machine
pub choice_unseen : (c : Config) (memory : List ℕ) (xs : List Call) → heard (run xs (opened c true memory)) ≡ heard (run xs (opened c false memory))
choice_unseen c memory xs = by true ∙ sym (by false)
  where
    by : (on : Bool) → heard (run xs (opened c on memory)) ≡ spoken c xs (opened c true memory).machine []
    by on = heard_run xs (opened c on memory) (opened_fits c on memory) (opened_rules c on memory)
