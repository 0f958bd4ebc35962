-- How long ago an automatic mark was set (document 02, 9). The book has no clock: it keeps the automatic marks in the order of setting. Here
-- that order is set beside the run itself: after any list of calls from an opening, a mark that stands further back in it has been automatic
-- for more of the calls, without a break. So of the marks with the fewest charges the one that leaves was set longest ago; and a mark that was
-- cleared and set again is as old as its last setting.
-- Assumes nothing.
use mathlib.Core.Path.{◌≡◌, refl, sym, ap, ◌∙◌, subst}
use Prim.Native.Nat.{ℕ, suc, ◌≤◌, ◌<◌}
use native.Mathlib.Omega.{arith}
use mathlib.Core.Bool.{Bool, true, false, not, cond}
use mathlib.Core.Logic.{◌⊎◌, inl, inr}
use mathlib.Core.List.{List, [], ◌∷◌, ◌++◌}
use mathlib.Core.Option.{Option, none, some}
use lib.Dec.{T}
use Rattle.spec.specs.declared.Fault.{Fault}
use Rattle.spec.specs.Config.{Config}
use Rattle.spec.specs.Entry.{word_of}
use Rattle.spec.specs.Prefix.{All, same, any, keep}
use Rattle.spec.specs.Walk.{Result}
use Rattle.spec.specs.Plain.{Place}
use Rattle.spec.specs.Machine.{Machine}
use Rattle.spec.specs.Book.{Mark, Book, Window, mark_at}
use Rattle.spec.specs.Choice.{charges, charge_of, is_automatic, leaving, withdrawn, room_made, entered, observed, operated}
use Rattle.spec.specs.Call.{Call, root, map, unmap, set_mark, clear_mark, load, store, device, forecast, address_indexes, verdict}
use Rattle.spec.specs.Count.{Counted, request_depth, request, storing, book_step}
use Rattle.spec.specs.Refusal.{refusal}
use Rattle.spec.specs.Run.{State, answered, step, after, opened}
use Rattle.spec_laws.proofs.Lists.{all_any, all_map, all_both, keep_all, all_append, all_right, all_kept, is_true, is_false}
use Rattle.spec_laws.proofs.Charges.{IfSome, bare_unset}
use Rattle.spec_laws.proofs.Choice.{all_in, room_has, observed_has}
use Rattle.spec_laws.proofs.Runs.{BookFits, request_book, stored_book, request_keeps, step_fits, opened_fits}
use Rattle.spec_laws.proofs.Rules.{BookRules, ChargeRules, in_has, request_rules, storing_rules, stored_charge, step_rules, opened_rules}
use Rattle.spec_laws.proofs.Least.{LastLeast, last_least}

-- ---- ages

-- the automatic marks before a run and after each of its calls, the last first
abbrev pub Past : Type 0
Past = List (List (List ℕ))

-- for how many of these, from the last back, p has been automatic without a break
abbrev pub age : List ℕ → Past → ℕ
age p [] = 0
age p (ps ∷ past) = cond (any (same p) ps) (suc (age p past)) 0

-- rest: the past before the state s
unfoldable pub past_of : List Call → State → Past → Past
past_of [] s rest = s.book.automatic ∷ rest
past_of (x ∷ xs) s rest = past_of xs (step x s).1 (s.book.automatic ∷ rest)

-- each is older than those before it
abbrev pub Rising : Past → List (List ℕ) → Type 0
Rising past [] = Unit {0}
Rising past (p ∷ ps) = All (λ q. age p past < age q past) ps × Rising past ps

rising_kept : (f : List ℕ → Bool) (past : Past) (ps : List (List ℕ)) → Rising past ps → Rising past (keep f ps)
rising_kept f past [] r = tt
rising_kept f past (p ∷ ps) r = go (f p) (rising_kept f past ps r.1)
  where
    go : (t : Bool) → Rising past (keep f ps) → Rising past (cond t (p ∷ keep f ps) (keep f ps))
    go true k = (all_kept (λ q. age p past < age q past) f ps r.0, k)
    go false k = k

rising_before : (past : Past) (us vs : List (List ℕ)) (p : List ℕ) → Rising past (us ++ p ∷ vs) → All (λ q. age q past < age p past) us
rising_before past [] vs p r = tt
rising_before past (u ∷ us) vs p r = ((all_right (λ q. age u past < age q past) us (p ∷ vs) r.0).0, rising_before past us vs p r.1)

-- a mark that is automatic now is one call older than it was before
aged : (p : List ℕ) (qs : List (List ℕ)) (past : Past) → T (any (same p) qs) → age p (qs ∷ past) ≡ suc (age p past)
aged p qs past h = ap (λ (t : Bool). cond t (suc (age p past)) 0) (is_true (any (same p) qs) h)

rising_aged : (qs : List (List ℕ)) (past : Past) (ps : List (List ℕ)) → All (λ p. T (any (same p) qs)) ps → Rising past ps → Rising (qs ∷ past) ps
rising_aged qs past [] a r = tt
rising_aged qs past (p ∷ ps) a r = (
  all_map (λ q. T (any (same q) qs) × (age p past < age q past)) (λ q. age p (qs ∷ past) < age q (qs ∷ past)) ps
      (λ q k. let x = aged p qs past a.0 in let y = aged q qs past k.0 in omega (arith, k.1))
      (all_both (λ q. T (any (same q) qs)) (λ q. age p past < age q past) ps a.1 r.0),
  rising_aged qs past ps a.1 r.1,
)

-- ---- what a call does to the automatic marks

abbrev pub joined : Option (List ℕ) → List (List ℕ) → List (List ℕ)
joined none ps = ps
joined (some p) ps = p ∷ ps

-- of the marks ps some stay, in their order; one that is none of them may come to stand in front
pub record Turns (ps qs : List (List ℕ)) : Type 0 where
  pub stays : List ℕ → Bool
  pub new : Option (List ℕ)
  pub fresh : IfSome (λ p. any (same p) ps ≡ false) new
  pub is : qs ≡ joined new (keep stays ps)

-- so they stay in the order of their ages
rising_turn : (ps qs : List (List ℕ)) (rest : Past) → Turns ps qs → Rising (ps ∷ rest) ps → Rising (qs ∷ ps ∷ rest) qs
rising_turn ps qs rest t r = subst (λ rs. Rising (rs ∷ past) rs) (sym t.is) (go t.new t.fresh)
  where
    past : Past
    past = ps ∷ rest

    ks : List (List ℕ)
    ks = keep t.stays ps

    kept : Rising past ks
    kept = rising_kept t.stays past ps r

    -- each of them was automatic before
    older : All (λ q. 0 < age q past) ks
    older = all_kept (λ q. 0 < age q past) t.stays ps
        (all_map (λ q. T (any (same q) ps)) (λ q. 0 < age q past) ps (λ q k. let x = aged q ps rest k in omega arith) (all_in ps))

    go : (o : Option (List ℕ)) → IfSome (λ p. any (same p) ps ≡ false) o → Rising (joined o ks ∷ past) (joined o ks)
    go none f = rising_aged ks past ks (all_in ks) kept
    go (some p) f =
        let qs = p ∷ ks in
        let first : age p (qs ∷ past) ≡ suc (age p past) = aged p qs past (all_in qs).0 in
        let young : age p past ≡ 0 = ap (λ (t : Bool). cond t (suc (age p rest)) 0) f in (
          all_map (λ q. T (any (same q) qs) × (0 < age q past)) (λ q. age p (qs ∷ past) < age q (qs ∷ past)) ks
              (λ q k. let y = aged q qs past k.0 in omega (arith, k.1)) (all_both (λ q. T (any (same q) qs)) (λ q. 0 < age q past) ks (all_in qs).1 older),
          rising_aged qs past ks (all_in qs).1 kept,
        )

-- ---- each call

-- some of ps are left, in their order
record Stay (ps qs : List (List ℕ)) : Type 0 where
  stays : List ℕ → Bool
  is : qs ≡ keep stays ps

some_stay : (f : List ℕ → Bool) (ps : List (List ℕ)) → Stay ps (keep f ps)
some_stay f ps = record { stays = f; is = refl }

all_stay : (ps : List (List ℕ)) → Stay ps ps
all_stay ps = record { stays = λ p. true; is = sym (keep_all (λ p. true) ps (all_any _ ps (λ p. refl))) }

no_more : (ps qs : List (List ℕ)) → Stay ps qs → Turns ps qs
no_more ps qs k = record { stays = k.stays; new = none; fresh = tt; is = k.is }

unmoved : (ps : List (List ℕ)) → Turns ps ps
unmoved ps = no_more ps ps (all_stay ps)

room_stay : (c : Config) (b : Book) → Stay b.automatic (room_made c b).automatic
room_stay c b = room_has (λ d. Stay b.automatic d.automatic) c b (all_stay b.automatic) (λ p k. some_stay (λ q. not (same p q)) b.automatic)

operated_turns : (c : Config) (x : Mark) (b : Book) → Turns b.automatic (operated c x b).automatic
unfolding operated
operated_turns c x b = no_more b.automatic _ (go (is_automatic b.automatic x))
  where
    go : (t : Bool) → Stay b.automatic (cond t (withdrawn x.prefix b) (room_made c b)).automatic
    go true = some_stay (λ q. not (same x.prefix q)) b.automatic
    go false = room_stay c b

observed_turns : (c : Config) (x : Option (List ℕ)) (b : Book) → IfSome (λ p. any (same p) b.automatic ≡ false) x → Turns b.automatic (observed c x b).automatic
observed_turns c x b f =
    observed_has (λ d. Turns b.automatic d.automatic) c x b (λ z. unmoved b.automatic) (λ z. unmoved b.automatic)
    (λ p k t. no_more b.automatic _ (some_stay (λ q. not (same p q)) b.automatic))
    (λ p e z k t. let r = room_stay c (entered x b) in
    record { stays = r.stays; new = some p; fresh = subst (IfSome (λ p. any (same p) b.automatic ≡ false)) e f; is = ap (λ qs. p ∷ qs) r.is })

storing_automatic : (i : ℕ) (r : Result Fault Place) (k : Counted) → (storing i r k).book.automatic ≡ k.book.automatic
storing_automatic i r k = stored_book (λ b. b.automatic ≡ k.book.automatic) i r k refl (λ t. refl)

request_automatic : (c : Config) (m : Machine) (b : Book) (st : Bool) (a d : ℕ) → (request c m b st a d).book.automatic ≡ b.automatic
request_automatic c m b st a d = request_book (λ k. k.automatic ≡ b.automatic) c m b st a d refl (λ r l e g. refl)

-- what carries no mark has no automatic one
charge_fresh : (c : Config) (b : Book) (x : Option (List ℕ)) → BookRules c b → IfSome (ChargeRules c b.marks) x → IfSome (λ p. any (same p) b.automatic ≡ false) x
charge_fresh c b none i h = tt
charge_fresh c b (some p) i h =
    is_false (any (same p) b.automatic) (λ t. subst T (bare_unset b.marks p h.bare) (in_has c b.marks b.automatic i.marks p t))

step_turns : (x : Call) (s : State) → BookFits s.config s.book → BookRules s.config s.book → Turns s.book.automatic (step x s).1.book.automatic
unfolding step book_step
step_turns x s f i = go (refusal c x m b)
  where
    c : Config
    c = s.config

    m : Machine
    m = s.machine

    b : Book
    b = s.book

    by : (y : Call) → Turns b.automatic (book_step c y m b).book.automatic
    by (root r) = unmoved b.automatic
    by (map g h w) = unmoved b.automatic
    by (unmap g) = unmoved b.automatic
    by (set_mark a n) = operated_turns c (mark_at c n (address_indexes c a)) b
    by (clear_mark a n) = unmoved b.automatic
    by (load a w) =
        let k = request c m b false a (request_depth c m b a) in
        subst (λ ps. Turns ps (observed c none k.book).automatic) (request_automatic c m b false a (request_depth c m b a)) (observed_turns c none k.book tt)
    by (store a w v) =
        let r = verdict c m true a in
        let k = request c m b true a (request_depth c m b a) in
        let rules = request_rules c m b true a (request_depth c m b a) i in
        let d = (storing (word_of a) r k).book in
        let x = charge_of c (word_of a) r k.book.held in
        subst (λ ps. Turns ps (observed c x d).automatic) (storing_automatic (word_of a) r k ∙ request_automatic c m b true a (request_depth c m b a))
        (observed_turns c x d (charge_fresh c d x (storing_rules c (word_of a) r k rules) (stored_charge c (word_of a) r k (request_keeps c m b true a f) rules)))
    by (device a w v) = subst (λ ps. Turns b.automatic ps) (sym (storing_automatic (word_of a) _ _)) (unmoved b.automatic)
    by (forecast xs) = unmoved b.automatic

    go : (o : Option ℕ) → Turns b.automatic (answered x s o).1.book.automatic
    go (some n) = unmoved b.automatic
    go none = by x

-- ---- a whole run

run_ages : (xs : List Call) (s : State) (rest : Past) → BookFits s.config s.book → BookRules s.config s.book
    → Rising (s.book.automatic ∷ rest) s.book.automatic → Rising (past_of xs s rest) (after xs s).book.automatic
unfolding past_of after
run_ages [] s rest f i r = r
run_ages (x ∷ xs) s rest f i r =
    let t = (step x s).1 in
    run_ages xs t (s.book.automatic ∷ rest) (step_fits x s f) (step_rules x s f i)
    (rising_turn s.book.automatic t.book.automatic rest (step_turns x s f i) r)

-- after any list of calls from an opening, the automatic marks stand in the order of their ages, the youngest first, and no two are of one age
pub ages_rise : (c : Config) (on : Bool) (memory : List ℕ) (xs : List Call)
    → let s = opened c on memory in
    Rising (past_of xs s []) (after xs s).book.automatic
ages_rise c on memory xs = run_ages xs (opened c on memory) [] (opened_fits c on memory) (opened_rules c on memory) tt

-- p is one of the automatic marks ps, none of which has fewer charges; each other has more, or is younger
pub record Oldest (w : Window) (past : Past) (ps : List (List ℕ)) (p : List ℕ) : Type 0 where
  pub among : T (any (same p) ps)
  pub fewest : All (λ q. charges p w ≤ charges q w) ps
  pub oldest : All (λ q. (q ≡ p) ⊎ ((charges p w < charges q w) ⊎ (age q past < age p past))) ps

-- Which automatic mark leaves after any list of calls from an opening, by any window: the oldest of those with the fewest charges
pub oldest_leaves : (c : Config) (on : Bool) (memory : List ℕ) (xs : List Call) (w : Window)
    → let s = opened c on memory in
    let ps = (after xs s).book.automatic in
    IfSome (Oldest w (past_of xs s []) ps) (leaving w ps)
oldest_leaves c on memory xs w = go (leaving w ps) (last_least (λ q. charges q w) ps)
  where
    past : Past
    past = past_of xs (opened c on memory) []

    ps : List (List ℕ)
    ps = (after xs (opened c on memory)).book.automatic

    by : (p : List ℕ) → LastLeast (λ q. charges q w) ps p → Oldest w past ps p
    by p l = subst (λ qs. Rising past qs → Oldest w past qs p) (sym l.split) (split p l.before l.behind l.least l.last) (ages_rise c on memory xs)
      where
        split : (p : List ℕ) (us vs : List (List ℕ)) → All (λ q. charges p w ≤ charges q w) us → All (λ q. charges p w < charges q w) vs
            → Rising past (us ++ p ∷ vs) → Oldest w past (us ++ p ∷ vs) p
        split p us vs a z r = record {
          among = (all_right (λ q. T (any (same q) (us ++ p ∷ vs))) us (p ∷ vs) (all_in (us ++ p ∷ vs))).0;
          fewest = all_append (λ q. charges p w ≤ charges q w) us (p ∷ vs) a (omega arith, all_map (λ q. charges p w < charges q w) (λ q. charges p w ≤ charges q w) vs (λ q k. omega arith) z);
          oldest = all_append _ us (p ∷ vs) (all_map (λ q. age q past < age p past) _ us (λ q k. inr (inr k)) (rising_before past us vs p r))
              (inl refl, all_map (λ q. charges p w < charges q w) _ vs (λ q k. inr (inl k)) z);
        }

    go : (o : Option (List ℕ)) → IfSome (LastLeast (λ q. charges q w) ps) o → IfSome (Oldest w past ps) o
    go none l = tt
    go (some p) l = by p l
