-- The rules of a record, whose breach is 3, hold of the book after any list of calls: of its marks, its automatic marks and its window.
-- And what a store is charged to carries no mark.
-- Assumes nothing.
use mathlib.Core.Path.{◌≡◌, refl, sym, ap, ◌∙◌, subst}
use Prim.Native.Nat.{ℕ, suc, ◌-◌, ◌≤◌, ◌<◌}
use native.Mathlib.Omega.{arith}
use mathlib.Core.Bool.{Bool, true, false, not, ◌&&◌, ◌||◌, cond, true≢false}
use mathlib.Core.List.{List, [], ◌∷◌}
use mathlib.Core.Option.{Option, none, some}
use borrow.Author.Tests.{leb-false}
use lib.Dec.{T, T_not, not_T, eqb, eqb_refl, leb, le→leb, ltb, lt→ltb}
use lib.ListN.{length, take, length-take}
use lib.Seq.{length-take-le}
use Rattle.spec.specs.declared.Fault.{Fault}
use Rattle.spec.specs.Config.{Config}
use Rattle.spec.specs.Entry.{page_of, word_of}
use Rattle.spec.specs.Prefix.{All, begins, same, any, keep}
use Rattle.spec.specs.Walk.{Result, granted, failed, trace}
use Rattle.spec.specs.Plain.{Place, upper, shadow_part}
use Rattle.spec.specs.Machine.{Machine, world}
use Rattle.spec.specs.Book.{Mark, Held, Book, Window, mark_at, same_mark, is_set, marking, unmarking, holding, fill, reads_word, uses_mapping}
use Rattle.spec.specs.Choice.{window_room, charge_of, leaf_mark, is_automatic, owned, full, leaving, withdrawn, withdrawn_by, room_made, appointed, entered, observed, operated, is_some, room_for}
use Rattle.spec.specs.Call.{Call, root, map, unmap, set_mark, clear_mark, load, store, device, forecast, address_indexes, verdict}
use Rattle.spec.specs.Count.{Counted, held_by, right_of, others, request_depth, request, storing, book_step}
use Rattle.spec.specs.Refusal.{all_of, level_fits, mark_fits, no_two_alike, marks_fit, prefix_fits, charge_fits, uncharged, window_fits, no_two_same, automatic_fits, is_empty, choice_fits, tests, refusal}
use Rattle.spec.specs.Run.{State, answered, step, after, opened}
use Rattle.spec_laws.proofs.Lists.{all_map, all_both, all_keep, all_kept, all_take, none_passes, any_has, and_left, and_right, both, or_left, or_right, same_is, is_false, not_is, is_not}
use Rattle.spec_laws.proofs.Indexes.{indexes_all}
use Rattle.spec_laws.proofs.Refill.{others_all}
use Rattle.spec_laws.proofs.Charges.{IfSome, Bare, charge_has, charge_bare, bare_unset}
use Rattle.spec_laws.proofs.Choice.{keep_most, keep_fewer, any_kept, any_gone, mark_is, mark_refl, set_kept, set_passes, auto_leaf, auto_prefix, leaving_in_lem, room_has, room_unset, observed_has}
use Rattle.spec_laws.proofs.Runs.{BookFits, all_passed, mark_fits_lem, fill_all, request_book, stored_book, request_keeps, step_fits, run_fits, opened_fits}

-- ---- the marks

-- ms: the marks that are set; ps: the prefixes of the automatic ones
pub record MarkRules (c : Config) (ms : List Mark) (ps : List (List ℕ)) : Type 0 where
  pub few : length ms ≤ c.mark_room
  pub small : All (λ m. T (mark_fits c m)) ms
  pub alike : T (no_two_alike ms)
  pub set : All (λ p. T (is_set (leaf_mark p) ms)) ps
  pub once : T (no_two_same ps)

-- where no two of a list are alike by f, as once tests it, no two of those kept are
once_kept : {A : Type 0} (f : A → A → Bool) (once : List A → Bool) → ((x : A) (xs : List A) → once (x ∷ xs) ≡ (not (any (f x) xs) && once xs))
    → (g : A → Bool) (xs : List A) → T (once xs) → T (once (keep g xs))
once_kept f once e g [] h = h
once_kept {A} f once e g (x ∷ xs) h = go (g x) (once_kept f once e g xs (and_right (not (any (f x) xs)) (once xs) k))
  where
    k : T (not (any (f x) xs) && once xs)
    k = subst T (e x xs) h

    go : (b : Bool) → T (once (keep g xs)) → T (once (cond b (x ∷ keep g xs) (keep g xs)))
    go true ih =
        subst T (sym (e x (keep g xs))) (both (not (any (f x) (keep g xs))) (once (keep g xs))
        (not_is (any (f x) (keep g xs)) (any_kept (f x) g xs (is_not (any (f x) xs) (and_left (not (any (f x) xs)) (once xs) k)))) ih)
    go false ih = ih

module _ (c : Config) (ms : List Mark) (ps : List (List ℕ)) (i : MarkRules c ms ps) where
  -- fewer marks, among them the automatic ones qs
  kept_rules : (f : Mark → Bool) (qs : List (List ℕ)) → All (λ q. T (is_set (leaf_mark q) ms) × T (f (leaf_mark q))) qs → T (no_two_same qs) → MarkRules c (keep f ms) qs
  kept_rules f qs a o = record {
    few = let k = keep_most f ms in omega (arith, i.few);
    small = all_kept (λ m. T (mark_fits c m)) f ms i.small;
    alike = once_kept same_mark no_two_alike (λ m ms. refl) f ms i.alike;
    set = all_map (λ q. T (is_set (leaf_mark q) ms) × T (f (leaf_mark q))) (λ q. T (is_set (leaf_mark q) (keep f ms))) qs (λ q k. set_kept f (leaf_mark q) ms k.1 k.0) a;
    once = o;
  }

  pub withdrawn_rules : (p : List ℕ) → MarkRules c (keep (λ y. not (same_mark (leaf_mark p) y)) ms) (keep (λ q. not (same p q)) ps)
  withdrawn_rules p =
      kept_rules (λ y. not (same_mark (leaf_mark p) y)) (keep (λ q. not (same p q)) ps)
      (all_keep (λ q. T (is_set (leaf_mark q) ms)) (λ q. not (same p q)) ps i.set) (once_kept same no_two_same (λ q qs. refl) (λ q. not (same p q)) ps i.once)

  -- the operator clears a mark that is not automatic
  pub cleared_rules : (x : Mark) → T (not (is_automatic ps x)) → MarkRules c (keep (λ y. not (same_mark x y)) ms) ps
  cleared_rules x h =
      kept_rules (λ y. not (same_mark x y)) ps
      (all_both (λ q. T (is_set (leaf_mark q) ms)) (λ q. T (not (same_mark x (leaf_mark q)))) ps i.set
      (all_map (λ q. T (not (same_mark (leaf_mark q) x))) (λ q. T (not (same_mark x (leaf_mark q)))) ps apart (none_passes (λ q. same_mark (leaf_mark q) x) ps h))) i.once
    where
      apart : (q : List ℕ) → T (not (same_mark (leaf_mark q) x)) → T (not (same_mark x (leaf_mark q)))
      apart q n = not_T (same_mark x (leaf_mark q)) (λ t.
          T_not (same_mark (leaf_mark q) x) n (subst (λ y. T (same_mark (leaf_mark q) y)) (sym (mark_is x (leaf_mark q) t)) (mark_refl (leaf_mark q))))

  -- a mark is set where a place is free
  pub set_rules : (x : Mark) → T (mark_fits c x) → is_set x ms ≡ false → length ms < c.mark_room → MarkRules c (x ∷ ms) ps
  set_rules x ok u l = record {
    few = l;
    small = (ok, i.small);
    alike = both (not (is_set x ms)) (no_two_alike ms) (not_is (is_set x ms) u) i.alike;
    set = all_map (λ q. T (is_set (leaf_mark q) ms)) (λ q. T (is_set (leaf_mark q) (x ∷ ms))) ps (λ q k. or_right (same_mark (leaf_mark q) x) (is_set (leaf_mark q) ms) k) i.set;
    once = i.once;
  }

  pub in_has : (p : List ℕ) → T (any (same p) ps) → T (is_set (leaf_mark p) ms)
  in_has p h =
      any_has (λ q. T (is_set (leaf_mark q) ms)) (same p) ps i.set h (λ q s t. subst (λ r. T (is_set (leaf_mark r) ms)) (sym (same_is p q t)) s)

  pub appointed_rules : (p : List ℕ) → T (mark_fits c (leaf_mark p)) → is_set (leaf_mark p) ms ≡ false → length ms < c.mark_room → MarkRules c (leaf_mark p ∷ ms) (p ∷ ps)
  appointed_rules p ok u l =
      let k = set_rules (leaf_mark p) ok u l in
      record {
        few = k.few;
        small = k.small;
        alike = k.alike;
        set = (or_left (same_mark (leaf_mark p) (leaf_mark p)) (is_set (leaf_mark p) ms) (mark_refl (leaf_mark p)), k.set);
        once = both (not (any (same p) ps)) (no_two_same ps) (not_T (any (same p) ps) (λ t. subst T u (in_has p t))) i.once;
      }

-- an automatic mark that leaves was set, so one place at least comes free
withdrawn_less : (c : Config) (b : Book) (p : List ℕ) → MarkRules c b.marks b.automatic → T (any (same p) b.automatic)
    → length (withdrawn p b).marks < length b.marks
withdrawn_less c b p i h = keep_fewer (same_mark (leaf_mark p)) b.marks (in_has c b.marks b.automatic i p h)

pub room_rules : (c : Config) (b : Book) → MarkRules c b.marks b.automatic → MarkRules c (room_made c b).marks (room_made c b).automatic
room_rules c b i = room_has (λ d. MarkRules c d.marks d.automatic) c b i (λ p k. withdrawn_rules c b.marks b.automatic i p)

-- where 7 does not apply, a place is free once room is made
pub room_free : (c : Config) (b : Book) → MarkRules c b.marks b.automatic → T (room_for c b) → length (room_made c b).marks < c.mark_room
room_free c b i h = go (full c b) refl h
  where
    by : (o : Option (List ℕ)) → IfSome (λ p. T (any (same p) b.automatic)) o → T (is_some o) → length (withdrawn_by o b).marks < c.mark_room
    by none k s = absurd s
    by (some p) k s = let l = withdrawn_less c b p i k in omega (arith, i.few)

    go : (t : Bool) → full c b ≡ t → T (not t || is_some (leaving b.window b.automatic))
        → length (cond t (withdrawn_by (leaving b.window b.automatic) b) b).marks < c.mark_room
    go true e s = by (leaving b.window b.automatic) (leaving_in_lem b.window b.automatic) s
    go false e s = leb-false c.mark_room (length b.marks) e

-- ---- the window and the held paths

-- indexes of 9 bits
abbrev pub Small : List ℕ → Type 0
Small p = All (λ i. i < 512) p

abbrev pub SmallPath : Held → Type 0
SmallPath h = Small h.path

pub record BookRules (c : Config) (b : Book) : Type 0 where
  pub marks : MarkRules c b.marks b.automatic
  pub short : length b.window ≤ window_room
  pub charges : All (λ x. T (charge_fits c x)) b.window
  pub paths : All SmallPath b.held
  pub off : b.choice ≡ false → (b.automatic ≡ []) × (b.window ≡ [])

all_of_lem : {A : Type 0} (f : A → Bool) (xs : List A) → All (λ x. T (f x)) xs → T (all_of f xs)
all_of_lem f [] a = tt
all_of_lem f (x ∷ xs) a = both (f x) (all_of f xs) a.0 (all_of_lem f xs a.1)

-- as a rule tests the first k of them
small_take : (k : ℕ) (p : List ℕ) → Small p → T (all_of (λ i. ltb i 512) (take k p))
small_take k p s = all_of_lem (λ i. ltb i 512) (take k p) (all_map (λ i. i < 512) (λ i. T (ltb i 512)) (take k p) (λ i l. lt→ltb i 512 l) (all_take (λ i. i < 512) k p s))

long_take : (k : ℕ) (p : List ℕ) → k ≤ length p → T (eqb (length (take k p)) k)
long_take k p l = subst (λ n. T (eqb n k)) (sym (length-take-le k p l)) (eqb_refl k)

-- what a store is charged to fits, and carries no mark
pub record ChargeRules (c : Config) (ms : List Mark) (p : List ℕ) : Type 0 where
  pub fits : T (prefix_fits c p)
  pub bare : Bare ms p

pub charge_rules : (c : Config) (b : Book) (i : ℕ) (r : Result Fault Place) → BookFits c b → BookRules c b → IfSome (ChargeRules c b.marks) (charge_of c i r b.held)
charge_rules c b i r f k = join (charge_of c i r b.held) fit (charge_bare c b.marks i r b.held f.marks f.held)
  where
    fit : IfSome (λ p. T (prefix_fits c p)) (charge_of c i r b.held)
    fit =
        let n = c.levels - 1 in
        charge_has c (λ p. T (prefix_fits c p)) SmallPath i r b.held
        (λ h s l z. both (eqb (length (take n h.path)) n) _ (long_take n h.path (omega arith)) (small_take n h.path s)) k.paths

    join : (o : Option (List ℕ)) → IfSome (λ p. T (prefix_fits c p)) o → IfSome (Bare b.marks) o → IfSome (ChargeRules c b.marks) o
    join none f g = tt
    join (some p) f g = record { fits = f; bare = g }

-- ---- each change of the book

-- other held paths
pub held_book : (c : Config) (b : Book) (hs : List Held) → All SmallPath hs → BookRules c b → BookRules c (holding b hs)
held_book c b hs a i = record { marks = i.marks; short = i.short; charges = i.charges; paths = a; off = i.off }

pub withdrawn_book : (c : Config) (p : List ℕ) (b : Book) → BookRules c b → BookRules c (withdrawn p b)
withdrawn_book c p b i = record {
  marks = withdrawn_rules c b.marks b.automatic i.marks p;
  short = i.short;
  charges = i.charges;
  paths = all_kept SmallPath (λ h. not (begins p h.path)) b.held i.paths;
  off = λ e. (ap (λ ps. keep (λ q. not (same p q)) ps) (i.off e).0, (i.off e).1);
}

pub room_book : (c : Config) (b : Book) → BookRules c b → BookRules c (room_made c b)
room_book c b i = room_has (BookRules c) c b i (λ p k. withdrawn_book c p b i)

entered_book : (c : Config) (x : Option (List ℕ)) (b : Book) → b.choice ≡ true → T (charge_fits c x) → BookRules c b → BookRules c (entered x b)
entered_book c x b on k i = record {
  marks = i.marks;
  short = let l = length-take window_room (x ∷ b.window) in omega arith;
  charges = all_take (λ y. T (charge_fits c y)) window_room (x ∷ b.window) (k, i.charges);
  paths = i.paths;
  off = λ e. absurd (true≢false (sym on ∙ e));
}

leaf_fitting : (c : Config) (p : List ℕ) → T (prefix_fits c p) → T (mark_fits c (leaf_mark p))
leaf_fitting c p h =
    let long = eqb (length p) (c.levels - 1) in
    both (level_fits c 1 && long) _ (both (level_fits c 1) long (le→leb 1 (suc c.levels) (omega arith)) (and_left long _ h)) (and_right long _ h)

-- a mark is set automatically, with the choice on and where a place is free
pub appointed_book : (c : Config) (p : List ℕ) (b : Book) → b.choice ≡ true → full c b ≡ false → T (prefix_fits c p) → is_set (leaf_mark p) b.marks ≡ false
    → BookRules c b → BookRules c (appointed p b)
appointed_book c p b on free f u i = record {
  marks = appointed_rules c b.marks b.automatic i.marks p (leaf_fitting c p f) u (leb-false c.mark_room (length b.marks) free);
  short = i.short;
  charges = i.charges;
  paths = all_kept SmallPath (λ h. not (begins p h.path)) b.held i.paths;
  off = λ e. absurd (true≢false (sym on ∙ e));
}

pub observed_book : (c : Config) (x : Option (List ℕ)) (b : Book) → IfSome (ChargeRules c b.marks) x → BookRules c b → BookRules c (observed c x b)
observed_book c x b k i = observed_has (BookRules c) c x b (λ z. i) (λ z. entered_book c x b z (charge x k) i) (λ p t j. withdrawn_book c p e j) new
  where
    e : Book
    e = entered x b

    charge : (y : Option (List ℕ)) → IfSome (ChargeRules c b.marks) y → T (charge_fits c y)
    charge none h = tt
    charge (some p) h = h.fits

    new : (p : List ℕ) → x ≡ some p → b.choice ≡ true → full c (room_made c e) ≡ false → BookRules c (room_made c e) → BookRules c (appointed p (room_made c e))
    new p q z f j =
        let h : ChargeRules c b.marks p = subst (IfSome (ChargeRules c b.marks)) q k in
        appointed_book c p (room_made c e) (room_has (λ d. d.choice ≡ true) c e z (λ o t. z)) f h.fits (room_unset c e (leaf_mark p) (bare_unset b.marks p h.bare)) j

-- the operator sets a mark that is not theirs already, where 7 does not apply
pub operated_book : (c : Config) (x : Mark) (b : Book) → T (mark_fits c x) → T (not (is_set x (owned b))) → T (room_for c b) → BookRules c b → BookRules c (operated c x b)
unfolding operated
operated_book c x b ok six seven i = go (is_automatic b.automatic x) refl
  where
    add : (d : Book) → is_set x d.marks ≡ false → length d.marks < c.mark_room → BookRules c d → BookRules c (marking x d)
    add d u l j = record {
      marks = set_rules c d.marks d.automatic j.marks x ok u l;
      short = j.short;
      charges = j.charges;
      paths = all_kept SmallPath (λ h. not (begins x.prefix h.path)) d.held j.paths;
      off = j.off;
    }

    unset : is_automatic b.automatic x ≡ false → is_set x b.marks ≡ false
    unset e = is_false (is_set x b.marks) (λ t.
        T_not (is_set x (owned b)) six (set_kept (λ y. not (is_automatic b.automatic y)) x b.marks (not_is (is_automatic b.automatic x) e) t))

    go : (t : Bool) → is_automatic b.automatic x ≡ t → BookRules c (marking x (cond t (withdrawn x.prefix b) (room_made c b)))
    go true e =
        let h : T (is_automatic b.automatic x) = subst T (sym e) tt in
        let l = withdrawn_less c b x.prefix i.marks (auto_prefix x b.automatic h) in
        add (withdrawn x.prefix b)
        (subst (λ y. is_set y (withdrawn x.prefix b).marks ≡ false) (sym (auto_leaf x b.automatic h)) (any_gone (same_mark (leaf_mark x.prefix)) b.marks))
        (omega (arith, i.marks.few)) (withdrawn_book c x.prefix b i)
    go false e = add (room_made c b) (room_unset c b x (unset e)) (room_free c b i.marks seven) (room_book c b i)

-- the operator clears a mark of theirs
pub cleared_book : (c : Config) (x : Mark) (b : Book) → T (is_set x (owned b)) → BookRules c b → BookRules c (unmarking x b)
cleared_book c x b h i = record {
  marks = cleared_rules c b.marks b.automatic i.marks x (set_passes (λ y. not (is_automatic b.automatic y)) x b.marks h);
  short = i.short;
  charges = i.charges;
  paths = all_kept SmallPath (λ k. not (begins x.prefix k.path)) b.held i.paths;
  off = i.off;
}

-- ---- each call

fill_book : (c : Config) (b : Book) (h : Held) → SmallPath h → BookRules c b → BookRules c (holding b (fill c h (others c h.path b.held)))
fill_book c b h ok i =
    held_book c b _ (fill_all SmallPath c h (others c h.path b.held) ok (others_all SmallPath c h.path b.held i.paths)) i

pub request_rules : (c : Config) (m : Machine) (b : Book) (st : Bool) (a d : ℕ) → BookRules c b → BookRules c (request c m b st a d).book
request_rules c m b st a d i =
    let is = address_indexes c a in
    let w = world c m in
    let s = trace w (shadow_part c st d m.root is) in
    request_book (BookRules c) c m b st a d i
    (λ r l e g. fill_book c b (held_by (upper c d is) s (right_of c w st d s r.1)) (all_take (λ j. j < 512) (c.levels - d) is (indexes_all c.levels (page_of a))) i)

pub storing_rules : (c : Config) (i : ℕ) (r : Result Fault Place) (k : Counted) → BookRules c k.book → BookRules c (storing i r k).book
storing_rules c i r k h =
    stored_book (BookRules c) i r k h (λ t. held_book c k.book _ (all_kept SmallPath (λ y. not (reads_word t i y)) k.book.held h.paths) h)

-- a store's drops change no mark
pub stored_charge : (c : Config) (i : ℕ) (r : Result Fault Place) (k : Counted) → BookFits c k.book → BookRules c k.book
    → IfSome (ChargeRules c (storing i r k).book.marks) (charge_of c i r k.book.held)
unfolding storing charge_of
stored_charge c i (failed x) k f h = tt
stored_charge c i (granted p) k f h = charge_rules c k.book i (granted p) f h

mark_fitting : (c : Config) (n a : ℕ) → T (level_fits c n) → T (mark_fits c (mark_at c n (address_indexes c a)))
mark_fitting c n a h =
    let is = address_indexes c a in
    let long = eqb (length (take (c.levels - n) is)) (c.levels - n) in
    both (level_fits c n && long) _
    (both (level_fits c n) long h (subst (λ l. T (eqb l (c.levels - n))) (sym (mark_fits_lem c n a h).kept) (eqb_refl (c.levels - n))))
    (small_take (c.levels - n) is (indexes_all c.levels (page_of a)))

pub step_rules : (x : Call) (s : State) → BookFits s.config s.book → BookRules s.config s.book → BookRules (step x s).1.config (step x s).1.book
unfolding step book_step tests refusal
step_rules x s f i = go (refusal s.config x s.machine s.book) refl
  where
    c : Config
    c = s.config

    m : Machine
    m = s.machine

    b : Book
    b = s.book

    by : (y : Call) → refusal c y m b ≡ none → BookRules c (book_step c y m b).book
    by (root r) e = record { marks = i.marks; short = omega arith; charges = tt; paths = tt; off = λ z. ((i.off z).0, refl) }
    by (map g h w) e = held_book c b _ (all_kept SmallPath (λ k. not (uses_mapping g k)) b.held i.paths) i
    by (unmap g) e = held_book c b _ (all_kept SmallPath (λ k. not (uses_mapping g k)) b.held i.paths) i
    by (set_mark a n) e =
        let p = all_passed (tests c (set_mark a n) m b) e in
        operated_book c (mark_at c n (address_indexes c a)) b (mark_fitting c n a p.1.0) p.1.1.0 p.1.1.1.0 i
    by (clear_mark a n) e = cleared_book c (mark_at c n (address_indexes c a)) b (all_passed (tests c (clear_mark a n) m b) e).1.1.0 i
    by (load a w) e = observed_book c none _ tt (request_rules c m b false a _ i)
    by (store a w v) e =
        let k = request c m b true a (request_depth c m b a) in
        let r = verdict c m true a in
        let j = request_rules c m b true a _ i in
        observed_book c (charge_of c (word_of a) r k.book.held) _ (stored_charge c (word_of a) r k (request_keeps c m b true a f) j) (storing_rules c (word_of a) r k j)
    by (device a w v) e = storing_rules c (word_of a) _ _ i
    by (forecast xs) e = i

    go : (r : Option ℕ) → refusal c x m b ≡ r → BookRules (answered x s r).1.config (answered x s r).1.book
    go (some n) e = i
    go none e = by x e

pub opened_rules : (c : Config) (on : Bool) (memory : List ℕ) → BookRules c (opened c on memory).book
opened_rules c on memory =
    record { marks = record { few = omega arith; small = tt; alike = tt; set = tt; once = tt }; short = omega arith; charges = tt; paths = tt; off = λ z. (refl, refl) }

pub run_rules : (xs : List Call) (s : State) → BookFits s.config s.book → BookRules s.config s.book → BookRules (after xs s).config (after xs s).book
unfolding after
run_rules [] s f i = i
run_rules (x ∷ xs) s f i = run_rules xs (step x s).1 (step_fits x s f) (step_rules x s f i)

-- ---- the rules as they are tested

pub rules_fit : (c : Config) (b : Book) → BookRules c b → T (marks_fit c b.marks) × T (choice_fits c b.choice b.marks b.automatic b.window)
rules_fit c b i = (
  both (leb (length ms) c.mark_room && all_of (mark_fits c) ms) (no_two_alike ms)
      (both (leb (length ms) c.mark_room) (all_of (mark_fits c) ms) (le→leb (length ms) c.mark_room i.marks.few) (all_of_lem (mark_fits c) ms i.marks.small)) i.marks.alike,
  both (automatic_fits ms ps && window_fits c w) _
      (both (automatic_fits ms ps) (window_fits c w)
      (both (all_of (λ p. is_set (leaf_mark p) ms) ps) (no_two_same ps) (all_of_lem (λ p. is_set (leaf_mark p) ms) ps i.marks.set) i.marks.once)
      (both (leb (length w) window_room) (all_of (charge_fits c) w) (le→leb (length w) window_room i.short) (all_of_lem (charge_fits c) w i.charges)))
      (choice b.choice refl),
)
  where
    ms : List Mark
    ms = b.marks

    ps : List (List ℕ)
    ps = b.automatic

    w : Window
    w = b.window

    choice : (t : Bool) → b.choice ≡ t → T (t || (is_empty ps && all_of uncharged w))
    choice true e = tt
    choice false e = subst (λ qs. T (is_empty qs && all_of uncharged w)) (sym (i.off e).0) (subst (λ v. T (all_of uncharged v)) (sym (i.off e).1) tt)

-- after any list of calls from an opening, marks, automatic marks and window keep the rules of a record
pub run_fit : (c : Config) (on : Bool) (memory : List ℕ) (xs : List Call)
    → let s = after xs (opened c on memory) in
    let b = s.book in
    T (marks_fit s.config b.marks) × T (choice_fits s.config b.choice b.marks b.automatic b.window)
run_fit c on memory xs =
    let s = opened c on memory in
    rules_fit (after xs s).config (after xs s).book (run_rules xs s (opened_fits c on memory) (opened_rules c on memory))

-- after any list of calls from an opening, the prefix that a store is charged to fits, and every address under it has depth 0
pub charge_unmarked : (c : Config) (on : Bool) (memory : List ℕ) (xs : List Call) (a : ℕ)
    → let s = after xs (opened c on memory) in
    let n = s.config in
    let k = request n s.machine s.book true a (request_depth n s.machine s.book a) in
    IfSome (ChargeRules n k.book.marks) (charge_of n (word_of a) (verdict n s.machine true a) k.book.held)
charge_unmarked c on memory xs a =
    let o = opened c on memory in
    let s = after xs o in
    let n = s.config in
    let k = request n s.machine s.book true a (request_depth n s.machine s.book a) in
    let f = run_fits xs o (opened_fits c on memory) in
    let i = run_rules xs o (opened_fits c on memory) (opened_rules c on memory) in
    charge_rules n k.book (word_of a) _ (request_keeps n s.machine s.book true a f) (request_rules n s.machine s.book true a _ i)
