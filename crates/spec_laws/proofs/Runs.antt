-- What the book keeps over a run: every held path has the depth that the marks say or, where its walk ended above the marked levels, all indexes.
-- Assumes nothing.
use mathlib.Core.Path.{◌≡◌, refl, sym, ap, ◌∙◌, subst}
use Prim.Native.Nat.{ℕ, suc, ◌-◌, ◌≤◌}
use native.Mathlib.Omega.{arith}
use mathlib.Core.Bool.{Bool, true, false, not, ◌&&◌, ◌||◌, cond}
use mathlib.Core.List.{List, [], ◌∷◌}
use mathlib.Core.Option.{Option, none, some}
use borrow.Author.Tests.{not-false}
use lib.Dec.{T, eqb, leb, leb→le}
use lib.ListN.{length}
use lib.Seq.{length-take-le, take_all}
use Rattle.spec.specs.declared.Fault.{Fault}
use Rattle.spec.specs.Config.{Config}
use Rattle.spec.specs.Entry.{page_of, word_of}
use Rattle.spec.specs.Prefix.{begins, same, keep}
use Rattle.spec.specs.Walk.{World, Trace, Result, granted, failed, trace}
use Rattle.spec.specs.Plain.{Place, is_span, walk, upper, shadow_part, direct_part}
use Rattle.spec.specs.Machine.{Machine, world}
use Rattle.spec.specs.Bits.{owes, judged}
use Rattle.spec.specs.Book.{Mark, Held, Book, mark_at, same_mark, depth, find, holding, marking, unmarking, fill, shadow_tables, drop_word, drop_prefix, uses_mapping, reads_word}
use Rattle.spec.specs.Choice.{leaf_mark, is_automatic, withdrawn, room_made, entered, observed, operated}
use Rattle.spec.specs.Call.{Call, root, map, unmap, set_mark, clear_mark, load, store, device, forecast, address_indexes, plain, verdict}
use Rattle.spec.specs.Count.{Counted, depth_by, depth_in, serves, held_by, is_granted, right_of, others, shadowed, unshadowed, request_depth, request, storing, book_step}
use Rattle.spec.specs.Refusal.{first_failed, level_fits, tests, refusal}
use Rattle.spec.specs.Run.{State, answered, step, after, opened}
use Rattle.spec.specs.Prefix.{All}
use Rattle.spec_laws.proofs.Lists.{all_map, all_keep, all_kept, not_both, same_is, and_right, or_second}
use Rattle.spec_laws.proofs.Parts.{direct_result}
use Rattle.spec_laws.proofs.Refill.{others_all}
use Rattle.spec_laws.proofs.Charges.{IfSome, charge_long}
use Rattle.spec_laws.proofs.Choice.{room_has, observed_has}
use Rattle.spec_laws.proofs.Large.{walk_span}
use Rattle.spec_laws.proofs.Indexes.{indexes_length}
use Rattle.spec_laws.proofs.Depth.{MarkFits, PathFits, fill_fits, large_fits, set_fits, clear_fits}

-- a call that is not refused passed every test
pub all_passed : (xs : List (Bool × ℕ)) → first_failed xs ≡ none → All (λ x. T x.0) xs
all_passed [] h = tt
all_passed (x ∷ xs) h = go x.0 h (all_passed xs)
  where
    go : (b : Bool) → cond b (first_failed xs) (some x.1) ≡ none → (first_failed xs ≡ none → All (λ x. T x.0) xs) → T b × All (λ x. T x.0) xs
    go true k ih = (tt, ih k)
    go false k ih = let z : ◌≡◌ {A = ℕ} 0 1 = cc in absurd (omega arith)

pub record BookFits (c : Config) (b : Book) : Type 0 where
  pub marks : All (MarkFits c.levels) b.marks
  pub held : All (λ (h : Held). PathFits c.levels b.marks h.path (length h.reads)) b.held

abbrev pub HeldFits : Config → List Mark → Held → Type 0
HeldFits c ms h = PathFits c.levels ms h.path (length h.reads)

-- fewer held paths
pub kept_fits : (c : Config) (b : Book) (f : Held → Bool) → BookFits c b → BookFits c (holding b (keep f b.held))
kept_fits c b f i = record { marks = i.marks; held = all_kept (HeldFits c b.marks) f b.held i.held }

pub mark_fits_lem : (c : Config) (n a : ℕ) → T (level_fits c n) → MarkFits c.levels (mark_at c n (address_indexes c a))
mark_fits_lem c n a h =
    let is = address_indexes c a in
    let l : c.levels - n ≤ length is = omega (arith, indexes_length c.levels (page_of a)) in
    record { kept = length-take-le (c.levels - n) is l; bound = leb→le n (suc c.levels) (and_right (leb 1 n) (leb n (suc c.levels)) h) }

pub set_keeps : (c : Config) (b : Book) (m : Mark) → MarkFits c.levels m → BookFits c b → BookFits c (marking m b)
set_keeps c b m ok i = record {
  marks = (ok, i.marks);
  held = all_map (λ h. HeldFits c b.marks h × T (not (begins m.prefix h.path))) (HeldFits c (m ∷ b.marks)) (drop_prefix m.prefix b.held)
      (λ h k. set_fits c.levels b.marks h.path (length h.reads) k.0 m ok (λ t. not_both (begins m.prefix h.path) t k.1))
      (all_keep (HeldFits c b.marks) (λ h. not (begins m.prefix h.path)) b.held i.held);
}

not_not : (b : Bool) → T (not (not b)) → T b
not_not true h = tt
not_not false h = h

pub clear_keeps : (c : Config) (b : Book) (m : Mark) → BookFits c b
    → BookFits c (unmarking m b)
clear_keeps c b m i = record {
  marks = all_kept (MarkFits c.levels) (λ y. not (same_mark m y)) b.marks i.marks;
  held = all_map (λ h. HeldFits c b.marks h × T (not (begins m.prefix h.path))) (HeldFits c (keep (λ y. not (same_mark m y)) b.marks))
      (drop_prefix m.prefix b.held)
      (λ h k. clear_fits c.levels b.marks h.path (length h.reads) k.0 (λ y. not (same_mark m y)) i.marks
      (all_map (MarkFits c.levels) (λ y. T (not (not (same_mark m y))) → T (begins y.prefix h.path) → ⊥) b.marks
      (λ y ok alike t.
      let e = same_is m.prefix y.prefix (and_right (eqb m.level y.level) (same m.prefix y.prefix) (not_not (same_mark m y) alike)) in
      not_both (begins m.prefix h.path) (subst (λ q. T (begins q h.path)) (sym e) t) k.1) i.marks))
      (all_keep (HeldFits c b.marks) (λ h. not (begins m.prefix h.path)) b.held i.held);
}

pub fill_all : (P : Held → Type 0) (c : Config) (h : Held) (hs : List Held) → P h → All P hs → All P (fill c h hs)
fill_all P c h hs one all = go (leb (shadow_tables (h ∷ hs)) c.shadows)
  where
    go : (t : Bool) → All P (cond t (h ∷ hs) (h ∷ []))
    go true = (one, all)
    go false = (one, tt)

-- a filled path replaces the one of the same indexes
pub fill_keeps : (c : Config) (b : Book) (h : Held) → HeldFits c b.marks h → BookFits c b → BookFits c (holding b (fill c h (others c h.path b.held)))
fill_keeps c b h ok i = record {
  marks = i.marks;
  held = fill_all (HeldFits c b.marks) c h (others c h.path b.held) ok (others_all (HeldFits c b.marks) c h.path b.held i.held);
}

-- a request leaves the book as it is, or fills its path where its shadow part is granted, and with bits on only where it is granted itself
pub request_book : (P : Book → Type 0) (c : Config) (m : Machine) (b : Book) (st : Bool) (a d : ℕ)
    → let w = world c m in
    let p = upper c d (address_indexes c a) in
    let s = trace w (shadow_part c st d m.root (address_indexes c a)) in
    P b → ((r : Place) → d ≤ c.levels → s.result ≡ granted r → (c.bits ≡ true → is_granted (verdict c m st a) ≡ true)
    → P (holding b (fill c (held_by p s (right_of c w st d s r.1)) (others c p b.held)))) → P (request c m b st a d).book
unfolding request verdict plain
request_book P c m b st a d same fills = go (leb d c.levels) refl
  where
    is : List ℕ
    is = address_indexes c a

    p : List ℕ
    p = upper c d is

    w : World
    w = world c m

    s : Trace Fault Place
    s = trace w (shadow_part c st d m.root is)

    o : Option (ℕ × ℕ)
    o = owes c w st (plain c m st a)

    held : Bool
    held = serves st d (find p b.held)

    only : (h on g : Bool) → (h || (on && not g)) ≡ false → on ≡ true → g ≡ true
    only h on g e z = not-false g (ap (λ x. x && not g) (sym z) ∙ or_second h (on && not g) e)

    kept : (r : Place) → d ≤ c.levels → s.result ≡ granted r → let x = (trace w (direct_part c st d r is)).result in
        (k : Bool) → (held || (c.bits && not (is_granted (judged o x)))) ≡ k → P (cond k b (holding b (fill c (held_by p s (right_of c w st d s r.1)) (others c p b.held))))
    kept r l e true q = same
    kept r l e false q =
        fills r l e (λ on. ap (λ x. is_granted (judged o x)) (direct_result w c st d m.root is r (indexes_length c.levels (page_of a)) l e).0 ∙ only held c.bits _ q on)

    part : (x : Result Fault Place) → s.result ≡ x → d ≤ c.levels → P (shadowed c w b st d is p held o s x).book
    part (failed x) e l = same
    part (granted r) e l = kept r l e _ refl

    go : (t : Bool) → leb d c.levels ≡ t
        → P (cond t (shadowed c w b st d is p held o s s.result) (unshadowed b (plain c m st a).count (verdict c m st a))).book
    go true e = part s.result refl (leb→le d c.levels (subst T (sym e) tt))
    go false e = same

-- the path that a request fills
pub request_fits : (c : Config) (m : Machine) (ms : List Mark) (st : Bool) (a : ℕ) (r : Place) → All (MarkFits c.levels) ms
    → let is = address_indexes c a in
    let d = depth_in c m a (depth ms is) in
    let s = trace (world c m) (shadow_part c st d m.root is) in
    d ≤ c.levels → s.result ≡ granted r → PathFits c.levels ms (upper c d is) (length s.reads)
unfolding depth_in
request_fits c m ms st a r ok = go (trace w (shadow_part c false d m.root is)).result refl
  where
    w : World
    w = world c m

    is : List ℕ
    is = address_indexes c a

    long : length is ≡ c.levels
    long = indexes_length c.levels (page_of a)

    d : ℕ
    d = depth ms is

    part : ℕ → Trace Fault Place
    part e = trace w (shadow_part c st e m.root is)

    small : d ≤ c.levels → (part d).result ≡ granted r → PathFits c.levels ms (upper c d is) (length (part d).reads)
    small l h = fill_fits c.levels ms is (length (part d).reads) ok long l

    all : upper c 0 is ≡ is
    all = take_all (c.levels - 0) is (omega (arith, long))

    -- the walk of all indexes reads no more than that down to level d
    few : (q : Place) → (trace w (shadow_part c false d m.root is)).result ≡ granted q → is_span c q.0 ≡ true → (part 0).result ≡ granted r
        → length (part 0).reads ≤ c.levels - d
    few q e s h =
        let whole = walk_span w c st d m.root is q r long e s (ap (λ x. (trace w (walk c st m.root x)).result) (sym all) ∙ h) in
        subst (λ x. length (trace w (walk c st m.root x)).reads ≤ c.levels - d) (sym all) whole

    large : (q : Place) → (trace w (shadow_part c false d m.root is)).result ≡ granted q → is_span c q.0 ≡ true → (part 0).result ≡ granted r
        → PathFits c.levels ms (upper c 0 is) (length (part 0).reads)
    large q e s h = subst (λ x. PathFits c.levels ms x (length (part 0).reads)) (sym all) (large_fits c.levels ms is _ ok long (few q e s h))

    by : (q : Place) → (trace w (shadow_part c false d m.root is)).result ≡ granted q → (b : Bool) → is_span c q.0 ≡ b → let e = cond b 0 d in
        e ≤ c.levels → (part e).result ≡ granted r → PathFits c.levels ms (upper c e is) (length (part e).reads)
    by q e true s l h = large q e s h
    by q e false s l h = small l h

    go : (x : Result Fault Place) → (trace w (shadow_part c false d m.root is)).result ≡ x → let e = depth_by c d x in
        e ≤ c.levels → (part e).result ≡ granted r → PathFits c.levels ms (upper c e is) (length (part e).reads)
    go (failed x) e l h = small l h
    go (granted q) e l h = by q e (is_span c q.0) refl l h

pub request_keeps : (c : Config) (m : Machine) (b : Book) (st : Bool) (a : ℕ) → BookFits c b
    → BookFits c (request c m b st a (request_depth c m b a)).book
request_keeps c m b st a i =
    request_book (BookFits c) c m b st a (request_depth c m b a) i (λ r l e g. fill_keeps c b _ (request_fits c m b.marks st a r i.marks l e) i)

-- a store leaves the book as it is, or drops paths by the word that it came to
pub stored_book : (P : Book → Type 0) (i : ℕ) (x : Result Fault Place) (k : Counted)
    → P k.book → ((t : ℕ) → P (holding k.book (drop_word t i k.book.held))) → P (storing i x k).book
unfolding storing
stored_book P i (failed x) k same drops = same
stored_book P i (granted p) k same drops = drops p.0

storing_keeps : (c : Config) (i : ℕ) (x : Result Fault Place) (k : Counted) → BookFits c k.book → BookFits c (storing i x k).book
storing_keeps c i x k h = stored_book (BookFits c) i x k h (λ t. kept_fits c k.book (λ y. not (reads_word t i y)) h)

-- ---- the automatic choice

pub withdrawn_keeps : (c : Config) (p : List ℕ) (b : Book) → BookFits c b → BookFits c (withdrawn p b)
withdrawn_keeps c p b i = let k = clear_keeps c b (leaf_mark p) i in record { marks = k.marks; held = k.held }

pub room_keeps : (c : Config) (b : Book) → BookFits c b → BookFits c (room_made c b)
room_keeps c b i = room_has (BookFits c) c b i (λ p k. withdrawn_keeps c p b i)

leaf_fits : (c : Config) (p : List ℕ) → length p ≡ c.levels - 1 → MarkFits c.levels (leaf_mark p)
leaf_fits c p l = record { kept = l; bound = omega arith }

pub observed_keeps : (c : Config) (x : Option (List ℕ)) (b : Book) → IfSome (λ p. length p ≡ c.levels - 1) x → BookFits c b → BookFits c (observed c x b)
observed_keeps c x b l i =
    observed_has (BookFits c) c x b (λ z. i) (λ z. record { marks = i.marks; held = i.held }) (λ p k j. withdrawn_keeps c p (entered x b) j)
    (λ p q z f j.
    let k = set_keeps c (room_made c (entered x b)) (leaf_mark p) (leaf_fits c p (subst (IfSome (λ p. length p ≡ c.levels - 1)) q l)) j in
    record { marks = k.marks; held = k.held })

pub operated_keeps : (c : Config) (x : Mark) (b : Book) → MarkFits c.levels x → BookFits c b → BookFits c (operated c x b)
unfolding operated
operated_keeps c x b ok i = go (is_automatic b.automatic x)
  where
    go : (t : Bool) → BookFits c (marking x (cond t (withdrawn x.prefix b) (room_made c b)))
    go true = set_keeps c (withdrawn x.prefix b) x ok (withdrawn_keeps c x.prefix b i)
    go false = set_keeps c (room_made c b) x ok (room_keeps c b i)

-- no call changes the configuration
pub step_config : (x : Call) (s : State) → (step x s).1.config ≡ s.config
unfolding step
step_config x s = go (refusal s.config x s.machine s.book)
  where
    go : (r : Option ℕ) → (answered x s r).1.config ≡ s.config
    go (some n) = refl
    go none = refl

pub step_fits : (x : Call) (s : State) → BookFits s.config s.book → BookFits (step x s).1.config (step x s).1.book
unfolding step book_step tests refusal
step_fits x s i = go (refusal s.config x s.machine s.book) refl
  where
    c : Config
    c = s.config

    m : Machine
    m = s.machine

    b : Book
    b = s.book

    by : (y : Call) → refusal c y m b ≡ none → BookFits c (book_step c y m b).book
    by (root r) e = record { marks = i.marks; held = tt }
    by (map g f w) e = kept_fits c b (λ h. not (uses_mapping g h)) i
    by (unmap g) e = kept_fits c b (λ h. not (uses_mapping g h)) i
    by (set_mark a n) e = operated_keeps c (mark_at c n (address_indexes c a)) b (mark_fits_lem c n a (all_passed (tests c (set_mark a n) m b) e).1.0) i
    by (clear_mark a n) e = clear_keeps c b (mark_at c n (address_indexes c a)) i
    by (load a w) e = observed_keeps c none _ tt (request_keeps c m b false a i)
    by (store a w v) e = observed_keeps c _ _ (charge_long c (word_of a) (verdict c m true a) _) (storing_keeps c (word_of a) _ _ (request_keeps c m b true a i))
    by (device a w v) e = storing_keeps c (word_of a) _ _ i
    by (forecast xs) e = i

    go : (r : Option ℕ) → refusal c x m b ≡ r → BookFits (answered x s r).1.config (answered x s r).1.book
    go (some n) e = i
    go none e = by x e

pub opened_fits : (c : Config) (on : Bool) (memory : List ℕ) → BookFits c (opened c on memory).book
opened_fits c on memory = record { marks = tt; held = tt }

pub run_fits : (xs : List Call) (s : State) → BookFits s.config s.book → BookFits (after xs s).config (after xs s).book
unfolding after
run_fits [] s i = i
run_fits (x ∷ xs) s i = run_fits xs (step x s).1 (step_fits x s i)
