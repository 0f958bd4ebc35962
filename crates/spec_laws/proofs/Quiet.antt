-- Document 02, 5): with bits off a quiet stretch keeps what is held and adds what it touches, and each path that it adds costs one exit.
-- Assumes nothing.
use mathlib.Core.Path.{◌≡◌, refl, sym, ap, ap₂, ◌∙◌, subst}
use mathlib.Core.Logic.{inl, inr}
use Prim.Native.Nat.{ℕ, ◌+◌, ◌^◌, ◌≤◌, ◌<◌}
use native.Mathlib.Nat.{add-zero}
use native.Mathlib.Omega.{arith}
use mathlib.Core.Bool.{Bool, true, false, not, ◌&&◌, ◌||◌, cond, or-true}
use mathlib.Core.List.{List, [], ◌∷◌, ◌++◌}
use mathlib.Core.Option.{Option, none, some}
use lib.Dec.{T, leb, leb→le, le→leb}
use Rattle.spec.specs.declared.Fault.{Fault}
use Rattle.spec.specs.Answer.{Line}
use Rattle.spec.specs.Config.{Config, frame_bits}
use Rattle.spec.specs.Entry.{word_of}
use Rattle.spec.specs.Prefix.{All, same, any, tables_of, distinct}
use Rattle.spec.specs.Walk.{Result, granted, failed}
use Rattle.spec.specs.Plain.{Place, upper}
use Rattle.spec.specs.Machine.{Machine, stored}
use Rattle.spec.specs.Book.{Held, Book, find, paths, holding, watched, reads_word}
use Rattle.spec.specs.Call.{Call, root, map, unmap, set_mark, clear_mark, load, store, device, forecast, Outcome, address_indexes, plain, access, machine_step}
use Rattle.spec.specs.Choice.{charge_of}
use Rattle.spec.specs.Count.{Counted, one, serves, others, is_granted, depth_in, request_depth, request, storing, book_step, windowed}
use Rattle.spec.specs.Refusal.{all_of, refusal}
use Rattle.spec.specs.Run.{State, line_of, answered, step, run, after}
use Rattle.spec.specs.Serving.{exits_paid, all_paid}
use Rattle.spec.specs.Quiet.{Role, role_of, role_by, met, granted_at, only_granted, translated, comes_to_watched, unwatched_at, none_watched, path_of, path_at, added, paths_at, touched, all_fit, quiet, quiet_exits}
use Rattle.spec_laws.proofs.Charges.{quiet_charge}
use Rattle.spec_laws.proofs.Choice.{none_held}
use Rattle.spec_laws.proofs.Lists.{all_map, all_both, and_left, and_right, is_true, is_false, not_both, same_is, or_cases, or_left, or_right, or_swap}
use Rattle.spec_laws.proofs.Before.{off_verdict, off_bits}
use Rattle.spec_laws.proofs.Distinct.{in_right}
use Rattle.spec_laws.proofs.Refill.{others_all}
use Rattle.spec_laws.proofs.Keeps.{Valid, InGuestArea, MappedIn, upper_small, upper_long, plain_in, store_keeps, unwatched_unread, drop_unwatched, depth_real, fill_valid}
use Rattle.spec_laws.proofs.Runs.{fill_all, request_book}
use Rattle.spec_laws.proofs.Added.{any_append}
use Rattle.spec_laws.proofs.Members.{Within, SamePaths, distinct_same, tables_within, distinct_new, none_new}
use Rattle.spec_laws.proofs.Price.{filled, serves_load, serves_store, request_priced, granted_price}
use Rattle.spec_laws.proofs.Forecast.{access_paid}

-- held paths that stand for their shadow parts, on a machine whose mappings lead into the guest area
pub record Sound (c : Config) (m : Machine) (hs : List Held) : Type 0 where
  pub mapped : MappedIn c m
  pub root : m.root < 2 ^ frame_bits c
  pub valid : All (Valid c m) hs

abbrev pub SoundAt : State → Type 0
SoundAt s = Sound s.config s.machine s.book.held

-- ---- a request that is granted

-- it pays one exit if it has a path and that is not held, and then holds it
abbrev pays : Option (List ℕ) → List (List ℕ) → ℕ
pays none hs = 0
pays (some p) hs = one (not (any (same p) hs))

abbrev holds : Config → Option (List ℕ) → List (List ℕ) → List (List ℕ)
holds c none hs = hs
holds c (some p) hs = cond (any (same p) hs) hs (filled c p hs)

serves_granted : (c : Config) (m : Machine) (st : Bool) (a d : ℕ) (hs : List Held) (r : Place) → c.bits ≡ false → All (Valid c m) hs → (plain c m st a).result ≡ granted r
    → let p = upper c d (address_indexes c a) in serves st d (find p hs) ≡ any (same p) (paths hs)
serves_granted c m false a d hs r off va h = serves_load d (upper c d (address_indexes c a)) hs
serves_granted c m true a d hs r off va h = serves_store c m a d hs r off va h

record Costs (c : Config) (hs : List (List ℕ)) (t : Option (List ℕ)) (e : ℕ) (ks : List (List ℕ)) : Type 0 where
  exits : e ≡ pays t hs
  held : ks ≡ holds c t hs

request_costs : (c : Config) (m : Machine) (b : Book) (st : Bool) (a : ℕ) (r : Place) → c.bits ≡ false → All (Valid c m) b.held → (plain c m st a).result ≡ granted r
    → let k = request c m b st a (request_depth c m b a) in Costs c (paths b.held) (path_of c a (request_depth c m b a)) k.exits (paths k.book.held)
request_costs c m b st a r off va h =
    let k = request_priced c m b st a d off (serves_granted c m st a d b.held r off va h) in
    let g = granted_price c m st a d held r h in
    go (leb d c.levels) _ _ (k.exits ∙ g.0 ∙ ap one g.1) (k.held ∙ ap (λ t. cond t (filled c p (paths b.held)) (paths b.held)) g.1)
  where
    d : ℕ
    d = request_depth c m b a

    p : List ℕ
    p = upper c d (address_indexes c a)

    held : Bool
    held = any (same p) (paths b.held)

    go : (low : Bool) (e : ℕ) (ks : List (List ℕ)) → e ≡ one (low && not held) → ks ≡ cond (low && not held) (filled c p (paths b.held)) (paths b.held)
        → Costs c (paths b.held) (cond low (some p) none) e ks
    go true e ks x y = record { exits = x; held = y ∙ flip held }
      where
        flip : (t : Bool) → cond (not t) (filled c p (paths b.held)) (paths b.held) ≡ cond t (paths b.held) (filled c p (paths b.held))
        flip true = refl
        flip false = refl
    go false e ks x y = record { exits = x; held = y }

request_sound : (c : Config) (m : Machine) (b : Book) (st : Bool) (a e : ℕ) → Sound c m b.held → Sound c m (request c m b st a (depth_in c m a e)).book.held
request_sound c m b st a e i = record {
  mapped = i.mapped;
  root = i.root;
  valid = request_book (λ x. All (Valid c m) x.held) c m b st a d i.valid
      (λ r l z g. fill_all (Valid c m) c _ (others c p b.held) (fill_valid c m st d p r (upper_small c d a) (upper_long c d a) z (depth_real c m a _ i.mapped i.root st r z)) (others_all (Valid c m) c p b.held i.valid));
}
  where
    d : ℕ
    d = depth_in c m a e

    p : List ℕ
    p = upper c d (address_indexes c a)

-- ---- a store into a frame that is not watched

storing_unwatched : (i : ℕ) (p : Place) (k : Counted) → T (not (watched p.0 k.book.held)) → storing i (granted p) k ≡ k
unfolding storing
storing_unwatched i p k n =
    ap₂ (λ e hs. record { references = k.references; exits = e; book = holding k.book hs })
    (ap (λ b. k.exits + one b) (is_false (watched p.0 k.book.held) (λ w. not_both (watched p.0 k.book.held) w n)) ∙ add-zero k.exits)
    (drop_unwatched p.0 i k.book.held n)

stored_sound : (c : Config) (m : Machine) (t i v : ℕ) (hs : List Held) → InGuestArea c t → i < 512 → T (not (watched t hs)) → Sound c m hs → Sound c (stored c m t i v) hs
stored_sound c m t i v hs at l n s = record {
  mapped = s.mapped;
  root = s.root;
  valid = all_map (λ h. Valid c m h × T (not (reads_word t i h))) (Valid c (stored c m t i v)) hs (λ h k. store_keeps c m t i v h s.mapped s.root at.0 l k.0 k.1)
      (all_both (Valid c m) (λ h. T (not (reads_word t i h))) hs s.valid (unwatched_unread t i hs n));
}

-- ---- one call

-- the step o of a call that touches t, if any, in state s
record Stepped (s : State) (t : Option (List ℕ)) (o : Line × State) : Type 0 where
  config : o.1.config ≡ s.config
  costs : Costs s.config (paths s.book.held) t (exits_paid o.0) (paths o.1.book.held)
  sound : SoundAt o.1

-- what a granted load or store (v: its value) does, r being where it comes to, if its step on the book is k
abbrev does : State → ℕ → ℕ → Option ℕ → Place → Counted → Line × State
does s a w v r k =
    let o : Outcome × Machine = access s.config s.machine s.machine a w v (granted r) in
    (line_of o.0 k.references k.exits, record { config = s.config; machine = o.1; book = k.book })

-- its request's, charged to nobody
abbrev asked : State → Bool → ℕ → Counted
asked s st a = request s.config s.machine s.book st a (request_depth s.config s.machine s.book a)

abbrev requested : State → Bool → ℕ → Counted
requested s st a = windowed s.config none (asked s st a)

-- the window alone has moved
same_held : (s : State) (st : Bool) (a : ℕ) → (requested s st a).book.held ≡ (asked s st a).book.held
same_held s st a = none_held s.config (asked s st a).book

request_stepped : (s : State) (st : Bool) (a w : ℕ) (v : Option ℕ) (r : Place) → s.config.bits ≡ false → SoundAt s → (plain s.config s.machine st a).result ≡ granted r
    → SoundAt (does s a w v r (requested s st a)).1 → Stepped s (path_of s.config a (request_depth s.config s.machine s.book a)) (does s a w v r (requested s st a))
request_stepped s st a w v r off i h next =
    let k = requested s st a in
    let t = request_costs s.config s.machine s.book st a r off i.valid h in
    record {
      config = refl;
      costs = record { exits = (access_paid s.config s.machine s.machine a w v (granted r) k.references k.exits).1 ∙ t.exits; held = ap paths (same_held s st a) ∙ t.held };
      sound = next;
    }

load_stepped : (a w : ℕ) (s : State) (r : Place) → s.config.bits ≡ false → SoundAt s → (plain s.config s.machine false a).result ≡ granted r
    → Stepped s (path_of s.config a (request_depth s.config s.machine s.book a)) (answered (load a w) s none)
unfolding machine_step book_step access
load_stepped a w s r off i h =
    let c = s.config in
    let m = s.machine in
    let k = requested s false a in
    let e : answered (load a w) s none ≡ does s a w none r k =
    ap₂ (λ n x. (line_of (access c m n a w none x).0 k.references k.exits, record { config = c; machine = (access c m n a w none x).1; book = k.book }))
    (off_bits c false m (plain c m false a) off) (off_verdict c m false a off ∙ h) in
    subst (Stepped s (path_of c a (request_depth c m s.book a))) (sym e)
    (request_stepped s false a w none r off i h
    (subst (Sound c m) (sym (same_held s false a)) (request_sound c m s.book false a _ i)))

store_stepped : (a w v : ℕ) (s : State) (r : Place) → s.config.bits ≡ false → SoundAt s → (plain s.config s.machine true a).result ≡ granted r → T (not (watched r.0 (translated s true a)))
    → Stepped s (path_of s.config a (request_depth s.config s.machine s.book a)) (answered (store a w v) s none)
unfolding machine_step book_step access word_of
store_stepped a w v s r off i h n =
    let c = s.config in
    let m = s.machine in
    let k = asked s true a in
    let e : answered (store a w v) s none ≡ does s a w (some v) r (requested s true a) =
    ap₂ (λ n x.
    let y : Counted = windowed c (charge_of c (word_of a) x k.book.held) (storing (word_of a) x k) in
    (line_of (access c m n a w (some v) x).0 y.references y.exits, record { config = c; machine = (access c m n a w (some v) x).1; book = y.book }))
    (off_bits c true m (plain c m true a) off) (off_verdict c m true a off ∙ h)
    ∙ ap₂ (λ x y. does s a w (some v) r (windowed c x y)) (quiet_charge c (word_of a) r k.book.held n) (storing_unwatched (word_of a) r k n) in
    subst (Stepped s (path_of c a (request_depth c m s.book a))) (sym e)
    (request_stepped s true a w (some v) r off i h
    (subst (Sound c _) (sym (same_held s true a))
    (stored_sound c m r.0 (word_of a) _ k.book.held (plain_in c m true a r i.mapped i.root h) (omega arith) n
    (request_sound c m s.book true a _ i))))

-- a call that has its place in a quiet stretch
quiet_call : (x : Call) (s : State) → s.config.bits ≡ false → SoundAt s
    → let o : Role × State = (role_by x (refusal s.config x s.machine s.book), s) in
    T (granted_at o) → T (unwatched_at o) → Stepped s (path_at o) (step x s)
unfolding step machine_step book_step
quiet_call x s off i g n = go (refusal s.config x s.machine s.book) g n
  where
    loads : (a w : ℕ) (y : Result Fault Place) → (plain s.config s.machine false a).result ≡ y → T (is_granted y)
        → Stepped s (path_of s.config a (request_depth s.config s.machine s.book a)) (answered (load a w) s none)
    loads a w (granted r) h k = load_stepped a w s r off i h
    loads a w (failed f) h k = absurd k

    stores : (a w v : ℕ) (y : Result Fault Place) → (plain s.config s.machine true a).result ≡ y → T (is_granted y) → T (not (comes_to_watched (translated s true a) y))
        → Stepped s (path_of s.config a (request_depth s.config s.machine s.book a)) (answered (store a w v) s none)
    stores a w v (granted r) h k u = store_stepped a w v s r off i h u
    stores a w v (failed f) h k u = absurd k

    by : (y : Call) → T (granted_at (role_of y, s)) → T (unwatched_at (role_of y, s)) → Stepped s (path_at (role_of y, s)) (answered y s none)
    by (root r) k u = absurd k
    by (map g f w) k u = absurd k
    by (unmap g) k u = absurd k
    by (set_mark a n) k u = absurd k
    by (clear_mark a n) k u = absurd k
    by (load a w) k u = loads a w (plain s.config s.machine false a).result refl k
    by (store a w v) k u = stores a w v (plain s.config s.machine true a).result refl k u
    by (device a w v) k u = absurd k
    by (forecast ys) k u = record { config = refl; costs = record { exits = refl; held = refl }; sound = i }

    go : (r : Option ℕ) → T (granted_at (role_by x r, s)) → T (unwatched_at (role_by x r, s)) → Stepped s (path_at (role_by x r, s)) (answered x s r)
    go (some z) k u = record { config = refl; costs = record { exits = refl; held = refl }; sound = i }
    go none k u = by x k u

-- ---- the stretch

-- with room for all, what is touched is held too, and nothing is dropped
abbrev grown : Option (List ℕ) → List (List ℕ) → List (List ℕ)
grown none hs = hs
grown (some p) hs = cond (any (same p) hs) hs (p ∷ hs)

grown_same : (t : Option (List ℕ)) (ps hs : List (List ℕ)) → SamePaths (ps ++ grown t hs) (added t ps ++ hs)
grown_same none ps hs q = refl
grown_same (some p) ps hs q = go (any (same p) hs) refl
  where
    held : (b : Bool) → same q p ≡ b → any (same p) hs ≡ true → any (same q) (ps ++ hs) ≡ (b || any (same q) (ps ++ hs))
    held true e k = any_append (same q) ps hs ∙ ap (λ b. any (same q) ps || b) (ap (λ x. any (same x) hs) (same_is q p (subst T (sym e) tt)) ∙ k) ∙ or-true (any (same q) ps)
    held false e k = refl

    go : (b : Bool) → any (same p) hs ≡ b → any (same q) (ps ++ cond b hs (p ∷ hs)) ≡ (same q p || any (same q) (ps ++ hs))
    go true k = held (same q p) refl k
    go false k = any_append (same q) ps (p ∷ hs) ∙ or_swap (any (same q) ps) (same q p) (any (same q) hs) ∙ ap (λ b. same q p || b) (sym (any_append (same q) ps hs))

-- one path more where it was paid for
grown_paid : (t : Option (List ℕ)) (hs : List (List ℕ)) → distinct (grown t hs) ≡ pays t hs + distinct hs
grown_paid none hs = omega arith
grown_paid (some p) hs = go (any (same p) hs) refl
  where
    go : (b : Bool) → any (same p) hs ≡ b → distinct (cond b hs (p ∷ hs)) ≡ one (not b) + distinct hs
    go true e = omega arith
    go false e = ap (λ b. cond b 0 1 + distinct hs) e

-- what fits with all that is touched later fits now
grown_fits : (c : Config) (t : Option (List ℕ)) (ps hs : List (List ℕ)) → tables_of (added t ps ++ hs) ≤ c.shadows → holds c t hs ≡ grown t hs
grown_fits c none ps hs l = refl
grown_fits c (some p) ps hs l =
    let k = tables_within (p ∷ hs) (p ∷ (ps ++ hs)) within in
    ap (λ b. cond (any (same p) hs) hs (cond b (p ∷ hs) (p ∷ []))) (is_true (leb (tables_of (p ∷ hs)) c.shadows) (le→leb (tables_of (p ∷ hs)) c.shadows (omega (arith, k, l))))
  where
    within : Within (p ∷ hs) (p ∷ (ps ++ hs))
    within q h = elim (or_cases (same q p) (any (same q) hs) h) [ inl a ↦ or_left (same q p) _ a | inr a ↦ or_right (same q p) _ (in_right q ps hs a) ]

-- what the calls of a stretch pay makes up for what is held after them
record Stretched (ps hs ks : List (List ℕ)) (e : ℕ) : Type 0 where
  paid : distinct ks ≡ e + distinct hs
  kept : SamePaths ks (ps ++ hs)

stretched : (xs : List Call) (s : State) → s.config.bits ≡ false → SoundAt s → T (all_of granted_at (met xs s)) → T (all_of unwatched_at (met xs s))
    → tables_of (paths_at (met xs s) ++ paths s.book.held) ≤ s.config.shadows
    → Stretched (paths_at (met xs s)) (paths s.book.held) (paths (after xs s).book.held) (all_paid exits_paid (run xs s))
unfolding met run after
stretched [] s off i g n l = record { paid = omega arith; kept = λ p. refl }
stretched (x ∷ xs) s off i g n l =
    let o : Role × State = (role_by x (refusal s.config x s.machine s.book), s) in
    let u = (step x s).1 in
    let ps = paths_at (met xs u) in
    let hs = paths s.book.held in
    let f = quiet_call x s off i (and_left (granted_at o) _ g) (and_left (unwatched_at o) _ n) in
    let now : paths u.book.held ≡ grown (path_at o) hs = f.costs.held ∙ grown_fits s.config (path_at o) ps hs l in
    let moved : SamePaths (ps ++ paths u.book.held) (added (path_at o) ps ++ hs) = λ p. ap (λ y. any (same p) (ps ++ y)) now ∙ grown_same (path_at o) ps hs p in
    let room = tables_within (ps ++ paths u.book.held) (added (path_at o) ps ++ hs) (λ p h. subst T (moved p) h) in
    let rest = stretched xs u (ap (λ (c : Config). c.bits) f.config ∙ off) f.sound (and_right (granted_at o) _ g) (and_right (unwatched_at o) _ n) (subst (λ c. tables_of (ps ++ paths u.book.held) ≤ c.shadows) (sym f.config) (omega (arith, room, l))) in
    let here = ap distinct now ∙ grown_paid (path_at o) hs ∙ ap (λ e. e + distinct hs) (sym f.costs.exits) in
    record { paid = omega (arith, rest.paid, here); kept = λ p. rest.kept p ∙ moved p }

-- ---- of machine and book

quiet_stretched : (xs : List Call) (s : State) → s.config.bits ≡ false → SoundAt s → T (quiet xs s)
    → Stretched (touched xs s) (paths s.book.held) (paths (after xs s).book.held) (all_paid exits_paid (run xs s))
unfolding quiet only_granted none_watched all_fit touched
quiet_stretched xs s off i q =
    let k = and_left (only_granted xs s && none_watched xs s) (all_fit xs s) q in
    stretched xs s off i (and_left (only_granted xs s) (none_watched xs s) k) (and_right (only_granted xs s) (none_watched xs s) k)
    (leb→le (tables_of (paths_at (met xs s) ++ paths s.book.held)) s.config.shadows (and_right (only_granted xs s && none_watched xs s) (all_fit xs s) q))

-- after a quiet stretch just those paths are held that were held, or that it touched
pub quiet_keeps : (xs : List Call) (s : State) → s.config.bits ≡ false → SoundAt s → T (quiet xs s) → SamePaths (paths (after xs s).book.held) (touched xs s ++ paths s.book.held)
quiet_keeps xs s off i q = (quiet_stretched xs s off i q).kept

-- and its exits are the figure
pub quiet_costs : (xs : List Call) (s : State) → s.config.bits ≡ false → SoundAt s → T (quiet xs s) → all_paid exits_paid (run xs s) ≡ quiet_exits xs s
unfolding quiet_exits
quiet_costs xs s off i q =
    let k = quiet_stretched xs s off i q in
    let a = distinct_same (paths (after xs s).book.held) (touched xs s ++ paths s.book.held) k.kept in
    let b = distinct_new (touched xs s) (paths s.book.held) in
    omega (arith, k.paid, a, b)

-- which is 0 where all that it touches is held
pub settled_costs : (xs : List Call) (s : State) → Within (touched xs s) (paths s.book.held) → quiet_exits xs s ≡ 0
unfolding quiet_exits
settled_costs xs s w = none_new (touched xs s) (paths s.book.held) w
