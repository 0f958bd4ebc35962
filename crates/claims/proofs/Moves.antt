-- What goes over from one record and memory to the next, whatever the call: the rules of the record, the host tables, the
-- machine that memory stands for, the held paths.
-- Assumes nothing.
use mathlib.Core.Path.{◌≡◌, refl, sym, ap, ◌∙◌, subst}
use mathlib.Core.Logic.{◌⊎◌, inl}
use Prim.Native.Nat.{ℕ, ◌+◌, ◌*◌, ◌^◌, ◌<◌, ◌≤◌}
use native.Mathlib.Omega.{arith}
use mathlib.Core.Bool.{Bool, true, false, cond}
use mathlib.Core.List.{List, [], ◌∷◌, head-eq_of_cons-eq}
use mathlib.Core.Option.{Option, none, some, some-injective}
use lib.Dec.{ltb}
use lib.ListN.{length, drop}
use Rattle.spec.specs.Config.{Config, guest_base, frame_bits}
use Rattle.spec.specs.Prefix.{same, keep}
use Rattle.spec.specs.Plain.{Place}
use Rattle.spec.specs.Machine.{Machine, Mapping, lookup, host_cost}
use Rattle.spec.specs.Book.{Held, find, holding}
use Rattle.spec.specs.Answer as say
use Rattle.spec.specs.Answer.{line}
use Rattle.spec.specs.Call.{Call, machine_step}
use Rattle.spec.specs.Count.{book_step}
use Rattle.spec.specs.Refusal.{first_failed, refusal}
use Rattle.spec.specs.Run.{State, told, step}
use Rattle.spec.specs.Prefix.{All}
use Rattle.spec_laws.proofs.Lists.{all_kept}
use Rattle.spec_laws.proofs.Trail.{frame_in, frame_at}
use Rattle.spec_laws.proofs.Keeps.{Valid, InGuestArea}
use Rattle.spec_laws.proofs.Runs.{BookFits, step_fits}
use Rattle.pool.specs.declared.Pool.{Pool}
use Rattle.pool.specs.Pool.{none_of}
use Rattle.area_laws.proofs.Stores.{Beside, beside_drop}
use Rattle.area_laws.proofs.Whole.{Holds, holds_none, holds_leaves, holds_beside}
use Rattle.host.specs.Map.{host_area}
use Rattle.host.proofs.Mapping.{Maps, answer_by}
use Rattle.walk.specs.Memory.{place_of, memory_world}
use Rattle.walk.proofs.Stands.{Stands}
use Rattle.marks.specs.Reading.{marks_of}
use Rattle.marks.proofs.Order.{SameMembers}
use Rattle.marks.proofs.Book.{Sorted}
use Rattle.choice.specs.declared.Tally.{Tally}
use Rattle.choice.specs.Order.{choice_fits}
use Rattle.choice.proofs.Chosen.{Chosen, chosen_same}
use Rattle.record.specs.declared.Record.{Record}
use Rattle.entry.specs.declared.HostPhysical.{HostPhysical}
use Rattle.record.specs.Record.{config_of, head_of, head_tables, head_tally, with_head}
use Rattle.translate.specs.declared.Held.{Held as Holding}
use Rattle.record.proofs.Rules.{Table, Fits, PoolFits, fits_layout, fits_true}
use Rattle.shadow.specs.Held.{shadow_area}
use Rattle.drops.specs.declared.Left.{Left}
use Rattle.drops_laws.proofs.Scan.{Dropped}
use Rattle.drops_laws.proofs.Held.{leaf_at, leaf_none}
use Rattle.drops_laws.proofs.Valid.{frames_at, entry_of, valid_entry, Stays, holds_on}
use Rattle.calls.specs.Calls.{host_top, head_held, head_host, with_held, with_host, refused, dropped_by}
use Rattle.claims.proofs.Invariant.{longer, top_by, Inv, Follows, stands, at}
use Rattle.words.specs.After.{After}
use Rattle.calls.specs.declared.Reply.{Reply}

-- ---- the record
module _ {r : Record} {len : ℕ} (f : Fits r len) where
  -- with other paths held
  pub fits_held : (h : Holding) → PoolFits r.layout.hosts r.layout.shadows h.pool → (h.frame.0 ≡ 0) ⊎ InGuestArea (config_of r) h.frame.0 → Fits (with_held r h) len
  unfolding head_held head_tables
  fits_held h pool held = record {
    long = f.long;
    bits = f.bits;
    sizes = f.sizes;
    root = f.root;
    marks = f.marks;
    chosen = f.chosen;
    held = held;
    top = f.top;
    host = f.host;
    shadow = pool;
  }

  -- with other host tables
  pub fits_host : (p : Pool) → PoolFits 0 r.layout.hosts p → Table 0 r.layout.hosts p.top → Fits (with_host r p) len
  unfolding head_host head_tables
  fits_host p pool top = record {
    long = f.long;
    bits = f.bits;
    sizes = f.sizes;
    root = f.root;
    marks = f.marks;
    chosen = f.chosen;
    held = f.held;
    top = top;
    host = pool;
    shadow = f.shadow;
  }

  -- with another tally of the automatic choice
  pub fits_chosen : (t : Tally) → choice_fits t r.guest.choice.order r.guest.marks.place r.guest.marks.set ≡ true → Fits (with_head r (head_tally (head_of r) t)) len
  unfolding head_tally
  fits_chosen t e = record {
    long = f.long;
    bits = f.bits;
    sizes = f.sizes;
    root = f.root;
    marks = f.marks;
    chosen = e;
    held = f.held;
    top = f.top;
    host = f.host;
    shadow = f.shadow;
  }

  -- where shadow tables may stand: in the memory
  pub fits_room : (r.layout.hosts + r.layout.shadows ≤ 65536) × ((r.layout.hosts + r.layout.shadows) * 512 ≤ len)
  fits_room =
      let z = f.sizes in
      (omega (arith, z.guest, z.frames), omega (arith, f.long, z.guest))

-- ---- memory
-- a change in the shadow tables alone
module _ (c : Config) {m n : List ℕ} (k : Beside (shadow_area c) m n) where
  pub maps_beside : {xs : List Mapping} {p : Pool} → Maps c xs p m → Maps c xs p n
  maps_beside h = record {
    deep = h.deep;
    few = h.few;
    holds = holds_beside h.holds (shadow_area c) n (inl (omega arith)) k;
    frames = h.frames;
    inside = h.inside;
  }

  pub shadow_drop : drop (512 * guest_base c) n ≡ drop (512 * guest_base c) m
  shadow_drop = beside_drop k (512 * guest_base c) (omega arith)

-- a change in the host tables alone
pub host_drop : (c : Config) {m n : List ℕ} → Beside (host_area c) m n → drop (512 * guest_base c) n ≡ drop (512 * guest_base c) m
host_drop c k = beside_drop k (512 * guest_base c) (omega arith)

-- ---- the machine that memory stands for
module _ {s : State} {r : Record} {m : List ℕ} (h : Inv s r m) where
  pub inv_fits : Fits r (length m)
  inv_fits = fits_layout r (length m) h.fits

  pub inv_stands : Stands (config_of r) s.machine (host_top r) m
  inv_stands = stands (config_of r) s.machine r.pools.host m h.maps h.area

  pub inv_root : s.machine.root < 2 ^ frame_bits (config_of r)
  inv_root = subst (λ x. x < 2 ^ frame_bits (config_of r)) h.root inv_fits.root

  -- the shadow tables and the held frame, by the machine's root
  pub inv_shadow : let F = frames_at (config_of r) (host_top r) m s.machine.root in
      Holds (shadow_area (config_of r)) false r.pools.shadow m (leaf_at (entry_of (config_of r) F) (longer s.book.held)) F
  inv_shadow = subst (λ x. let F = frames_at (config_of r) (host_top r) m x in Holds (shadow_area (config_of r)) false r.pools.shadow m (leaf_at (entry_of (config_of r) F) (longer s.book.held)) F) h.root h.shadow

  pub inv_top : r.guest.held.0 ≡ top_by (frames_at (config_of r) (host_top r) m s.machine.root []) (find [] s.book.held)
  inv_top = subst (λ x. r.guest.held.0 ≡ top_by (frames_at (config_of r) (host_top r) m x []) (find [] s.book.held)) h.root h.top

-- the invariant, by the machine's root
pub invariant : (s : State) (r : Record) (m : List ℕ) → Fits r (length m) → Sorted r.layout.levels r.guest.marks → r.guest.root.0 ≡ s.machine.root
    → Maps (config_of r) s.machine.mappings r.pools.host m → drop (512 * guest_base (config_of r)) m ≡ s.machine.area
    → BookFits (config_of r) s.book → All (Valid (config_of r) s.machine) s.book.held
    → SameMembers (marks_of r.layout.levels r.guest.marks) s.book.marks → Chosen (config_of r) r.guest.choice r.guest.marks s.book
    → (let F = frames_at (config_of r) (host_top r) m s.machine.root in
    Holds (shadow_area (config_of r)) false r.pools.shadow m (leaf_at (entry_of (config_of r) F) (longer s.book.held)) F)
    → r.guest.held.0 ≡ top_by (frames_at (config_of r) (host_top r) m s.machine.root []) (find [] s.book.held) → Inv s r m
invariant s r m fits sorted root maps area book valid marks chosen shadow top = record {
  fits = fits_true r (length m) sorted.word fits;
  sorted = sorted;
  root = root;
  maps = maps;
  area = area;
  book = book;
  valid = valid;
  marks = marks;
  chosen = chosen;
  shadow = subst (λ x. let F = frames_at (config_of r) (host_top r) m x in Holds (shadow_area (config_of r)) false r.pools.shadow m (leaf_at (entry_of (config_of r) F) (longer s.book.held)) F) (sym root) shadow;
  top = subst (λ x. r.guest.held.0 ≡ top_by (frames_at (config_of r) (host_top r) m x []) (find [] s.book.held)) (sym root) top;
}

-- the host frame of the root's guest table
pub frame_root : (c : Config) (s : Machine) (ht : ℕ) (m : List ℕ) → Stands c s ht m → s.root < 2 ^ frame_bits c → frames_at c ht m s.root [] ≡ frame_in (lookup s.root s.mappings)
unfolding frame_at memory_world
frame_root c s ht m st b = ap (λ x. frame_in (place_of x)) (st.tables s.root b) ∙ go (lookup s.root s.mappings)
  where
    go : (o : Option Place) → frame_in (place_of (answer_by (host_cost c s.mappings s.root) o)) ≡ frame_in o
    go none = refl
    go (some x) = refl

-- ---- held paths
keep_front : {A : Type 0} (f g : A → Bool) (x : A) (xs : List A) (a b : Bool) → f x ≡ a → g x ≡ b → keep f (keep g xs) ≡ keep g (keep f xs)
    → keep f (cond b (x ∷ keep g xs) (keep g xs)) ≡ keep g (cond a (x ∷ keep f xs) (keep f xs))
keep_front f g x xs true true p q e = rw (p, q) (ap (λ l. x ∷ l) e)
keep_front f g x xs true false p q e = rw q e
keep_front f g x xs false true p q e = rw p e
keep_front f g x xs false false p q e = e

pub keep_swap : {A : Type 0} (f g : A → Bool) (xs : List A) → keep f (keep g xs) ≡ keep g (keep f xs)
keep_swap f g [] = refl
keep_swap f g (x ∷ xs) = keep_front f g x xs (f x) (g x) refl refl (keep_swap f g xs)

-- a drop, then those with an index, is the other way round
pub longer_keep : (f : Held → Bool) (hs : List Held) → longer (keep f hs) ≡ keep f (longer hs)
longer_keep f hs = keep_swap (λ (h : Held). ltb 0 (length h.path)) f hs

pub all_longer : (P : Held → Type 0) (hs : List Held) → All P hs → All P (longer hs)
all_longer P hs a = all_kept P (λ (h : Held). ltb 0 (length h.path)) hs a

same_empty : (h : Held) → same [] h.path ≡ true → h.path ≡ []
same_empty h e = go h.path e
  where
    go : (p : List ℕ) → same [] p ≡ true → p ≡ []
    go [] e = refl
    go (i ∷ p) e = let z : ◌≡◌ {A = ℕ} 0 1 = cc in absurd (omega arith)

-- a drop that leaves the path of no index
pub find_keep : (f : Held → Bool) (hs : List Held) → All (λ h. h.path ≡ [] → f h ≡ true) hs → find [] (keep f hs) ≡ find [] hs
find_keep f [] a = refl
find_keep f (h ∷ hs) a = go (f h) refl (same [] h.path) refl (find_keep f hs a.1)
  where
    go : (b : Bool) → f h ≡ b → (d : Bool) → same [] h.path ≡ d → find [] (keep f hs) ≡ find [] hs
        → find [] (cond b (h ∷ keep f hs) (keep f hs)) ≡ cond d (some h) (find [] hs)
    go true p d q ih = rw q (ap (cond d (some h)) ih)
    go false p true q ih = let e : true ≡ false = sym (a.0 (same_empty h q)) ∙ p in let z : ◌≡◌ {A = ℕ} 0 1 = cc in absurd (omega arith)
    go false p false q ih = ih

-- what is found has what every one has
pub find_all : (P : Held → Type 0) (p : List ℕ) (hs : List Held) (x : Held) → All P hs → find p hs ≡ some x → P x
find_all P p [] x a e = let z : ◌≡◌ {A = ℕ} 0 1 = cc in absurd (omega arith)
find_all P p (h ∷ hs) x a e = go (same p h.path) e (find_all P p hs x a.1)
  where
    go : (b : Bool) → cond b (some h) (find p hs) ≡ some x → (find p hs ≡ some x → P x) → P x
    go true k ih = subst P (some-injective h x k) a.0
    go false k ih = ih k

-- no path is held
pub shadow_none : {r : Record} {len : ℕ} → Fits r len → (m : List ℕ) → length m ≡ len → (w : Held → ℕ) (F : List ℕ → ℕ)
    → Holds (shadow_area (config_of r)) false none_of m (leaf_at w []) F
shadow_none {r = r} f m e w F =
    let k = fits_room f in
    holds_leaves (holds_none (shadow_area (config_of r)) F m k.0 (omega (arith, f.sizes.deep)) (omega (arith, e, k.1))) (leaf_at w []) (λ y. sym (leaf_none w y))

-- the held paths that stay from one machine to the next
pub shadow_on : {c : Config} {p : Pool} {o : List ℕ} (hs : List Held) (s t : Machine) (hm hn : ℕ) (m n : List ℕ) → Stands c s hm m → Stands c t hn n
    → s.root < 2 ^ frame_bits c → t.root < 2 ^ frame_bits c → c.frames ≤ 65536 → All (Stays c s t) hs
    → Holds (shadow_area c) false p o (leaf_at (entry_of c (frames_at c hm m s.root)) (longer hs)) (frames_at c hm m s.root)
    → Holds (shadow_area c) false p o (leaf_at (entry_of c (frames_at c hn n t.root)) (longer hs)) (frames_at c hn n t.root)
shadow_on {c = c} hs s t hm hn m n sm tn bs bt few a h = holds_on (longer hs) s t hm hn m n sm tn bs bt few (all_longer (Stays c s t) hs a) h

-- the held frame of the path of no index stays too
pub top_on : (c : Config) (hs : List Held) (s t : Machine) (hm hn : ℕ) (m n : List ℕ) → Stands c s hm m → Stands c t hn n
    → s.root < 2 ^ frame_bits c → t.root < 2 ^ frame_bits c → c.frames ≤ 65536 → All (Stays c s t) hs
    → top_by (frames_at c hm m s.root []) (find [] hs) ≡ top_by (frames_at c hn n t.root []) (find [] hs)
top_on c hs s t hm hn m n sm tn bs bt few a = go (find [] hs) refl
  where
    go : (o : Option Held) → find [] hs ≡ o → top_by (frames_at c hm m s.root []) o ≡ top_by (frames_at c hn n t.root []) o
    go none e = refl
    go (some x) e =
        let v = find_all (Stays c s t) [] hs x a e in
        let before = (valid_entry c s hm m sm bs few x v.before).uses in
        let after = (valid_entry c t hn n tn bt few x v.after).uses in
        let roots : s.root ≡ t.root = head-eq_of_cons-eq (sym before ∙ after) in
        let found : lookup t.root t.mappings ≡ lookup t.root s.mappings = (subst (All (λ g. lookup g t.mappings ≡ lookup g s.mappings)) after v.mapped).0 in
        frame_root c s hm m sm bs ∙ ap (λ g. frame_in (lookup g s.mappings)) roots ∙ sym (ap frame_in found) ∙ sym (frame_root c t hn n tn bt)

-- the invariant asks nothing of the configuration that a state carries
pub at_inv : {c : Config} {s : State} {r : Record} {m : List ℕ} → Inv s r m → Inv (at c s) r m
at_inv h = record { fits = h.fits; sorted = h.sorted; root = h.root; maps = h.maps; area = h.area; book = h.book; valid = h.valid; marks = h.marks; chosen = h.chosen; shadow = h.shadow; top = h.top }

-- a change of the book that leaves marks and window alone leaves what the choice keeps
pub still_chosen : {s : State} {r : Record} {m : List ℕ} → Inv s r m → (hs : List Held) → Chosen (config_of r) r.guest.choice r.guest.marks (holding s.book hs)
still_chosen {s = s} {r = r} h hs = chosen_same (config_of r) r.guest.choice r.guest.marks s.book h.chosen (holding s.book hs) refl refl refl

-- ---- a call
-- a refused call leaves record and memory, machine and book as they are
pub follows_no : (x : Call) {s : State} {r : Record} {m : List ℕ} (n : ℕ) → Inv s r m → refusal (config_of r) x s.machine s.book ≡ some n
    → Follows x s r (refused r n m)
unfolding step
follows_no x {s} n h e = record { config = rw e; says = rw e; next = rw e (at_inv h) }

-- a call that is granted and says no more leaves the invariant on machine and book after it
pub record Moved (t : State) (r : Record) (e : After Reply) : Type 0 where
  pub config : config_of e.result.unit ≡ config_of r
  pub says : line e.result.answer ≡ say.ok
  pub next : Inv t e.result.unit e.memory

-- after a drop
pub dropped_left : {c : Config} {m : List ℕ} {lv guest : List ℕ → ℕ} {t : After Left} (d : Dropped c m lv guest t) (s : State) (r next : Record) (f : HostPhysical)
    → config_of (with_held next (record { pool = d.pool; frame = f })) ≡ config_of r → Inv s (with_held next (record { pool = d.pool; frame = f })) d.memory → Moved s r (dropped_by r next f t)
dropped_left d s r next f e h = rw d.done (record { config = e; says = refl; next = h })

-- machine and book after a call that is granted
abbrev pub after : Config → Call → State → State
after c x s = record { config = c; machine = (machine_step c x s.machine).1; book = (book_step c x s.machine s.book).book }

pub follows_ok : (x : Call) (s : State) (r : Record) (e : After Reply) → refusal (config_of r) x s.machine s.book ≡ none
    → told x (at (config_of r) s) ≡ say.ok → Moved (after (config_of r) x s) r e → Follows x s r e
unfolding step
follows_ok x s r e free ok l = record { config = rw free l.config; says = rw (free, ok) l.says; next = rw free l.next }

pub after_fits : (c : Config) (x : Call) (s : State) → refusal c x s.machine s.book ≡ none → BookFits c s.book → BookFits c (after c x s).book
unfolding step
after_fits c x s free b = rw free at (step_fits x (at c s) b)

-- the number of a refusal
pub first_positive : (xs : List (Bool × ℕ)) (n : ℕ) → All (λ x. 0 < x.1) xs → first_failed xs ≡ some n → 0 < n
first_positive [] n a e = let z : ◌≡◌ {A = ℕ} 0 1 = cc in absurd (omega arith)
first_positive (x ∷ xs) n a e = go x.0 e (first_positive xs n a.1)
  where
    go : (b : Bool) → cond b (first_failed xs) (some x.1) ≡ some n → (first_failed xs ≡ some n → 0 < n) → 0 < n
    go true k ih = ih k
    go false k ih = subst (λ y. 0 < y) (some-injective x.1 n k) a.0
