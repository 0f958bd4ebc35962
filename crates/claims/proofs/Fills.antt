-- A fill over memory is the book's: the path stands with the right that it is given, and the others as the book keeps them.
-- Assumes nothing.
use mathlib.Core.Path.{◌≡◌, refl, sym, ap, ap₂, ◌∙◌, subst}
use mathlib.Core.Logic.{inr}
use Prim.Native.Nat.{ℕ, zero, suc, ◌-◌, ◌*◌, ◌/◌, ◌^◌, ◌<◌, ◌≤◌}
use native.Mathlib.Omega.{arith}
use mathlib.Core.Bool.{Bool, true, false, not, ◌&&◌, ◌||◌, cond, and-true}
use mathlib.Core.List.{List, [], ◌∷◌}
use mathlib.Core.Option.{Option, none, some}
use lib.Dec.{T, eqb, leb, ltb}
use borrow.Author.Tests.{lt-ltb, le-ltb, le-leb, lt-leb, ltb-true, ltb-false}
use lib.ListN.{length}
use Rattle.spec.specs.declared.Fault.{Fault}
use Rattle.spec.specs.Config.{Config}
use Rattle.spec.specs.Entry.{present, page_of}
use Rattle.spec.specs.Prefix.{same, begins}
use Rattle.spec.specs.Walk.{World, Trace, granted, trace}
use Rattle.spec.specs.Plain.{Place, is_span, walk, upper}
use Rattle.spec.specs.Machine.{Machine, world}
use Rattle.spec.specs.Book.{Held, find, fill, holding, shadow_tables}
use Rattle.spec.specs.Bits.{dirty_at}
use Rattle.spec.specs.Count.{serves, held_by, right_of, others}
use Rattle.spec.specs.Call.{address_indexes}
use Rattle.spec.specs.Run.{State}
use Rattle.spec.specs.Prefix.{All}
use Rattle.spec_laws.proofs.Lists.{all_map}
use Rattle.spec_laws.proofs.Local.{SameWord}
use Rattle.spec_laws.proofs.Indexes.{indexes_all}
use Rattle.spec_laws.proofs.Depth.{PathFits}
use Rattle.spec_laws.proofs.Keeps.{Valid, held_place, fill_valid, InGuestArea, area_real, PlaceIn, depth_real}
use Rattle.spec_laws.proofs.SetBits.{dirty_on}
use Rattle.spec_laws.proofs.Refill.{others_all, others_unheld}
use Rattle.spec_laws.proofs.Runs.{HeldFits, BookFits, fill_all, fill_keeps, request_fits}
use Rattle.spec_laws.proofs.Parts.{lower}
use Rattle.claims.proofs.Paths.{path_upper}
use Rattle.area_laws.proofs.Paths.{onto}
use Rattle.area_laws.proofs.Hosts.{indexes_small}
use Rattle.area_laws.proofs.Whole.{Holds, Next}
use Rattle.walk.specs.declared.Walked.{Walked}
use Rattle.walk.proofs.Stands.{Stands, stands_trace}
use Rattle.accessed.specs.Entries.{words_of}
use Rattle.accessed.proofs.Walks.{root_entries}
use Rattle.record.specs.declared.Record.{Record}
use Rattle.record.specs.Record.{config_of}
use Rattle.record.proofs.Rules.{Fits, fits_true, holds_pool}
use Rattle.shadow.specs.Held.{shadow_area, entry_for}
use Rattle.shadow.specs.Fill.{fill_of}
use Rattle.shadow.proofs.Parts.{entry_present}
use Rattle.drops_laws.proofs.Held.{leaf_at}
use Rattle.drops_laws.proofs.Fill.{trail_is, fill_is}
use Rattle.drops_laws.proofs.Find.{Apart}
use Rattle.drops_laws.proofs.Valid.{frames_at, entry_of, entry_thin, valid_frame, inside_area, Stays, stays_same}
use Rattle.translate.specs.Translate.{holding as holdingAt, translation, fill_by, filled_of, passes_of}
use Rattle.translate.specs.declared.Held.{Held as Holding}
use Rattle.record.specs.Record.{head_tables}
use Rattle.area_laws.proofs.Paths.{Guests}
use Rattle.walk.specs.Memory.{memory_world, root_trail}
use Rattle.spec_laws.proofs.Asks.{Guest, walk_asks}
use Rattle.calls.specs.Calls.{host_top, held_of, head_held, with_held}
use Rattle.claims.proofs.Invariant.{longer, top_by, frames, Inv, stands}
use Rattle.claims.proofs.Moves.{fits_held, maps_beside, shadow_drop, invariant, shadow_on, still_chosen}
use Rattle.claims.proofs.Bits.{walk_words_lem}
use Rattle.claims.proofs.Found as found
use Rattle.words.specs.After.{After, yields}
use Rattle.pool.specs.declared.Went.{Went}
use Rattle.translate.specs.declared.Translated.{Translated}

-- ---- lists of held paths

-- where no held path is empty, all are longer
all_longer_is : (hs : List Held) → All (λ (h : Held). 0 < length h.path) hs → longer hs ≡ hs
all_longer_is [] a = refl
all_longer_is (h ∷ hs) a = rw (lt-ltb 0 (length h.path) a.0) (ap (λ l. h ∷ l) (all_longer_is hs a.1))

none_empty : (hs : List Held) → All (λ (h : Held). 0 < length h.path) hs → find [] hs ≡ none
none_empty [] a = refl
none_empty (h ∷ hs) a = go h.path a.0 (none_empty hs a.1)
  where
    go : (p : List ℕ) → 0 < length p → find [] hs ≡ none → cond (same [] p) (some h) (find [] hs) ≡ none
    go [] l ih = absurd (omega arith)
    go (i ∷ p) l ih = ih

-- where every held path is the empty one and that is not held, none is held
none_held : (hs : List Held) → All (λ (h : Held). h.path ≡ []) hs → find [] hs ≡ none → hs ≡ []
none_held [] a e = refl
none_held (h ∷ hs) a e = go h.path a.0 e
  where
    go : (p : List ℕ) → p ≡ [] → cond (same [] p) (some h) (find [] hs) ≡ none → h ∷ hs ≡ []
    go [] q k = let z : ◌≡◌ {A = ℕ} 0 1 = cc in absurd (omega arith)
    go (i ∷ p) q k = let z = ap length q in absurd (omega arith)

-- a longer path begins with the empty one
pub begins_nil : (p q : List ℕ) → p ≡ [] → T (begins p q)
begins_nil p q e = subst (λ x. T (begins x q)) (sym e) tt

-- what a fill leaves, for a request that came to x after e exits
pub record Fills (s : State) (r : Record) (e : ℕ) (x : Walked) (sets : Bool) (o : After Translated) : Type 0 where
  pub held : Holding
  pub memory : List ℕ
  pub done : o ≡ yields (translation held e x sets) memory
  pub next : Inv s (with_held r held) memory

module _ (s : State) (r : Record) (m : List ℕ) (inv : Inv s r m) (st : Bool) (a : ℕ) where
  abbrev c : Config
  c = config_of r

  abbrev mach : Machine
  mach = s.machine

  abbrev deep : ℕ
  deep = found.deep s r m inv a

  abbrev path : List ℕ
  path = found.path s r m inv a

  abbrev w : World
  w = world c mach

  -- the entry of the top host table, and what is held
  abbrev ht : ℕ
  ht = host_top r

  abbrev hold : Holding
  hold = held_of r

  -- the tables that the walk of the shadow part comes through
  abbrev pub gs : List ℕ
  gs = (root_trail c ht m st r.guest.root.0 path).tables

  abbrev pub part : Trace Fault Place
  part = trace w (walk c st mach.root path)

  small_path : All (λ i. i < 512) path
  small_path = indexes_all (c.levels - deep) (page_of a / 2 ^ (9 * deep))

  -- the walk over memory
  asks : Guest c (InGuestArea c) (area_real c) (walk c st mach.root path) (λ q. PlaceIn c (lower c.levels path) q.0)
  asks = walk_asks c (InGuestArea c) (area_real c) st mach.root path (found.root_small s r m inv) small_path

  pub part_trace : trace (memory_world c ht m) (walk c st r.guest.root.0 path) ≡ part
  part_trace =
      ap (λ x. trace (memory_world c ht m) (walk c st x path)) inv.root
      ∙ stands_trace c mach ht m (found.memory_stands s r m inv) (walk c st mach.root path) _ asks

  pub part_words : All (SameWord w (memory_world c ht m)) part.reads
  part_words = walk_words_lem c mach ht m (found.memory_stands s r m inv) (walk c st mach.root path) _ asks

  -- the held paths and the one to come are no proper prefixes of each other
  apart_all : (low : deep ≤ c.levels) → All (λ (h : Held). T (begins h.path path) → h.path ≡ path) s.book.held
      × All (λ (h : Held). T (begins path h.path) → path ≡ h.path) s.book.held
  apart_all low =
      let f = found.apart_all s r m inv a low in
      (all_map (Apart path) _ s.book.held (λ h k. k.0) f, all_map (Apart path) _ s.book.held (λ h k. k.1) f)

  module _ (t : ℕ) (wide : Bool) (low : deep ≤ c.levels) (comes : part.result ≡ granted (t, wide)) where
    -- the writable bit that the path gets
    abbrev pub right : Bool
    right = right_of c w st deep part wide

    abbrev pub new : Held
    new = held_by path part right

    abbrev pub filled : List Held
    filled = fill c new (others c path s.book.held)

    abbrev pub after : State
    after = record { config = c; machine = mach; book = holding s.book filled }

    -- the walk, by the indexes as the specification has them
    upper_is : upper c deep (address_indexes c a) ≡ path
    upper_is = path_upper c deep a low

    comes_upper : (trace w (walk c st mach.root (upper c deep (address_indexes c a)))).result ≡ granted (t, wide)
    comes_upper = ap (λ p. (trace w (walk c st mach.root p)).result) upper_is ∙ comes

    real : is_span c t ≡ false
    real = depth_real c mach a _ (found.memory_stands s r m inv).inside (found.root_small s r m inv) st (t, wide) comes_upper

    new_valid : Valid c mach new
    new_valid = fill_valid c mach st deep path (t, wide) small_path (found.path_length s r m inv a low) comes real

    new_fits : HeldFits c s.book.marks new
    new_fits =
        subst (λ p. PathFits c.levels s.book.marks p (length (trace w (walk c st mach.root p)).reads)) upper_is
        (request_fits c mach s.book.marks st a (t, wide) inv.book.marks low comes_upper)

    pub new_here : (frames r m (onto [] path) ≡ t) × InGuestArea c t
    new_here =
        let f : t ≡ new_valid.frame = ap (λ (x : Place). x.0) (held_place c mach new new_valid st (t, wide) comes) in
        let at = ap (λ x. frames_at c ht m x (onto [] path)) inv.root ∙ valid_frame c mach ht m (found.memory_stands s r m inv) (found.root_small s r m inv) (found.few s r m inv) new new_valid in
        (at ∙ sym f, subst (InGuestArea c) (sym f) (inside_area c mach ht m (found.memory_stands s r m inv) (found.root_small s r m inv) (found.few s r m inv) new new_valid))

    fill_book : BookFits c (holding s.book filled)
    fill_book = fill_keeps c s.book new new_fits inv.book

    fill_valid_all : All (Valid c mach) filled
    fill_valid_all = fill_all (Valid c mach) c new (others c path s.book.held) new_valid (others_all (Valid c mach) c path s.book.held inv.valid)

    -- what is handed out of the walk's tables
    reads_few : length path ≤ 8
    reads_few = omega (arith, found.path_length s r m inv a low, (found.rules s r m inv).sizes.deep)

    over_memory : (trace (memory_world c ht m) (walk c st r.guest.root.0 path)).result ≡ granted (t, wide)
    over_memory = ap (λ (x : Trace Fault Place). x.result) part_trace ∙ comes

    tables_are : Guests (frames r m) gs 0 [] path
    tables_are = trail_is c ht m (found.few s r m inv) (omega (arith, (found.rules s r m inv).sizes.deep)) st r.guest.root.0 path (t, wide)
        (indexes_small (c.levels - deep) (page_of a / 2 ^ (9 * deep))) reads_few over_memory

    -- with bits on what the code sees of the last entry is what the book asks
    pub passes_is : c.bits ≡ true → passes_of c m gs st a deep wide ≡ right
    unfolding passes_of memory_world
    passes_is on =
        ap (λ xs. wide && (not (eqb deep 0) || st || dirty_at (words_of m) xs))
        (root_entries c ht m st r.guest.root.0 (c.levels - deep) (page_of a / 2 ^ (9 * deep)) (t, wide) (omega (arith, (found.rules s r m inv).sizes.deep)) (omega arith) over_memory ∙ ap (λ (x : Trace Fault Place). x.reads) part_trace)
        ∙ ap (λ b. wide && (not (eqb deep 0) || st || b)) (dirty_on w (words_of m) part.reads part_words)
        ∙ sym (ap (λ b. wide && (not (b && eqb deep 0) || st || dirty_at w part.reads)) on)

    -- with bits off the path has the walk's right
    pub right_is : c.bits ≡ false → right ≡ wide
    right_is off = ap (λ b. wide && (not (b && eqb deep 0) || st || dirty_at w part.reads)) off ∙ and-true wide

    -- ---- a path with an index stands in the shadow tables
    module _ (lower : deep < c.levels) where
      long : 0 < length path
      long = omega (arith, found.path_length s r m inv a low)

      held_long : All (λ (h : Held). 0 < length h.path) s.book.held
      held_long = all_map _ _ s.book.held go (apart_all low).0
        where
          go : (h : Held) → (T (begins h.path path) → h.path ≡ path) → 0 < length h.path
          go h k = at h.path k
            where
              at : (p : List ℕ) → (T (begins p path) → p ≡ path) → 0 < length p
              at [] f = let z = ap length (f tt) in omega (arith, long)
              at (i ∷ p) f = omega arith

      filled_long : All (λ (h : Held). 0 < length h.path) filled
      filled_long = fill_all (λ (h : Held). 0 < length h.path) c new (others c path s.book.held) long (others_all (λ (h : Held). 0 < length h.path) c path s.book.held held_long)

      switch_is : ltb 0 deep ≡ ltb (length path) c.levels
      switch_is = go (ltb 0 deep) refl
        where
          go : (b : Bool) → ltb 0 deep ≡ b → b ≡ ltb (length path) c.levels
          go true q = let l = ltb-true 0 deep q in sym (lt-ltb (length path) c.levels (omega (arith, found.path_length s r m inv a low)))
          go false q = let l = ltb-false 0 deep q in sym (le-ltb (length path) c.levels (omega (arith, found.path_length s r m inv a low)))

      entry_is : entry_for t (ltb 0 deep) right ≡ entry_of c (frames r m) new
      unfolding entry_of
      entry_is = ap₂ (λ f b. entry_for f b right) (sym new_here.0) switch_is

      longer_fill : fill c new (others c path (longer s.book.held)) ≡ longer filled
      longer_fill =
          ap (λ l. fill c new (others c path l)) (all_longer_is s.book.held held_long) ∙ sym (all_longer_is filled filled_long)

      placed : Next (shadow_area c) false r.pools.shadow m (leaf_at (entry_of c (frames r m)) (longer filled)) (frames r m)
          (fill_of c gs r.pools.shadow m path (entry_for t (ltb 0 deep) right))
      unfolding entry_of
      placed =
          subst (λ x. Next (shadow_area c) false r.pools.shadow m (leaf_at (entry_of c (frames r m)) (longer filled)) (frames r m) (fill_of c gs r.pools.shadow m path x)) (sym entry_is)
          (subst (λ l. Next (shadow_area c) false r.pools.shadow m (leaf_at (entry_of c (frames r m)) l) (frames r m) (fill_of c gs r.pools.shadow m path (entry_of c (frames r m) new))) longer_fill
          (fill_is inv.shadow (found.held_entries s r m inv) new (found.path_free s r m inv a low long) (frames r m) gs tables_are (λ y q. refl)
          (entry_thin c (frames r m) new (omega (arith, new_here.0, new_here.1.1, found.few s r m inv)))
          entry_set (found.rules s r m inv).sizes.shadows))
        where
          entry_set : present (entry_of c (frames r m) new) ≡ true
          entry_set = entry_present (frames r m (onto [] path)) (ltb (length path) c.levels) right

      abbrev pool : Holding
      pool = record { pool = placed.pool; frame = r.guest.held }

      memory_stands : Stands c mach ht placed.memory
      memory_stands = stands c mach r.pools.host placed.memory (maps_beside c placed.beside inv.maps) (shadow_drop c placed.beside ∙ inv.area)

      filled_next : Inv after (with_held r pool) placed.memory
      unfolding head_held head_tables
      filled_next = invariant after (with_held r pool) placed.memory
          (subst (Fits (with_held r pool)) (sym placed.beside.len) (fits_held (found.rules s r m inv) pool (holds_pool placed.holds) (found.rules s r m inv).held))
          inv.sorted inv.root (maps_beside c placed.beside inv.maps) (shadow_drop c placed.beside ∙ inv.area)
          fill_book fill_valid_all inv.marks (still_chosen inv filled)
          (shadow_on filled mach mach ht ht m placed.memory (found.memory_stands s r m inv) memory_stands (found.root_small s r m inv) (found.root_small s r m inv) (found.few s r m inv)
          (all_map (Valid c mach) (Stays c mach mach) filled (stays_same c mach) fill_valid_all)
          (subst (λ x. Holds (shadow_area c) false placed.pool placed.memory (leaf_at (entry_of c (frames_at c ht m x)) (longer filled)) (frames_at c ht m x)) inv.root placed.holds))
          (inv.top ∙ ap (top_by (frames r m [])) (none_empty s.book.held held_long)
          ∙ sym (ap (top_by (frames_at c ht placed.memory mach.root [])) (none_empty filled filled_long)))

      filled_path : (e : ℕ) (x : Walked) (sets : Bool) → Fills after r e x sets (filled_of c m hold gs a deep t right e x sets)
      unfolding filled_of
      filled_path e x sets =
          let f : After Went = fill_of c gs r.pools.shadow m path (entry_for t (ltb 0 deep) right) in
          record {
            held = pool;
            memory = placed.memory;
            done = ap (λ b. cond b (yields (translation (holdingAt r.pools.shadow t) e x sets) m) (fill_by hold e x sets f f.result.way)) (lt-leb c.levels deep lower)
                ∙ ap (λ (y : After Went). fill_by hold e x sets y y.result.way) placed.done;
            next = filled_next;
          }

    -- ---- the path of no index stands in the record
    module _ (high : c.levels ≤ deep) (unheld : find path s.book.held ≡ none) where
      empty : path ≡ []
      empty = found.path_empty s r m inv a low high

      no_held : s.book.held ≡ []
      no_held = none_held s.book.held (all_map _ _ s.book.held (λ h k. sym (k (begins_nil path h.path empty)) ∙ empty) (apart_all low).1) (ap (λ p. find p s.book.held) (sym empty) ∙ unheld)

      only : filled ≡ new ∷ []
      only = ap (fill c new) (others_unheld c path s.book.held unheld ∙ no_held) ∙ go (leb (shadow_tables (new ∷ [])) c.shadows)
        where
          go : (b : Bool) → cond b (new ∷ []) (new ∷ []) ≡ new ∷ []
          go true = refl
          go false = refl

      not_longer : longer filled ≡ longer s.book.held
      not_longer = ap longer only ∙ ap (λ p. cond (ltb 0 (length p)) (new ∷ []) []) empty ∙ sym (ap longer no_held)

      found_top : find [] filled ≡ some new
      found_top = ap (find []) only ∙ ap (λ p. cond (same [] p) (some new) none) empty

      here : frames r m [] ≡ t
      unfolding onto
      here = ap (λ p. frames r m (onto [] p)) (sym empty) ∙ new_here.0

      top_next : Inv after (with_held r (holdingAt r.pools.shadow t)) m
      unfolding head_held head_tables
      top_next = record {
        fits = fits_true (with_held r (holdingAt r.pools.shadow t)) (length m) inv.sorted.word (fits_held (found.rules s r m inv) (holdingAt r.pools.shadow t) (found.rules s r m inv).shadow (inr new_here.1));
        sorted = inv.sorted;
        root = inv.root;
        maps = inv.maps;
        area = inv.area;
        book = fill_book;
        valid = fill_valid_all;
        marks = inv.marks;
        chosen = still_chosen inv filled;
        shadow = subst (λ l. Holds (shadow_area c) false r.pools.shadow m (leaf_at (entry_of c (frames r m)) l) (frames r m)) (sym not_longer) inv.shadow;
        top = sym here ∙ sym (ap (top_by (frames r m [])) found_top);
      }

      top_path : (e : ℕ) (x : Walked) (sets : Bool) → Fills after r e x sets (filled_of c m hold gs a deep t right e x sets)
      unfolding filled_of
      top_path e x sets =
          let f : After Went = fill_of c gs r.pools.shadow m path (entry_for t (ltb 0 deep) right) in
          record {
            held = holdingAt r.pools.shadow t;
            memory = m;
            done = ap (λ b. cond b (yields (translation (holdingAt r.pools.shadow t) e x sets) m) (fill_by hold e x sets f f.result.way)) (le-leb c.levels deep high);
            next = top_next;
          }

    -- ---- either
    pub fills : serves st deep (find path s.book.held) ≡ false → (e : ℕ) (x : Walked) (sets : Bool) → Fills after r e x sets (filled_of c m hold gs a deep t right e x sets)
    fills sv e x sets = go (ltb deep c.levels) refl
      where
        -- at depth N only a path that is not held does not serve
        none_at : (d : ℕ) (o : Option Held) → 0 < d → serves st d o ≡ false → o ≡ none
        none_at zero o l q = absurd (omega arith)
        none_at (suc d) none l q = refl
        none_at (suc d) (some h) l q = let z : ◌≡◌ {A = ℕ} 0 1 = cc in absurd (omega arith)

        go : (b : Bool) → ltb deep c.levels ≡ b → Fills after r e x sets (filled_of c m hold gs a deep t right e x sets)
        go true q = filled_path (ltb-true deep c.levels q) e x sets
        go false q =
            let high = ltb-false deep c.levels q in
            top_path high (none_at deep (find path s.book.held) (omega (arith, high, (found.rules s r m inv).sizes.deep)) sv) e x sets
