-- An area that holds exactly the leaves lv: tables stand above them and nowhere else, but for a top table that stays.
-- What upper crates need of it: where it begins, lookup, insert and remove, and what of the memory it depends on.
use mathlib.Core.Path.{◌≡◌, refl, sym, ap, ◌∙◌, subst}
use mathlib.Core.Logic.{◌≢◌, ◌⊎◌, inl, inr}
use Prim.Native.Nat.{ℕ, ◌+◌, ◌*◌, ◌<◌, ◌≤◌}
use native.Mathlib.Omega.{arith}
use mathlib.Core.Bool.{Bool, true, false}
use mathlib.Core.List.{List, [], ◌∷◌}
use mathlib.Core.Option.{Option, none, some, IsSome}
use lib.Dec.{T}
use lib.ListN.{length, length-set}
use Rattle.words.specs.Words.{at, set_in}
use Rattle.spec.specs.Entry.{present, entry_limit}
use Rattle.pool.specs.declared.Area.{Area}
use Rattle.pool.specs.declared.Pool.{Pool}
use Rattle.pool.specs.declared.Way.TheVariants.{To, Not}
use Rattle.pool.specs.Header.{guest_room}
use Rattle.area.specs.declared.Look.TheVariants.{Seen}
use Rattle.pool.specs.Pool.{end, none_of}
use Rattle.area.specs.Tree.{lookup_of, room_of, enter_of, place_of, insert_of}
use Rattle.prune.specs.Remove.{remove_of}
use Rattle.area_laws.proofs.Change.{eq?, upd, upd_at, upd_other, is_some}
use Rattle.words.specs.Words.{SameFrame}
use Rattle.area_laws.proofs.Stores.{frame_head, frame_entry, Beside, set_else}
use Rattle.area_laws.proofs.Paths.{onto, onto_long, Small, Ext, pre_ext, Clear, clear_by_lem, Guests}
use Rattle.area_laws.proofs.Invariant.{present_set, chain_keep, Tables, Leaf, Exact, none_below, guests_same}
use Rattle.area_laws.proofs.Grow.{enter_is}
use Rattle.area_laws.proofs.Shrink.{dropped}
use Rattle.area_laws.proofs.Find.{steps, lacks, steps_lacks, steps_none, lookup_is, room_fits, room_full}
use Rattle.area_laws.proofs.Insert.{Route, Placed, place_is, insert_place, insert_full}
use Rattle.area_laws.proofs.Release.{Released}
use Rattle.area_laws.proofs.Remove.{remove_is, remove_absent}
use Rattle.words.specs.After.{After}
use Rattle.pool.specs.declared.Went.{Went}

pub record Holds (a : Area) (stays : Bool) (p : Pool) (m : List ℕ) (lv guest : List ℕ → ℕ) : Type 0 where
  pub tabs : List ℕ → Option ℕ
  pub list : List ℕ
  pub pres : List (List ℕ)
  pub tables : Tables a p tabs lv guest list pres m
  pub exact : Exact stays tabs lv
  pub top : T stays → IsSome (tabs [])

-- a path, from the top, that may be looked up, inserted or removed: it has an index and no more than there are levels, and no
-- other leaf stands on its way or below its end
pub record Fits (a : Area) (lv : List ℕ → ℕ) (is : List ℕ) : Type 0 where
  pub nonempty : 0 < length is
  pub short : length is ≤ a.levels
  pub small : Small is
  pub apart : (y : List ℕ) → (Ext y (onto [] is) → lv y ≡ 0) × (Ext (onto [] is) y → lv y ≡ 0)

-- ---- where an area begins
pub holds_none : (a : Area) (guest : List ℕ → ℕ) (m : List ℕ) → a.base + a.size ≤ 65536 → a.levels < 8 → (a.base + a.size) * 512 ≤ length m
    → Holds a false none_of m (λ x. 0) guest
holds_none a guest m sm fl lo = record {
  tabs = λ x. none;
  list = [];
  pres = [];
  tables = dropped a guest m sm fl lo;
  exact = λ y k. absurd k;
  top = λ k. absurd k;
}

-- with a top table that stays
pub record Opened (a : Area) (m : List ℕ) (guest : List ℕ → ℕ) : Type 0 where
  pub pool : Pool
  pub frame : ℕ
  pub memory : List ℕ
  pub done : enter_of a none_of m (guest []) ≡ end pool (To frame) memory
  pub holds : Holds a true pool memory (λ x. 0) guest
  pub beside : Beside a m memory

pub holds_top : (a : Area) (guest : List ℕ → ℕ) (m : List ℕ) → a.base + a.size ≤ 65536 → a.levels < 8 → (a.base + a.size) * 512 ≤ length m
    → 0 < a.levels → 0 < a.size → guest [] < guest_room → Opened a m guest
unfolding none_of
holds_top a guest m sm fl lo deep room thin =
    let e = enter_is (dropped a guest m sm fl lo) refl deep thin room in
    record {
      pool = e.pool;
      frame = e.frame;
      memory = e.memory;
      done = e.done;
      holds = record {
        tabs = upd (λ x. none) [] (some e.frame);
        list = e.list;
        pres = [] ∷ [];
        tables = e.tables;
        exact = λ y k. only e.frame y k (eq? [] y);
        top = λ k. is_some (upd_at (λ x. none) [] (some e.frame));
      };
      beside = e.beside;
    }
  where
    only : (f : ℕ) (y : List ℕ) → IsSome (upd (λ x. none) [] (some f) y) → Dec ([] ≡ y) → Leaf (λ x. 0) y ⊎ ((y ≡ []) × T true)
    only f y k (yes q) = inr (sym q, tt)
    only f y k (no q) = absurd (subst IsSome (upd_other (λ x. none) [] (some f) y q) k)

-- ---- what it depends on
-- words outside the area may change at will
pub tables_memory : {a : Area} {p : Pool} {ts : List ℕ → Option ℕ} {lv guest : List ℕ → ℕ} {fl : List ℕ} {ps : List (List ℕ)} {m : List ℕ} (n : List ℕ)
    → length n ≡ length m → ((f : ℕ) → a.base ≤ f → f < a.base + a.size → SameFrame m n f)
    → Tables a p ts lv guest fl ps m → Tables a p ts lv guest fl ps n
tables_memory {a = a} {p = p} {ts = ts} {fl = fl} {m = m} n e same g = record {
  small = g.small;
  flat = g.flat;
  long = rw e g.long;
  inj = g.inj;
  word = λ x f i t l. frame_entry m n f i (same_at x f t) l ∙ g.word x f i t l;
  top = g.top;
  root = g.root;
  below = g.below;
  narrow = g.narrow;
  plain = g.plain;
  solid = g.solid;
  inside = g.inside;
  chain = chain_keep m n fl p.free (λ f k. let o = g.off f k in same f o.0 (omega (arith, g.room)) 0 (omega arith)) g.chain;
  nodup = g.nodup;
  off = g.off;
  count = g.count;
  room = g.room;
  used = g.used;
  once = g.once;
  stand = g.stand;
  level = λ x f t. rw (frame_head m n f (same_at x f t)).level (g.level x f t);
  link = λ i x f t. rw ((frame_head m n f (same_at (i ∷ x) f t)).parent, (frame_head m n f (same_at (i ∷ x) f t)).slot) (g.link i x f t);
  each = λ f lo hi. rw (frame_head m n f (same f lo (omega (arith, g.room)))).level (g.each f lo hi);
  guests = λ x f t. (frame_head m n f (same_at x f t)).guest ∙ g.guests x f t;
}
  where
    same_at : (x : List ℕ) (f : ℕ) → ts x ≡ some f → SameFrame m n f
    same_at x f t = let k = g.inside x f t in same f k.0 (omega (arith, g.room))

module _ {a : Area} {stays : Bool} {p : Pool} {m : List ℕ} {lv guest : List ℕ → ℕ} (h : Holds a stays p m lv guest) where
  pub holds_memory : (n : List ℕ) → length n ≡ length m → ((f : ℕ) → a.base ≤ f → f < a.base + a.size → SameFrame m n f) → Holds a stays p n lv guest
  holds_memory n e same = record {
    tabs = h.tabs;
    list = h.list;
    pres = h.pres;
    tables = tables_memory n e same h.tables;
    exact = h.exact;
    top = h.top;
  }

  -- a word of a frame outside the area is stored
  pub holds_store : (f i v : ℕ) → i < 512 → (f < a.base) ⊎ (a.base + a.size ≤ f) → Holds a stays p (set_in m f i v) lv guest
  holds_store f i v l o = holds_memory (set_in m f i v) (length-set m (at f i) v)
      (λ d lo hi. set_else m f i v d l (λ q. elim o [ inl k ↦ (let z = q in omega arith) | inr k ↦ (let z = q in omega arith) ]))

  -- what changes in another area
  pub holds_beside : (b : Area) (n : List ℕ) → (a.base + a.size ≤ b.base) ⊎ (b.base + b.size ≤ a.base) → Beside b m n → Holds a stays p n lv guest
  holds_beside b n o k = holds_memory n k.len (λ f lo hi. k.else f (elim o [ inl q ↦ inl (omega arith) | inr q ↦ inr (omega arith) ]))

  -- leaves that are the same at every path
  pub holds_leaves : (lw : List ℕ → ℕ) → ((y : List ℕ) → lv y ≡ lw y) → Holds a stays p m lw guest
  holds_leaves lw e = subst (λ l. Holds a stays p m l guest) (λ i y. e y i) h

  -- guest frames of prefixes above no leaf
  pub holds_guests : (other : List ℕ → ℕ) → ((x : List ℕ) → Leaf lv x ⊎ ((x ≡ []) × T stays) → other x ≡ guest x) → Holds a stays p m lv other
  holds_guests other e = record {
    tabs = h.tabs;
    list = h.list;
    pres = h.pres;
    tables = guests_same other (λ x k. e x (h.exact x k)) h.tables;
    exact = h.exact;
    top = h.top;
  }

  -- ---- where a table stands
  -- nothing stands below a table that is missing
  below_none : (y z : List ℕ) → Ext y z → h.tabs y ≡ none → (h.tabs z ≡ none) × (lv z ≡ 0)
  below_none y [] k e = absurd k
  below_none y (i ∷ z) (inl q) e = let n = ap h.tabs (sym q) ∙ e in (none_below h.tables i z n, h.tables.below i z n)
  below_none y (i ∷ z) (inr k) e = let n = (below_none y z k e).0 in (none_below h.tables i z n, h.tables.below i z n)

  pub above_leaf : (y : List ℕ) → Leaf lv y → IsSome (h.tabs y)
  above_leaf y l = go (h.tabs y) refl
    where
      go : (o : Option ℕ) → h.tabs y ≡ o → IsSome (h.tabs y)
      go none e = absurd (l.set (below_none y l.path l.under e).1)
      go (some f) e = is_some e

  module _ (is : List ℕ) (f : Fits a lv is) where
    pub on_way_lem : Clear lv [] is
    on_way_lem = clear_by_lem lv [] is (λ y k. (f.apart y).0 (pre_ext y [] is k))

    -- no table at the end of the path
    pub at_end : h.tabs (onto [] is) ≡ none
    at_end = go (h.tabs (onto [] is)) refl
      where
        go : (o : Option ℕ) → h.tabs (onto [] is) ≡ o → h.tabs (onto [] is) ≡ none
        go none e = e
        go (some d) e = absurd (elim (h.exact (onto [] is) (is_some e)) [
          | inl r ↦ r.set ((f.apart r.path).1 r.under)
          | inr r ↦ (let u = ap length r.0 in let n = onto_long [] is in omega (arith, f.nonempty))
        ])

    -- ---- lookup
    pub holds_look : lookup_of a.base a.size m p.top is 0 ≡ Seen (lv (onto [] is)) (steps h.tabs [] is)
    holds_look = lookup_is h.tables is on_way_lem f.small at_end

-- after a release
pub released_holds : {a : Area} {stays : Bool} {p : Pool} {m : List ℕ} {ts : List ℕ → Option ℕ} {lv guest : List ℕ → ℕ} {t : After Went}
    (d : Released a stays p m ts lv guest t) → Holds a stays d.pool d.memory lv guest
released_holds d = record { tabs = d.tabs; list = d.list; pres = d.pres; tables = d.tables; exact = d.exact; top = d.top }

-- ---- insert
pub record Next (a : Area) (stays : Bool) (p : Pool) (m : List ℕ) (lv guest : List ℕ → ℕ) (t : After Went) : Type 0 where
  pub pool : Pool
  pub memory : List ℕ
  pub frame : ℕ
  pub done : t ≡ end pool (To frame) memory
  pub holds : Holds a stays pool memory lv guest
  pub beside : Beside a m memory

pub next_leaves : {a : Area} {stays : Bool} {p : Pool} {m : List ℕ} {lv guest : List ℕ → ℕ} {t : After Went} (lw : List ℕ → ℕ) → ((y : List ℕ) → lv y ≡ lw y)
    → Next a stays p m lv guest t → Next a stays p m lw guest t
next_leaves {a = a} {stays = stays} {p = p} {m = m} {guest = guest} {t = t} lw e d = subst (λ l. Next a stays p m l guest t) (λ i y. e y i) d

module _ {a : Area} {stays : Bool} {p : Pool} {m : List ℕ} {lv guest : List ℕ → ℕ} (h : Holds a stays p m lv guest) where
  route : (gs is : List ℕ) → Fits a lv is → Guests guest gs 0 [] is → Route a h.tabs lv guest gs [] is
  route gs is f gg = record {
    small = f.small;
    clear = on_way_lem h is f;
    bare = at_end h is f;
    short = let s = f.short in omega arith;
    gives = gg;
  }

  -- room for the tables that the path lacks
  pub holds_room : (is : List ℕ) → Fits a lv is → p.used + lacks h.tabs [] is ≤ a.size → room_of a p m is ≡ To (lacks h.tabs [] is)
  holds_room is f room = room_fits h.tables is (on_way_lem h is f) f.small (at_end h is f) room

  pub holds_crowded : (is : List ℕ) → Fits a lv is → a.size < p.used + lacks h.tabs [] is → room_of a p m is ≡ Not
  holds_crowded is f room = room_full h.tables is (on_way_lem h is f) f.small (at_end h is f) room

  pub holds_place : (gs : List ℕ) (i : ℕ) (is : List ℕ) (e : ℕ) → Fits a lv (i ∷ is) → Guests guest gs 0 [] (i ∷ is) → e < entry_limit → present e ≡ true
      → p.used + lacks h.tabs [] (i ∷ is) ≤ a.size → Next a stays p m (upd lv (onto [] (i ∷ is)) e) guest (place_of a gs p m i is e)
  holds_place gs i is e f gg thin set room = made (place_is h.tables gs i is e (route gs (i ∷ is) f gg) thin set room)
    where
      z : List ℕ
      z = onto [] (i ∷ is)

      there : upd lv z e z ≢ 0
      there q = present_set e set (sym (upd_at lv z e) ∙ q)

      keep : (y : List ℕ) (r : Leaf lv y) → Dec (z ≡ r.path) → Leaf (upd lv z e) y
      keep y r (yes q) = record { path = z; under = subst (Ext y) (sym q) r.under; set = there }
      keep y r (no q) = record { path = r.path; under = r.under; set = λ c. r.set (sym (upd_other lv z e r.path q) ∙ c) }

      made : Placed a p m h.tabs lv guest (place_of a gs p m i is e) [] (i ∷ is) e → Next a stays p m (upd lv z e) guest (place_of a gs p m i is e)
      made d = record {
        pool = d.pool;
        memory = d.memory;
        frame = d.frame;
        done = d.done;
        holds = record {
          tabs = d.tabs;
          list = d.list;
          pres = d.pres;
          tables = d.tables;
          exact = λ y k. elim (d.grown y k) [
            | inl c ↦ elim (h.exact y c) [ inl r ↦ inl (keep y r (eq? z r.path)) | inr r ↦ inr r ]
            | inr c ↦ inl (record { path = z; under = pre_ext y [] (i ∷ is) c; set = there })
          ];
          top = λ k. top (h.tabs []) refl (h.top k);
        };
        beside = d.beside;
      }
        where
          top : (o : Option ℕ) → h.tabs [] ≡ o → IsSome o → IsSome (d.tabs [])
          top none q k = absurd k
          top (some b) q k = is_some (d.kept [] b q)

  pub holds_insert : (gs is : List ℕ) (e : ℕ) → Fits a lv is → Guests guest gs 0 [] is → e < entry_limit → present e ≡ true
      → p.used + lacks h.tabs [] is ≤ a.size → Next a stays p m (upd lv (onto [] is) e) guest (insert_of a gs p m is e)
  holds_insert gs [] e f gg thin set room = absurd (let l = f.nonempty in omega arith)
  holds_insert gs (i ∷ is) e f gg thin set room =
      subst (Next a stays p m (upd lv (onto [] (i ∷ is)) e) guest) (sym (insert_place a gs p m i is e _ (holds_room (i ∷ is) f room)))
      (holds_place gs i is e f gg thin set room)

  pub holds_full : (gs is : List ℕ) (e : ℕ) → Fits a lv is → Guests guest gs 0 [] is → a.size < p.used + lacks h.tabs [] is → insert_of a gs p m is e ≡ end p Not m
  holds_full gs [] e f gg room = absurd (let l = f.nonempty in omega arith)
  holds_full gs (i ∷ is) e f gg room = insert_full h.tables gs i is e (route gs (i ∷ is) f gg) room

  -- ---- remove
  pub holds_remove : (is : List ℕ) → Fits a lv is → lv (onto [] is) ≢ 0 → Next a stays p m (upd lv (onto [] is) 0) guest (remove_of a stays p m is)
  holds_remove [] f set = absurd (let l = f.nonempty in omega arith)
  holds_remove (i ∷ is) f set =
      let d = remove_is h.tables stays i is f.small (on_way_lem h (i ∷ is) f) (at_end h (i ∷ is) f) h.exact set in
      record { pool = d.pool; memory = d.memory; frame = d.frame; done = d.done; holds = released_holds d; beside = d.beside }

  pub holds_absent : (is : List ℕ) → Fits a lv is → lv (onto [] is) ≡ 0 → remove_of a stays p m is ≡ end p Not m
  holds_absent [] f gone = absurd (let l = f.nonempty in omega arith)
  holds_absent (i ∷ is) f gone = remove_absent h.tables stays i is f.small (on_way_lem h (i ∷ is) f) (at_end h (i ∷ is) f) gone

-- ---- a path in an area with nothing in it, as after all paths were dropped for want of tables
pub first_insert : (a : Area) (guest : List ℕ → ℕ) (gs m is : List ℕ) (e : ℕ) → a.base + a.size ≤ 65536 → a.levels < 8 → (a.base + a.size) * 512 ≤ length m
    → 0 < length is → length is ≤ a.levels → length is ≤ a.size → Small is → Guests guest gs 0 [] is → e < entry_limit → present e ≡ true
    → Next a false none_of m (upd (λ x. 0) (onto [] is) e) guest (insert_of a gs none_of m is e)
unfolding none_of
first_insert a guest gs m is e sm fl lo nonempty short room small gg thin set =
    let h = holds_none a guest m sm fl lo in
    let k = steps_lacks h.tables [] is in
    let n = steps_none (λ x. none) [] is refl in
    holds_insert h gs is e (record { nonempty = nonempty; short = short; small = small; apart = λ y. ((λ x. refl), (λ x. refl)) }) gg thin set (omega arith)
