-- A store is the book's drop, then the machine's store; own bit writes are the machine's and drop nothing.
-- Assumes nothing.
use mathlib.Core.Path.{◌≡◌, refl, sym, ap, ap₂, ◌∙◌, subst}
use mathlib.Core.Logic.{inr}
use Prim.Native.Nat.{ℕ, ◌+◌, ◌*◌, ◌^◌, ◌<◌, ◌≤◌}
use native.Mathlib.Omega.{arith}
use mathlib.Core.Bool.{Bool, true, false, not, ◌&&◌, ◌||◌, cond}
use mathlib.Core.List.{List, [], ◌∷◌}
use lib.Dec.{T, ltb}
use lib.ListN.{length, drop, set, length-set}
use lib.Seq.{drop-set-add}
use borrow.Author.Tests.{ltb-false}
use Rattle.spec.specs.Config.{Config, guest_base, frame_bits}
use Rattle.spec.specs.Plain.{is_span}
use Rattle.spec.specs.Machine.{Machine, Mapping, place, word_in, stored}
use Rattle.spec.specs.Bits.{is_last, with_bits, set_bits}
use Rattle.spec.specs.Book.{Held, find, holding, drop_word, watched, reads_frame, reads_word}
use Rattle.spec.specs.Count.{one}
use Rattle.spec.specs.Run.{State}
use Rattle.spec.specs.Prefix.{All}
use Rattle.spec_laws.proofs.Lists.{all_map, all_any, all_both, all_keep, all_kept}
use Rattle.spec_laws.proofs.Trail.{reads_from}
use Rattle.spec_laws.proofs.Keeps.{Valid, drop_unwatched, InGuestArea}
use Rattle.spec_laws.proofs.Runs.{kept_fits}
use Rattle.spec_laws.proofs.SetBits.{once_more}
use Rattle.words.specs.Words as words
use Rattle.words.specs.Words.{set_in}
use Rattle.pool.specs.declared.Pool.{Pool}
use Rattle.area_laws.proofs.Stores.{Beside, beside_refl}
use Rattle.area_laws.proofs.Whole.{Holds, holds_store}
use Rattle.layout.specs.Layout.{page}
use Rattle.host.proofs.Mapping.{Maps}
use Rattle.walk.proofs.Stands.{Stands, same_word}
use Rattle.accessed.specs.Entries.{bits_in}
use Rattle.record.specs.declared.Record.{Record}
use Rattle.record.specs.Record.{config_of}
use Rattle.record.proofs.Rules.{Fits}
use Rattle.drops.specs.declared.Cut.TheVariants.{Word}
use Rattle.shadow.specs.Held.{shadow_area}
use Rattle.shadow.specs.Watch.{watched_of}
use Rattle.drops.specs.Drop.{scan_of}
use Rattle.drops_laws.proofs.Scan.{Dropped}
use Rattle.drops_laws.proofs.Held.{leaf_at}
use Rattle.drops_laws.proofs.Watch.{watched_is}
use Rattle.drops_laws.proofs.Drops.{drop_word_lem, empty_word, empty_frame}
use Rattle.drops_laws.proofs.Valid.{frames_at, entry_of, valid_entry, Stays, stays_same, stays_store, stays_more}
use Rattle.request.specs.Access.{put, dropped_by, dropped_of}
use Rattle.record.specs.Record.{head_tables}
use Rattle.record.proofs.Rules.{holds_pool}
use Rattle.calls.specs.Calls.{host_top, head_held, with_held}
use Rattle.claims.proofs.Invariant.{longer, top_by, frames, Inv, stands}
use Rattle.claims.proofs.Moves.{fits_held, maps_beside, shadow_drop, invariant, at_inv, shadow_on, top_on, longer_keep, find_keep, inv_shadow, inv_top, frame_root, still_chosen}
use Rattle.claims.proofs.Found as found
use Rattle.words.specs.After.{After}
use Rattle.request.specs.declared.Put.{Put}

-- ---- memory after a guest word is stored

pub maps_store : (c : Config) {xs : List Mapping} {p : Pool} {m : List ℕ} (t i v : ℕ) → i < 512 → c.hosts ≤ t → Maps c xs p m → Maps c xs p (set_in m t i v)
maps_store c t i v l b h = record {
  deep = h.deep;
  few = h.few;
  holds = holds_store h.holds t i v l (inr (omega arith));
  frames = h.frames;
  inside = h.inside;
}

pub area_store : (c : Config) (m : List ℕ) (t i v : ℕ) → guest_base c ≤ t → drop (512 * guest_base c) (set_in m t i v) ≡ set (drop (512 * guest_base c) m) (place c t i) v
area_store c m t i v b =
    let e : t * 512 + i ≡ 512 * guest_base c + place c t i = omega arith in
    ap (λ k. drop (512 * guest_base c) (set m k v)) e ∙ drop-set-add (512 * guest_base c) m (place c t i) v

-- ---- lists

-- the path of no index reads nothing
watched_longer : (t : ℕ) (hs : List Held) → All (λ (h : Held). h.path ≡ [] → reads_frame t h ≡ false) hs → watched t (longer hs) ≡ watched t hs
watched_longer t [] a = refl
watched_longer t (h ∷ hs) a = go (ltb 0 (length h.path)) refl (watched_longer t hs a.1)
  where
    none : (p : List ℕ) → ltb 0 (length p) ≡ false → p ≡ []
    none [] q = refl
    none (i ∷ p) q = let k = ltb-false 0 (length (i ∷ p)) q in absurd (omega arith)

    go : (b : Bool) → ltb 0 (length h.path) ≡ b → watched t (longer hs) ≡ watched t hs
        → watched t (cond b (h ∷ longer hs) (longer hs)) ≡ (reads_frame t h || watched t hs)
    go true q ih = ap (λ x. reads_frame t h || x) ih
    go false q ih = ih ∙ ap (λ b. b || watched t hs) (sym (a.0 (none h.path q)))

-- ---- a guest word

-- a word of the guest area is stored to, and each held path stays as it is
pub word_next : (s : State) (r : Record) (m : List ℕ) (inv : Inv s r m) (t i v : ℕ) → i < 512 → InGuestArea (config_of r) t
    → All (Stays (config_of r) s.machine (stored (config_of r) s.machine t i v)) s.book.held
    → Inv (record { config = config_of r; machine = stored (config_of r) s.machine t i v; book = s.book }) r (set_in m t i v)
word_next s r m inv t i v word there stays =
    invariant (record { config = c; machine = next; book = s.book }) r (set_in m t i v)
    (subst (Fits r) (sym (length-set m (t * 512 + i) v)) (found.rules s r m inv)) inv.sorted inv.root maps area inv.book
    (all_map (Stays c mach next) _ s.book.held (λ h k. k.after) stays) inv.marks inv.chosen
    (shadow_on s.book.held mach next ht ht m (set_in m t i v) before now small small (found.few s r m inv) stays (holds_store (inv_shadow inv) t i v word (inr there.0)))
    (inv_top inv ∙ top_on c s.book.held mach next ht ht m (set_in m t i v) before now small small (found.few s r m inv) stays)
  where
    c : Config
    c = config_of r

    mach : Machine
    mach = s.machine

    ht : ℕ
    ht = host_top r

    next : Machine
    next = stored (config_of r) s.machine t i v

    small : s.machine.root < 2 ^ frame_bits (config_of r)
    small = found.root_small s r m inv

    before : Stands (config_of r) s.machine (host_top r) m
    before = found.memory_stands s r m inv

    maps : Maps (config_of r) s.machine.mappings r.pools.host (set_in m t i v)
    maps = maps_store (config_of r) t i v word (let k = there.0 in omega arith) inv.maps

    area : drop (512 * guest_base (config_of r)) (set_in m t i v) ≡ set s.machine.area (place (config_of r) t i) v
    area = area_store (config_of r) m t i v there.0 ∙ ap (λ xs. set xs (place (config_of r) t i) v) inv.area

    now : Stands (config_of r) (stored (config_of r) s.machine t i v) (host_top r) (set_in m t i v)
    now = stands (config_of r) (stored (config_of r) s.machine t i v) r.pools.host (set_in m t i v) maps area

-- ---- own bit writes

-- bits 5 and 6 are nothing that a walk reads, so no held path is touched
pub bits_next : (xs : List (ℕ × ℕ)) (st : Bool) (s : State) (r : Record) (m : List ℕ) → Inv s r m → All (λ x. InGuestArea (config_of r) x.0 × (x.1 < 512)) xs
    → Inv (record { config = config_of r; machine = set_bits (config_of r) st s.machine xs; book = s.book }) r (bits_in st m xs)
bits_next [] st s r m inv a = at_inv inv
bits_next (x ∷ xs) st s r m inv a =
    subst (λ n. Inv (record { config = c; machine = set_bits c st (stored c mach x.0 x.1 e) xs; book = s.book }) r (bits_in st n xs)) (ap (λ y. set_in m x.0 x.1 (with_bits (st && is_last xs) y)) (sym same))
    (bits_next xs st (record { config = c; machine = stored c mach x.0 x.1 e; book = s.book }) r (set_in m x.0 x.1 e) once a.1)
  where
    c : Config
    c = config_of r

    mach : Machine
    mach = s.machine

    e : ℕ
    e = with_bits (st && is_last xs) (word_in (config_of r) s.machine x.0 x.1)

    same : words.word_in m x.0 x.1 ≡ word_in (config_of r) s.machine x.0 x.1
    same = same_word (config_of r) s.machine (host_top r) m (found.memory_stands s r m inv) x.0 x.1 a.0.0

    once : Inv (record { config = config_of r; machine = stored (config_of r) s.machine x.0 x.1 (with_bits (st && is_last xs) (word_in (config_of r) s.machine x.0 x.1)); book = s.book }) r
        (set_in m x.0 x.1 (with_bits (st && is_last xs) (word_in (config_of r) s.machine x.0 x.1)))
    once = word_next s r m inv x.0 x.1 _ a.0.1 a.0.0
        (all_map (Valid (config_of r) s.machine) _ s.book.held (λ h k. stays_more (config_of r) s.machine _ h (once_more (config_of r) s.machine x (st && is_last xs)) k) inv.valid)

-- ---- the drops before a store

pub record Drops (s : State) (r : Record) (t i : ℕ) (x : After Put) : Type 0 where
  pub pool : Pool
  pub memory : List ℕ
  pub done : x ≡ put pool (one (watched t s.book.held)) true memory
  pub next : Inv (record { config = config_of r; machine = s.machine; book = holding s.book (drop_word t i s.book.held) }) (with_held r (record { pool = pool; frame = r.guest.held })) memory

module _ (s : State) (r : Record) (m : List ℕ) (inv : Inv s r m) (t i : ℕ) (word : i < 512) (real : is_span (config_of r) t ≡ false) where
  abbrev c : Config
  c = config_of r

  abbrev mach : Machine
  mach = s.machine

  abbrev ht : ℕ
  ht = host_top r

  abbrev kept : List Held
  kept = drop_word t i s.book.held

  -- the path of no index reads no word
  empty_reads : All (λ (h : Held). h.path ≡ [] → h.reads ≡ reads_from c (frames_at c ht m mach.root) [] h.path) s.book.held
  empty_reads = all_map (Valid c mach) _ s.book.held
      (λ h k e. (valid_entry c mach ht m (found.memory_stands s r m inv) (found.root_small s r m inv) (found.few s r m inv) h k).reads) inv.valid

  watched_same : watched_of c m r.pools.shadow.fresh t ≡ watched t s.book.held
  watched_same =
      watched_is inv.shadow (found.held_entries s r m inv) t real
      ∙ watched_longer t s.book.held (all_map _ _ s.book.held (λ h k e. empty_frame h e c (frames_at c ht m mach.root) (k e) t) empty_reads)

  -- from shadow tables that hold the kept paths, and a memory that differs in them alone
  dropped_next : (p : Pool) (n : List ℕ) → Beside (shadow_area c) m n
      → Holds (shadow_area c) false p n (leaf_at (entry_of c (frames r m)) (longer kept)) (frames r m)
      → Inv (record { config = c; machine = mach; book = holding s.book kept }) (with_held r (record { pool = p; frame = r.guest.held })) n
  unfolding head_held head_tables
  dropped_next p n b h =
      invariant (record { config = c; machine = mach; book = holding s.book kept }) (with_held r (record { pool = p; frame = r.guest.held })) n
      (subst (Fits (with_held r (record { pool = p; frame = r.guest.held }))) (sym b.len) (fits_held (found.rules s r m inv) (record { pool = p; frame = r.guest.held }) (holds_pool h) (found.rules s r m inv).held))
      inv.sorted inv.root maps area (kept_fits c s.book (λ h. not (reads_word t i h)) inv.book) valid inv.marks (still_chosen inv kept)
      (shadow_on kept mach mach ht ht m n (found.memory_stands s r m inv) now (found.root_small s r m inv) (found.root_small s r m inv) (found.few s r m inv)
      (all_map (Valid c mach) (Stays c mach mach) kept (stays_same c mach) valid)
      (subst (λ x. Holds (shadow_area c) false p n (leaf_at (entry_of c (frames_at c ht m x)) (longer kept)) (frames_at c ht m x)) inv.root h))
      (inv_top inv ∙ ap₂ top_by (frame_root c mach ht m (found.memory_stands s r m inv) (found.root_small s r m inv) ∙ sym (frame_root c mach ht n now (found.root_small s r m inv))) (sym same_find))
    where
      maps : Maps c mach.mappings r.pools.host n
      maps = maps_beside c b inv.maps

      area : drop (512 * guest_base c) n ≡ mach.area
      area = shadow_drop c b ∙ inv.area

      now : Stands c mach ht n
      now = stands c mach r.pools.host n maps area

      valid : All (Valid c mach) kept
      valid = all_kept (Valid c mach) (λ h. not (reads_word t i h)) s.book.held inv.valid

      same_find : find [] kept ≡ find [] s.book.held
      same_find = find_keep (λ h. not (reads_word t i h)) s.book.held
          (all_map _ _ s.book.held (λ h k e. ap not (empty_word h e c (frames_at c ht m mach.root) (k e) t i)) empty_reads)

  pub drops : Drops s r t i (dropped_of c m r.pools.shadow t i)
  unfolding dropped_of
  drops = go (watched t s.book.held) refl
    where
      scanned : Dropped c m (leaf_at (entry_of c (frames r m)) (drop_word t i (longer s.book.held))) (frames r m) (scan_of c (Word (page t) i) r.pools.shadow m)
      scanned = drop_word_lem inv.shadow (found.held_entries s r m inv) t i real word

      tables : List Held → Type 0
      tables l = Holds (shadow_area c) false r.pools.shadow m (leaf_at (entry_of c (frames r m)) l) (frames r m)

      go : (b : Bool) → watched t s.book.held ≡ b
          → Drops s r t i (cond (watched_of c m r.pools.shadow.fresh t) (dropped_by r.pools.shadow (scan_of c (Word (page t) i) r.pools.shadow m)) (put r.pools.shadow 0 true m))
      go true e = record {
        pool = scanned.pool;
        memory = scanned.memory;
        done = ap (λ b. cond b (dropped_by r.pools.shadow (scan_of c (Word (page t) i) r.pools.shadow m)) (put r.pools.shadow 0 true m)) (watched_same ∙ e)
            ∙ ap (dropped_by r.pools.shadow) scanned.done ∙ ap (λ b. put scanned.pool (one b) true scanned.memory) (sym e);
        next = dropped_next scanned.pool scanned.memory scanned.beside
            (subst (λ l. Holds (shadow_area c) false scanned.pool scanned.memory (leaf_at (entry_of c (frames r m)) l) (frames r m)) (sym (longer_keep (λ h. not (reads_word t i h)) s.book.held)) scanned.holds);
      }
      go false e = record {
        pool = r.pools.shadow;
        memory = m;
        done = ap (λ b. cond b (dropped_by r.pools.shadow (scan_of c (Word (page t) i) r.pools.shadow m)) (put r.pools.shadow 0 true m)) (watched_same ∙ e)
            ∙ ap (λ b. put r.pools.shadow (one b) true m) (sym e);
        next = dropped_next r.pools.shadow m (beside_refl (shadow_area c) m) (subst tables (ap longer (sym (drop_unwatched t i s.book.held (subst (λ b. T (not b)) (sym e) tt)))) inv.shadow);
      }

-- after them no held path reads the word
pub unread_next : (s : State) (r : Record) (m : List ℕ) (t i v : ℕ) (hs : List Held) → i < 512 → InGuestArea (config_of r) t
    → Inv (record { config = config_of r; machine = s.machine; book = holding s.book (drop_word t i hs) }) r m
    → Inv (record { config = config_of r; machine = stored (config_of r) s.machine t i v; book = holding s.book (drop_word t i hs) }) r (set_in m t i v)
unread_next s r m t i v hs word there inv =
    let u : State = record { config = config_of r; machine = s.machine; book = holding s.book (drop_word t i hs) } in
    word_next u r m inv t i v word there
    (all_map (λ h. Valid (config_of r) s.machine h × (Unit {0} × T (not (reads_word t i h)))) _ (drop_word t i hs)
    (λ h k. stays_store (config_of r) s.machine t i v h (found.memory_stands u r m inv).inside (found.root_small u r m inv) there.0 word k.0 k.1.1)
    (all_both (Valid (config_of r) s.machine) (λ h. Unit {0} × T (not (reads_word t i h))) (drop_word t i hs) inv.valid
    (all_keep (λ h. Unit {0}) (λ h. not (reads_word t i h)) hs (all_any (λ h. Unit {0}) hs (λ h. tt)))))
