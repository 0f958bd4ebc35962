-- What every call keeps of the held paths: each stands for its shadow part, and with bits on the entries that it covers have bit 5 and, where
-- it is of depth 0 and lets stores pass, the last one bit 6.
-- Assumes nothing.
use mathlib.Core.Path.{◌≡◌, refl, sym, ap, ◌∙◌, subst}
use Prim.Native.Nat.{ℕ, ◌+◌, ◌*◌, ◌-◌, ◌^◌, ◌<◌, ◌≤◌}
use native.Mathlib.Omega.{arith}
use mathlib.Core.Bool.{Bool, true, false, not, ◌&&◌, ◌||◌, false≢true}
use mathlib.Core.List.{List, [], ◌∷◌, ◌++◌}
use mathlib.Core.Option.{Option, none, some}
use lib.Dec.{T, eqb}
use lib.ListN.{length}
use lib.Seq.{get_or-set_other, take_all}
use Rattle.spec.specs.declared.Fault.{Fault}
use Rattle.spec.specs.declared.Fault.TheVariants.{HostReadOnly}
use Rattle.spec.specs.Config.{Config, guest_base, frame_bits}
use Rattle.spec.specs.Entry.{accessed, page_of, word_of}
use Rattle.spec.specs.Prefix.{All, begins}
use Rattle.spec.specs.Walk.{done, ◌>>◌, World, Trace, Result, granted, failed, trace}
use Rattle.spec.specs.Plain.{Place, is_span, must, hosted, upper, walk}
use Rattle.spec.specs.Machine.{Machine, Mapping, world, place, word_in, stored, remapped, lookup, with, without}
use Rattle.spec.specs.Bits.{lacks, dirty_at, bits_set}
use Rattle.spec.specs.Book.{Held, Book, mark_at, reads_word, uses_mapping, drop_mapping, drop_word}
use Rattle.spec.specs.Call.{Call, root, map, unmap, set_mark, clear_mark, load, store, device, forecast, address_indexes, plain, verdict, device_walk, access, machine_step}
use Rattle.spec.specs.Count.{Counted, is_granted, held_by, right_of, others, request_depth, request, storing, book_step, unshadowed}
use Rattle.spec.specs.Refusal.{refusal}
use Rattle.spec.specs.Run.{State, answered, step}
use Rattle.spec_laws.proofs.Lists.{all_map, all_any, all_both, all_keep, all_kept, all_left, none_passes, and_second}
use Rattle.spec_laws.proofs.Local.{Seen, seen}
use Rattle.spec_laws.proofs.Indexes.{indexes_all, indexes_length}
use Rattle.spec_laws.proofs.EntryBits.{Kept, kept_refl}
use Rattle.spec_laws.proofs.Asks.{AnswerIn}
use Rattle.spec_laws.proofs.Granted.{no_grant, granted_is, through, hosted_granted}
use Rattle.spec_laws.proofs.Parts.{direct_trace}
use Rattle.spec_laws.proofs.Choice.{observed_held, operated_held}
use Rattle.spec_laws.proofs.Counts.{shadow_of, direct_of, verdict_granted}
use Rattle.spec_laws.proofs.Refill.{others_all}
use Rattle.spec_laws.proofs.Runs.{fill_all, request_book}
use Rattle.spec_laws.proofs.Keeps.{again, Valid, InGuestArea, MappedIn, shadow_asked, plain_in, depth_real, places, differ, store_keeps, lookup_without, lookup_with, mapping_keeps, upper_small, upper_long, fill_valid}
use Rattle.spec_laws.proofs.SetBits.{MoreBits, bits_more, more_keep, Placed, bits_lacks, lacks_five, lacks_six}

pub record Covered (c : Config) (m : Machine) (h : Held) : Type 0 where
  pub five : c.bits ≡ true → All (λ x. accessed (word_in c m x.0 x.1) ≡ true) h.reads
  pub six : c.bits ≡ true → length h.path ≡ c.levels → h.right ≡ true → dirty_at (world c m) h.reads ≡ true

abbrev pub Stands : Config → Machine → Held → Type 0
Stands c m h = Valid c m h × Covered c m h

-- ---- words that lose no bit

abbrev KeptAt : World → World → ℕ × ℕ → Type 0
KeptAt w v x = Kept (w.word_at x.0 x.1) (v.word_at x.0 x.1)

dirty_kept : (w v : World) (xs : List (ℕ × ℕ)) → All (KeptAt w v) xs → dirty_at w xs ≡ true → dirty_at v xs ≡ true
dirty_kept w v [] a h = refl
dirty_kept w v (x ∷ []) a h = a.0.keeps6 h
dirty_kept w v (x ∷ y ∷ ys) a h = dirty_kept w v (y ∷ ys) a.1 h

covered_kept : (c : Config) (m n : Machine) (h : Held) → All (KeptAt (world c m) (world c n)) h.reads → Covered c m h → Covered c n h
unfolding world
covered_kept c m n h a k = record {
  five = λ on. all_map (λ x. KeptAt (world c m) (world c n) x × (accessed (word_in c m x.0 x.1) ≡ true)) _ h.reads (λ x z. z.0.keeps5 z.1)
      (all_both (KeptAt (world c m) (world c n)) _ h.reads a (k.five on));
  six = λ on long right. dirty_kept (world c m) (world c n) h.reads a (k.six on long right);
}

-- own bit writes
pub more_stands : (c : Config) (m n : Machine) (h : Held) → MoreBits c m n → Stands c m h → Stands c n h
unfolding world
more_stands c m n h a s = (more_keep c m n h a s.0, covered_kept c m n h (all_any _ h.reads (λ x. a.words x.0 x.1)) s.1)

-- a mapping
pub mapping_stands : (c : Config) (m : Machine) (xs : List Mapping) (g : ℕ) (h : Held) → ((f : ℕ) → (f ≡ g → ⊥) → lookup f xs ≡ lookup f m.mappings)
    → Stands c m h → T (not (uses_mapping g h)) → Stands c (remapped m xs) h
unfolding world
mapping_stands c m xs g h same s n =
    (mapping_keeps c m xs g h same s.0 n, covered_kept c m (remapped m xs) h (all_any _ h.reads (λ x. kept_refl (word_in c m x.0 x.1))) s.1)

-- ---- a machine of the opening's sizes

pub record MachineFits (c : Config) (m : Machine) : Type 0 where
  pub mapped : MappedIn c m
  pub root : m.root < 2 ^ frame_bits c
  pub long : length m.area ≡ (c.frames - guest_base c) * 512

pub more_fits : (c : Config) (m n : Machine) → MoreBits c m n → MachineFits c m → MachineFits c n
more_fits c m n a f = record {
  mapped = λ g. subst (λ xs. AnswerIn (InGuestArea c) (lookup g xs)) (sym a.mappings) (f.mapped g);
  root = subst (λ r. r < 2 ^ frame_bits c) (sym a.root) f.root;
  long = a.long ∙ f.long;
}

abbrev pub WordIn : Config → ℕ × ℕ → Type 0
WordIn c x = InGuestArea c x.0 × (x.1 < 512)

placed : (c : Config) (m : Machine) (x : ℕ × ℕ) → MachineFits c m → WordIn c x → Placed c m x
placed c m x f k = subst (λ n. place c x.0 x.1 < n) (sym f.long) (below x.0 x.1 (guest_base c) c.frames k.0.0 k.0.1 k.1)
  where
    below : (t i b f : ℕ) → b ≤ t → t < f → i < 512 → (t - b) * 512 + i < (f - b) * 512
    below t i b f x y z = omega arith

-- the entries that a path covers lie in the guest area
pub reads_in : (c : Config) (m : Machine) (h : Held) → MachineFits c m → Valid c m h → All (WordIn c) h.reads
unfolding again seen
reads_in c m h f v =
    subst (λ (s : Seen Fault Place). All (WordIn c) s.reads) v.comes (shadow_asked c m false h.path f.mapped f.root v.small).reads

-- a store
pub store_stands : (c : Config) (m : Machine) (t i v : ℕ) (h : Held) → MachineFits c m → guest_base c ≤ t → i < 512
    → Stands c m h → T (not (reads_word t i h)) → Stands c (stored c m t i v) h
unfolding world
store_stands c m t i v h f bt bi s nr =
    (store_keeps c m t i v h f.mapped f.root bt bi s.0 nr, covered_kept c m (stored c m t i v) h untouched s.1)
  where
    untouched : All (KeptAt (world c m) (world c (stored c m t i v))) h.reads
    untouched =
        all_map (λ x. WordIn c x × T (not (eqb t x.0 && eqb i x.1))) (KeptAt (world c m) (world c (stored c m t i v))) h.reads
        (λ x k. subst (Kept (word_in c m x.0 x.1)) (sym (get_or-set_other m.area (place c t i) (place c x.0 x.1) v 0
        (places (guest_base c) t i x.0 x.1 bt k.0.0.0 bi k.0.1 (differ t i x.0 x.1 k.1)))) (kept_refl (word_in c m x.0 x.1)))
        (all_both (WordIn c) (λ x. T (not (eqb t x.0 && eqb i x.1))) h.reads (reads_in c m h f s.0) (none_passes _ h.reads nr))

-- ---- a request

-- whose shadow part came to r
module _ (c : Config) (m : Machine) (st : Bool) (a d : ℕ) (r : Place) (f : MachineFits c m) (low : d ≤ c.levels)
    (comes : (shadow_of c m st a d).result ≡ granted r) (real : is_span c r.0 ≡ false) where
  abbrev part : Trace Fault Place
  part = shadow_of c m st a d

  -- the machine with the request's bits
  abbrev noted : Machine
  noted = bits_set c st m (plain c m st a)

  abbrev new : Held
  new = held_by (upper c d (address_indexes c a)) part (right_of c (world c m) st d part r.1)

  new_valid : Valid c m new
  new_valid = fill_valid c m st d (upper c d (address_indexes c a)) r (upper_small c d a) (upper_long c d a) comes real

  read_in : All (Placed c m) (plain c m st a).reads
  unfolding plain
  read_in = all_map (WordIn c) (Placed c m) (plain c m st a).reads (λ x k. placed c m x f k) (shadow_asked c m st (address_indexes c a) f.mapped f.root (indexes_all c.levels (page_of a))).reads

  parts_reads : (plain c m st a).reads ≡ part.reads ++ (direct_of c m st a d r).reads
  unfolding plain
  parts_reads = ap (λ (x : Trace Fault Place). x.reads) (direct_trace (world c m) c st d m.root (address_indexes c a) r (indexes_length c.levels (page_of a)) low comes)

  -- a path of depth 0 stands for the whole walk
  whole_reads : d ≡ 0 → (plain c m st a).reads ≡ part.reads
  unfolding plain
  whole_reads z =
      ap (λ x. (trace (world c m) (walk c st m.root x)).reads)
      (sym (ap (λ k. upper c k (address_indexes c a)) z ∙ take_all (c.levels - 0) (address_indexes c a) (omega (arith, indexes_length c.levels (page_of a)))))

  -- what lets stores pass at depth 0 with bits on: a store, which sets bit 6, or the bit set before
  new_dirty : c.bits ≡ true → d ≡ 0 → right_of c (world c m) st d part r.1 ≡ true → dirty_at (world c noted) part.reads ≡ true
  unfolding world
  new_dirty on z e = go st refl (sym (ap (λ k. not k || st || dirty_at (world c m) part.reads) both) ∙ and_second r.1 _ e)
    where
      both : (c.bits && eqb d 0) ≡ true
      both = ap (λ b. b && eqb d 0) on ∙ ap (λ k. eqb k 0) z

      go : (k : Bool) → st ≡ k → (k || dirty_at (world c m) part.reads) ≡ true → dirty_at (world c noted) part.reads ≡ true
      go true q h =
          subst (λ xs. dirty_at (world c noted) xs ≡ true) (whole_reads z)
          (lacks_six (world c noted) (plain c m st a).reads (subst (λ k. lacks (world c noted) k (plain c m st a).reads ≡ false) q (bits_lacks c st m (plain c m st a) on read_in)))
      go false q h = dirty_kept (world c m) (world c noted) part.reads (all_any _ part.reads (λ x. (bits_more c st m (plain c m st a)).words x.0 x.1)) h

  new_covered : Covered c noted new
  unfolding world
  new_covered = record {
    five = λ on. all_left _ part.reads _ (subst (All (λ x. accessed (word_in c noted x.0 x.1) ≡ true)) parts_reads
        (lacks_five (world c noted) st (plain c m st a).reads (bits_lacks c st m (plain c m st a) on read_in)));
    six = λ on long right. new_dirty on (omega (arith, low, long, upper_long c d a)) right;
  }

-- the machine on which a request leaves its word to be used, by its verdict
abbrev pub left : Machine → Machine → Result Fault Place → Machine
left m n (failed x) = m
left m n (granted p) = n

pub request_stands : (c : Config) (m : Machine) (b : Book) (st : Bool) (a d : ℕ) → MachineFits c m
    → ((r : Place) → (shadow_of c m st a d).result ≡ granted r → is_span c r.0 ≡ false) → All (Stands c m) b.held
    → All (Stands c (left m (bits_set c st m (plain c m st a)) (verdict c m st a))) (request c m b st a d).book.held
request_stands c m b st a d f real old = go (verdict c m st a) refl
  where
    p : List ℕ
    p = upper c d (address_indexes c a)

    k : Machine
    k = bits_set c st m (plain c m st a)

    go : (x : Result Fault Place) → verdict c m st a ≡ x → All (Stands c (left m k x)) (request c m b st a d).book.held
    go (granted q) e =
        let more = bits_more c st m (plain c m st a) in
        let kept = all_map (Stands c m) (Stands c k) b.held (λ h z. more_stands c m k h more z) old in
        request_book (λ y. All (Stands c k) y.held) c m b st a d kept
        (λ r l z g. fill_all (Stands c k) c _ (others c p b.held)
        (more_keep c m k _ more (new_valid c m st a d r f l z (real r z)), new_covered c m st a d r f l z (real r z)) (others_all (Stands c k) c p b.held kept))
    go (failed x) e =
        request_book (λ y. All (Stands c m) y.held) c m b st a d old
        (λ r l z g.
        let off : c.bits ≡ true → ⊥ = λ on. false≢true (sym (ap is_granted e) ∙ g on) in
        fill_all (Stands c m) c _ (others c p b.held)
        (new_valid c m st a d r f l z (real r z), record { five = λ on. absurd (off on); six = λ on. absurd (off on) }) (others_all (Stands c m) c p b.held old))

-- ---- a granted store, the device's too: the word, then the drops

storing_stands : (c : Config) (m : Machine) (k : Counted) (p : Place) (i v : ℕ) → MachineFits c m → InGuestArea c p.0 → i < 512 → All (Stands c m) k.book.held
    → All (Stands c (stored c m p.0 i v)) (storing i (granted p) k).book.held
unfolding storing
storing_stands c m k p i v f at b a =
    all_map (λ h. Stands c m h × T (not (reads_word p.0 i h))) (Stands c (stored c m p.0 i v)) (drop_word p.0 i k.book.held)
    (λ h z. store_stands c m p.0 i v h f at.0 b z.0 z.1) (all_keep (Stands c m) (λ h. not (reads_word p.0 i h)) k.book.held a)

pub device_in : (c : Config) (m : Machine) (a : ℕ) (p : Place) → MappedIn c m → (device_walk c m a).result ≡ granted p → InGuestArea c p.0
unfolding device_walk world trace
device_in c m a p mi h =
    let w = world c m in
    let t = through w (hosted (page_of a)) (λ q. must q.1 (HostReadOnly (page_of a)) >> done q) p h in
    let g = hosted_granted w (page_of a) t.mid t.first in
    subst (λ (q : Place). InGuestArea c q.0) (same t.mid t.mid.1 t.next) (subst (AnswerIn (InGuestArea c)) g.0 (mi (page_of a)))
  where
    same : (q : Place) (b : Bool) → (trace (world c m) (must b (HostReadOnly (page_of a)) >> done q)).result ≡ granted p → q ≡ p
    same q true e = granted_is q p e
    same q false e = absurd (no_grant e)

-- ---- every call

pub call_stands : (c : Config) (m : Machine) (b : Book) (x : Call) → MachineFits c m → All (Stands c m) b.held
    → All (Stands c (machine_step c x m).1) (book_step c x m b).book.held
unfolding machine_step book_step access storing word_of
call_stands c m b x f old = by x
  where
    remaps : (xs : List Mapping) (g : ℕ) → ((j : ℕ) → (j ≡ g → ⊥) → lookup j xs ≡ lookup j m.mappings) → All (Stands c (remapped m xs)) (drop_mapping g b.held)
    remaps xs g same =
        all_map (λ h. Stands c m h × T (not (uses_mapping g h))) _ (drop_mapping g b.held) (λ h k. mapping_stands c m xs g h same k.0 k.1)
        (all_keep (Stands c m) (λ h. not (uses_mapping g h)) b.held old)

    -- the request of a load or a store
    asks : Bool → ℕ → Counted
    asks st a = request c m b st a (request_depth c m b a)

    noted : Bool → ℕ → Machine
    noted st a = bits_set c st m (plain c m st a)

    loads : (a w : ℕ) (x : Result Fault Place) → All (Stands c (left m (noted false a) x)) (asks false a).book.held
        → All (Stands c (access c m (noted false a) a w none x).1) (asks false a).book.held
    loads a w (failed x) z = z
    loads a w (granted p) z = z

    stores : (a w v : ℕ) (x : Result Fault Place) → verdict c m true a ≡ x → All (Stands c (left m (noted true a) x)) (asks true a).book.held
        → All (Stands c (access c m (noted true a) a w (some v) x).1) (storing (word_of a) x (asks true a)).book.held
    stores a w v (failed x) e z = z
    stores a w v (granted p) e z =
        storing_stands c (noted true a) (asks true a) p (word_of a) _ (more_fits c m (noted true a) (bits_more c true m (plain c m true a)) f)
        (plain_in c m true a p f.mapped f.root (verdict_granted c m true a p e)) (omega arith) z

    devices : (a w v : ℕ) (k : Counted) (x : Result Fault Place) → (device_walk c m a).result ≡ x → All (Stands c m) k.book.held
        → All (Stands c (access c m m a w (some v) x).1) (storing (word_of a) x k).book.held
    devices a w v k (failed x) e z = z
    devices a w v k (granted p) e z = storing_stands c m k p (word_of a) _ f (device_in c m a p f.mapped e) (omega arith) z

    by : (y : Call) → All (Stands c (machine_step c y m).1) (book_step c y m b).book.held
    by (root r) = tt
    by (map g t w) = remaps (with g t w m.mappings) g (λ j n. lookup_with g j t w m.mappings n)
    by (unmap g) = remaps (without g m.mappings) g (λ j n. lookup_without g j m.mappings n)
    by (set_mark a n) = operated_held (Stands c m) c (mark_at c n (address_indexes c a)) b old
    by (clear_mark a n) = all_kept (Stands c m) (λ h. not (begins (mark_at c n (address_indexes c a)).prefix h.path)) b.held old
    by (load a w) = observed_held _ c none _ (loads a w (verdict c m false a) (request_stands c m b false a (request_depth c m b a) f (depth_real c m a _ f.mapped f.root false) old))
    by (store a w v) = observed_held _ c _ _ (stores a w v (verdict c m true a) refl (request_stands c m b true a (request_depth c m b a) f (depth_real c m a _ f.mapped f.root true) old))
    by (device a w v) = devices a w v (unshadowed b (device_walk c m a).count (device_walk c m a).result) (device_walk c m a).result refl old
    by (forecast xs) = old

-- the held paths of the state that a call leaves, refused or not
pub step_stands : (x : Call) (s : State) → MachineFits s.config s.machine → All (Stands s.config s.machine) s.book.held
    → let t = (step x s).1 in All (Stands t.config t.machine) t.book.held
unfolding step
step_stands x s f old = go (refusal s.config x s.machine s.book)
  where
    go : (r : Option ℕ) → let t = (answered x s r).1 in All (Stands t.config t.machine) t.book.held
    go (some n) = old
    go none = call_stands s.config s.machine s.book x f old

pub step_covered : (x : Call) (s : State) → let c = s.config in let m = s.machine in
    MappedIn c m → m.root < 2 ^ frame_bits c → length m.area ≡ (c.frames - guest_base c) * 512 → All (Valid c m) s.book.held → All (Covered c m) s.book.held
    → let t = (step x s).1 in All (Covered t.config t.machine) t.book.held
step_covered x s mi rb long va co =
    let c = s.config in
    let m = s.machine in
    let t = (step x s).1 in
    all_map (Stands t.config t.machine) (Covered t.config t.machine) t.book.held (λ h k. k.1)
    (step_stands x s (record { mapped = mi; root = rb; long = long }) (all_both (Valid c m) (Covered c m) s.book.held va co))
