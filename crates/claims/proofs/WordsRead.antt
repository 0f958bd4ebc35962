-- A walk over memory, and a translation through a held path or at depth N + 1, depend on the words that they read and on no
-- other, and count them; so do the bits that such a request sets. For any memory.
-- Assumes nothing.
use mathlib.Core.Path.{◌≡◌, refl, sym, ap, ap₂, ◌∙◌, subst}
use mathlib.Core.Logic.{◌⊎◌, inl, inr}
use Prim.Native.Nat.{ℕ, suc, pred, ◌+◌, ◌-◌, ◌*◌, ◌%◌, ◌<◌, ◌≤◌}
use native.Mathlib.Nat.{zero-add, div-one}
use native.Mathlib.Omega.{arith}
use mathlib.Core.Bool.{Bool, true, false, not, ◌&&◌, ◌||◌, cond}
use mathlib.Core.List.{List, [], ◌∷◌, ◌++◌}
use mathlib.Core.Option.{Option, none, some}
use lib.Dec.{eqb, leb, ltb, leb→le, le→leb}
use borrow.Author.Tests.{eqb-true, eqb-false, le-ltb, lt-ltb, ltb-true, ltb-false}
use lib.ListN.{length, get_or, set, length-set, length-append}
use lib.Seq.{get_or-set_same, get_or-set_other, set_out}
use Rattle.spec.specs.declared.Fault.{Fault}
use Rattle.spec.specs.declared.Fault.TheVariants.{Absent, Malformed, Protected, HostAbsent, HostReadOnly}
use Rattle.spec.specs.Config.{Config}
use Rattle.spec.specs.Entry.{present, writable, frame_of, malformed, page_of, indexes, entry_limit}
use Rattle.spec.specs.Walk.{Walk, done, fail, host, word, ◌>>=◌, World, Trace, trace}
use Rattle.spec.specs.Plain.{Place, Lead, to, into, is_span, must, hosted, entry, next, entry_lead, span_lead, onward, turn, levels, walk}
use Rattle.spec.specs.Bits.{is_last, with_bits, lacks, owed}
use Rattle.spec.specs.Refusal.{in_guest_area}
use Rattle.spec.specs.Prefix.{All}
use Rattle.spec_laws.proofs.Lists.{all_map, all_any, all_left, is_true, is_false, all_append, all_right}
use Rattle.spec_laws.proofs.Indexes.{indexes_length, indexes_all, indexes_split}
use Rattle.spec_laws.proofs.Asks.{AnswerIn, Guest}
use Rattle.spec_laws.proofs.Local as answers
use Rattle.spec_laws.proofs.Local.{SameMapping, SameHost, local}
use Rattle.spec_laws.proofs.SetBits.{lacks_on, owed_on}
use Rattle.entry.specs.declared.HostPhysical.{HostPhysical}
use Rattle.words.specs.Words.{word_in, set_in}
use Rattle.pool.specs.declared.Way.{Way}
use Rattle.pool.specs.declared.Way.TheVariants.{To, Not, Damaged}
use Rattle.area.specs.declared.Look.{Look}
use Rattle.area.specs.declared.Look.TheVariants.{Seen}
use Rattle.area.specs.declared.Look.TheVariants as look
use Rattle.pool.specs.Header.{inside_of, entry_at_of}
use Rattle.pool.specs.Pool.{follow_of, on_way}
use Rattle.pool.specs.Outside.{SameOutside}
use Rattle.pool.proofs.Laws.{WayGood, follow_good}
use Rattle.area.specs.Tree.{lookup_of}
use Rattle.area_laws.proofs.Invariant.{present_zero}
use Rattle.area.specs.Tree.{entries_read}
use Rattle.area_laws.proofs.Local.{SameEntry, look_local, Counts, look_count}
use Rattle.layout.specs.declared.HostWalk.{HostWalk}
use Rattle.layout.specs.declared.HostWalk.TheVariants as hosts
use Rattle.layout.specs.Layout.{page, leaf_of, named_by}
use Rattle.layout.proofs.Laws.{HostFits}
use Rattle.host.specs.Walk.{host_walk_of}
use Rattle.host.proofs.Laws.{host_fits}
use Rattle.walk.specs.declared.Walked.{Walked}
use Rattle.walk.specs.declared.Walked.TheVariants as walked
use Rattle.walk.specs.Memory.{place_of, reads_of, memory_world, absent_by, walked_by, walked_of}
use Rattle.walk.proofs.Laws.{walked_done}
use Rattle.accessed.specs.Entries.{bits_in}
use Rattle.accessed.proofs.Walks.{arrived_granted}
use Rattle.record.specs.declared.Record.{Record}
use Rattle.record.specs.Record.{config_of}
use Rattle.shadow.specs.Held.{held_of as shadowed}
use Rattle.translate.specs.declared.Checked.{Checked}
use Rattle.translate.specs.declared.Checked.TheVariants as checked
use Rattle.translate.specs.declared.Held.{Held}
use Rattle.translate.specs.declared.Translated.{Translated}
use Rattle.translate.specs.Translate.{translation, exit_by, path_indexes, direct, direct_of, served_of, whole, plain_of, checked_by, checked_of, judged_by, through_of, unshadowed_of, serves_of, found_of, missed_of, found_by, translate_of, soon_by, walked_depth, may_turn, depth_by, depth_of}
use Rattle.translate.proofs.Bits.{through_off, through_on, through_end}
use Rattle.request.specs.Access.{set_by, bits_of, settled_of}
use Rattle.calls.specs.Calls.{host_top, held_of, root_of, depth_at, request_depth, translated_of}
use Rattle.claims.specs.Counted.{Word, SameWords, host_words, walk_words, path_words, direct_words, counted_of, LacksNone, SetsNone}
use Rattle.words.specs.After.{After, yields}
use Rattle.spec_laws.proofs.Keeps.{InGuestArea, area_real}

-- ---- lists of words

-- equal words have equal entries
same_entries : (m n : List ℕ) (xs : List Word) → SameWords m n xs → All (SameEntry m n) xs
unfolding entry_at_of
same_entries m n xs h = all_map _ _ xs (λ x e. ap (λ k. k % entry_limit) e) h

-- ---- walks that end with fault H exactly where a frame is not mapped

abbrev NotHost : Fault → Type 0
NotHost (Absent n) = Unit {0}
NotHost (Malformed n) = Unit {0}
NotHost (Protected n) = Unit {0}
NotHost (HostAbsent g) = ⊥
NotHost (HostReadOnly g) = Unit {0}

abbrev Ends : {A : Type 0} → Walk Fault A → Type 0
Ends (done a) = Unit {0}
Ends (fail x) = NotHost x
Ends (host g k) = (k none ≡ fail (HostAbsent g)) × ((r : Place) → Ends (k (some r)))
Ends (word t i k) = (e : ℕ) → Ends (k e)

ends_bind : {A B : Type 0} (p : Walk Fault A) (f : A → Walk Fault B) → Ends p → ((a : A) → Ends (f a)) → Ends (p >>= f)
ends_bind (done a) f h q = q a
ends_bind (fail x) f h q = h
ends_bind (host g k) f h q = (ap (λ y. y >>= f) h.0, λ r. ends_bind (k (some r)) f (h.1 r) q)
ends_bind (word t i k) f h q = λ e. ends_bind (k e) f (h e) q

must_ends : (b : Bool) (x : Fault) → NotHost x → Ends (must b x)
must_ends true x h = tt
must_ends false x h = h

hosted_ends : (g : ℕ) → Ends (hosted g)
unfolding hosted
hosted_ends g = (refl, λ r. tt)

entry_ends : (c : Config) (n t i : ℕ) → Ends (entry c n t i)
unfolding entry
entry_ends c n t i = λ e. ends_bind (must (present e) (Absent n)) _ (must_ends (present e) (Absent n) tt) (λ _.
    ends_bind (must (not (malformed c n e)) (Malformed n)) _ (must_ends (not (malformed c n e)) (Malformed n) tt) (λ _. tt))

next_ends : (st last : Bool) (g : ℕ) (w : Bool) → Ends (next st last g w)
unfolding next
next_ends st false g w = ends_bind (hosted g) _ (hosted_ends g) (λ r. tt)
next_ends st true g w = ends_bind (must (not st || w) (Protected 1)) _ (must_ends (not st || w) (Protected 1) tt) (λ _.
    ends_bind (hosted g) _ (hosted_ends g) (λ r. ends_bind (must (not st || r.1) (HostReadOnly g)) _ (must_ends (not st || r.1) (HostReadOnly g) tt) (λ _. tt)))

onward_ends : (c : Config) (st : Bool) (n : ℕ) (x : Lead) (w : Bool) → Ends (onward c st n x w)
unfolding onward
onward_ends c st n (to g) w = next_ends st (eqb n 1) g w
onward_ends c st n (into g) w = ends_bind (must (not st || w) (Protected n)) _ (must_ends (not st || w) (Protected n) tt) (λ _. tt)

turn_ends : (c : Config) (st : Bool) (n t i : ℕ) (w : Bool) → Ends (turn c st n t i w)
unfolding turn
turn_ends c st n t i w = go (is_span c t)
  where
    go : (b : Bool) → Ends (cond b (onward c st n (span_lead c n t i) w) (entry c n t i >>= λ e. onward c st n (entry_lead n e) (w && writable e)))
    go true = onward_ends c st n (span_lead c n t i) w
    go false = ends_bind (entry c n t i) _ (entry_ends c n t i) (λ e. onward_ends c st n (entry_lead n e) (w && writable e))

levels_ends : (c : Config) (st : Bool) (n t : ℕ) (w : Bool) (is : List ℕ) → Ends (levels c st n t w is)
unfolding levels
levels_ends c st n t w [] = tt
levels_ends c st n t w (i ∷ is) = ends_bind (turn c st n t i w) _ (turn_ends c st n t i w) (λ r. levels_ends c st (pred n) r.0 r.1 is)

walk_ends : (c : Config) (st : Bool) (root : ℕ) (is : List ℕ) → Ends (walk c st root is)
unfolding walk
walk_ends c st root is = ends_bind (hosted root) _ (hosted_ends root) (λ r. levels_ends c st c.levels r.0 true is)

-- ---- such a walk over memory, question by question

abbrev on_host : Config → ℕ → List ℕ → ℕ → ℕ → (Option Place → Walk Fault Place) → HostWalk → Walked
on_host c ht m j g k (hosts.Found p w) = walked_of c ht m (j + c.levels) (k (some (p.0, w)))
on_host c ht m j g k (hosts.Absent n) = walked.Faulted (HostAbsent g) (j + n)
on_host c ht m j g k hosts.Damaged = walked.Damaged

walked_host : (c : Config) (ht : ℕ) (m : List ℕ) (j g : ℕ) (k : Option Place → Walk Fault Place) → k none ≡ fail (HostAbsent g)
    → walked_of c ht m j (host g k) ≡ on_host c ht m j g k (host_walk_of c ht m g)
unfolding walked_of trace memory_world
walked_host c ht m j g k e = go (host_walk_of c ht m g) refl
  where
    w : World
    w = memory_world c ht m

    on : HostWalk → Trace Fault Place
    on h = trace w (k (place_of h))

    go : (h : HostWalk) → host_walk_of c ht m g ≡ h → walked_by c ht m (on h).result (j + (reads_of c h + (on h).count)) ≡ on_host c ht m j g k h
    go (hosts.Found p v) q =
        let t = on (hosts.Found p v) in
        let z : j + (c.levels + t.count) ≡ j + c.levels + t.count = omega arith in
        ap (walked_by c ht m t.result) z
    go (hosts.Absent n) q =
        let z : j + (n + 0) ≡ j + n = omega arith in
        ap (λ y. walked_by c ht m (trace w y).result (j + (n + (trace w y).count))) e
        ∙ ap (λ h. absent_by h (walked.Faulted (HostAbsent g) (j + (n + 0)))) q ∙ ap (walked.Faulted (HostAbsent g)) z
    go hosts.Damaged q =
        ap (λ y. walked_by c ht m (trace w y).result (j + (0 + (trace w y).count))) e
        ∙ ap (λ h. absent_by h (walked.Faulted (HostAbsent g) (j + (0 + 0)))) q

walked_word : (c : Config) (ht : ℕ) (m : List ℕ) (j t i : ℕ) (k : ℕ → Walk Fault Place) → walked_of c ht m j (word t i k) ≡ walked_of c ht m (j + 1) (k (word_in m t i))
unfolding walked_of trace memory_world
walked_word c ht m j t i k =
    let r = trace (memory_world c ht m) (k (word_in m t i)) in
    let z : j + (1 + r.count) ≡ j + 1 + r.count = omega arith in
    ap (walked_by c ht m r.result) z

walked_fail : (c : Config) (ht : ℕ) (m : List ℕ) (j : ℕ) (x : Fault) → NotHost x → walked_of c ht m j (fail x) ≡ walked.Faulted x j
unfolding walked_of trace
walked_fail c ht m j (Absent n) h = let z : j + 0 ≡ j = omega arith in ap (walked.Faulted (Absent n)) z
walked_fail c ht m j (Malformed n) h = let z : j + 0 ≡ j = omega arith in ap (walked.Faulted (Malformed n)) z
walked_fail c ht m j (Protected n) h = let z : j + 0 ≡ j = omega arith in ap (walked.Faulted (Protected n)) z
walked_fail c ht m j (HostAbsent g) h = absurd h
walked_fail c ht m j (HostReadOnly g) h = let z : j + 0 ≡ j = omega arith in ap (walked.Faulted (HostReadOnly g)) z

-- ---- it depends on the words that it reads

host_local : (c : Config) (ht : ℕ) (m n : List ℕ) (g : ℕ) → SameWords m n (host_words c ht m g) → host_walk_of c ht n g ≡ host_walk_of c ht m g
unfolding host_walk_of
host_local c ht m n g h = ap (named_by c) (look_local 0 c.hosts m n (indexes c.levels g) ht 0 (same_entries m n (host_words c ht m g) h))

pub walk_local : (c : Config) (ht : ℕ) (m n : List ℕ) (p : Walk Fault Place) (j : ℕ) → Ends p → SameWords m n (walk_words c ht m p) → walked_of c ht n j p ≡ walked_of c ht m j p
unfolding walk_words
walk_local c ht m n (done a) j h s = walked_done c ht n j a.0 a.1 ∙ sym (walked_done c ht m j a.0 a.1)
walk_local c ht m n (fail x) j h s = walked_fail c ht n j x h ∙ sym (walked_fail c ht m j x h)
walk_local c ht m n (host g k) j h s =
    walked_host c ht n j g k h.0 ∙ ap (on_host c ht n j g k) (host_local c ht m n g (all_left _ (host_words c ht m g) (walk_words c ht m (k (place_of (host_walk_of c ht m g)))) s))
    ∙ go (host_walk_of c ht m g) (all_right _ (host_words c ht m g) (walk_words c ht m (k (place_of (host_walk_of c ht m g)))) s) (λ r q. walk_local c ht m n (k (some r)) (j + c.levels) (h.1 r) q)
    ∙ sym (walked_host c ht m j g k h.0)
  where
    go : (x : HostWalk) → SameWords m n (walk_words c ht m (k (place_of x)))
        → ((r : Place) → SameWords m n (walk_words c ht m (k (some r))) → walked_of c ht n (j + c.levels) (k (some r)) ≡ walked_of c ht m (j + c.levels) (k (some r)))
        → on_host c ht n j g k x ≡ on_host c ht m j g k x
    go (hosts.Found p w) q ih = ih (p.0, w) q
    go (hosts.Absent i) q ih = refl
    go hosts.Damaged q ih = refl
walk_local c ht m n (word t i k) j h s =
    walked_word c ht n j t i k ∙ ap (λ e. walked_of c ht n (j + 1) (k e)) s.0 ∙ walk_local c ht m n (k (word_in m t i)) (j + 1) (h (word_in m t i)) s.1
    ∙ sym (walked_word c ht m j t i k)

-- so does its trace
trace_alike : {A : Type 0} (c : Config) (ht : ℕ) (m n : List ℕ) (p : Walk Fault A) → SameWords m n (walk_words c ht m p)
    → answers.Alike (memory_world c ht m) (memory_world c ht n) (trace (memory_world c ht m) p)
unfolding walk_words trace memory_world
trace_alike c ht m n (done a) s = record { hosts = tt; words = tt }
trace_alike c ht m n (fail x) s = record { hosts = tt; words = tt }
trace_alike c ht m n (host g k) s =
    let x = host_local c ht m n g (all_left _ (host_words c ht m g) (walk_words c ht m (k (place_of (host_walk_of c ht m g)))) s) in
    let ih = trace_alike c ht m n (k (place_of (host_walk_of c ht m g))) (all_right _ (host_words c ht m g) (walk_words c ht m (k (place_of (host_walk_of c ht m g)))) s) in
    record { hosts = ((ap place_of x, ap (reads_of c) x), ih.hosts); words = ih.words }
trace_alike c ht m n (word t i k) s =
    let ih = trace_alike c ht m n (k (word_in m t i)) s.1 in
    record { hosts = ih.hosts; words = (s.0, ih.words) }

-- and what its bits say
module _ (c : Config) (ht : ℕ) (m n : List ℕ) (p : Walk Fault Place) (s : SameWords m n (walk_words c ht m p)) where
  abbrev here : World
  here = memory_world c ht m

  abbrev there : World
  there = memory_world c ht n

  trace_local : trace there p ≡ trace here p
  trace_local = local here there p (trace_alike c ht m n p s)

  lacks_local : (st : Bool) → lacks there st (trace there p).reads ≡ lacks here st (trace here p).reads
  lacks_local st = ap (λ (x : Trace Fault Place). lacks there st x.reads) trace_local ∙ lacks_on here there st (trace here p).reads (trace_alike c ht m n p s).words

  owed_local : (st : Bool) (k : ℕ) → owed there st k (trace there p).reads (trace there p).uses ≡ owed here st k (trace here p).reads (trace here p).uses
  owed_local st k =
      ap (λ (x : Trace Fault Place). owed there st k x.reads x.uses) trace_local
      ∙ owed_on here there st k (trace here p).reads (trace here p).uses (trace_alike c ht m n p s).words
      (all_map (SameHost here there) (SameMapping here there) (trace here p).uses (λ g h. h.0) (trace_alike c ht m n p s).hosts)

-- ---- no word of a shadow table is among them

host_outside : (c : Config) (m n : List ℕ) → SameOutside c.hosts c.shadows m n → (is : List ℕ) (e : ℕ) → All (λ i. i < 512) is
    → SameWords m n (entries_read 0 c.hosts m e is)
unfolding entries_read
host_outside c m n o [] e b = tt
host_outside c m n o (i ∷ is) e b = go (follow_of 0 c.hosts e) (follow_good 0 c.hosts e) (λ f. host_outside c m n o is (entry_at_of m f i) b.1)
  where
    go : (w : Way) → WayGood 0 c.hosts w → ((f : ℕ) → SameWords m n (entries_read 0 c.hosts m (entry_at_of m f i) is))
        → SameWords m n (on_way w [] [] (λ f. (f, i) ∷ entries_read 0 c.hosts m (entry_at_of m f i) is))
    go (To f) g ih = (o.same (f * 512 + i) (inl (omega (arith, g.1, b.0))), ih f)
    go Not g ih = tt
    go Damaged g ih = tt

answer_in : (c : Config) (ht : ℕ) (m : List ℕ) (g : ℕ) → AnswerIn (InGuestArea c) (place_of (host_walk_of c ht m g))
answer_in c ht m g = go (host_walk_of c ht m g) (host_fits c ht m g)
  where
    go : (x : HostWalk) → HostFits c x → AnswerIn (InGuestArea c) (place_of x)
    go (hosts.Found p w) h = h
    go (hosts.Absent n) h = tt
    go hosts.Damaged h = tt

pub walk_outside : {A : Type 0} (c : Config) (ht : ℕ) (m n : List ℕ) → SameOutside c.hosts c.shadows m n → (p : Walk Fault A) (R : A → Type 0)
    → Guest c (InGuestArea c) (area_real c) p R → SameWords m n (walk_words c ht m p)
unfolding walk_words
walk_outside c ht m n o (done a) R h = tt
walk_outside c ht m n o (fail x) R h = tt
walk_outside c ht m n o (host g k) R h =
    let x = place_of (host_walk_of c ht m g) in
    all_append _ (host_words c ht m g) (walk_words c ht m (k x)) (host_outside c m n o (indexes c.levels g) ht (indexes_all c.levels g))
    (walk_outside c ht m n o (k x) R (h.1 x (answer_in c ht m g)))
walk_outside c ht m n o (word t i k) R h =
    (o.same (t * 512 + i) (inr (omega (arith, h.0.0.0))), walk_outside c ht m n o (k (word_in m t i)) R (h.1 (word_in m t i)))

-- ---- own bits

set_alike : (m n : List ℕ) (i j v : ℕ) → length n ≡ length m → get_or n j 0 ≡ get_or m j 0 → get_or (set n i v) j 0 ≡ get_or (set m i v) j 0
set_alike m n i j v long e = go (eqb j i) refl (ltb i (length m)) refl
  where
    go : (b : Bool) → eqb j i ≡ b → (d : Bool) → ltb i (length m) ≡ d → get_or (set n i v) j 0 ≡ get_or (set m i v) j 0
    go true q true f =
        let l = ltb-true i (length m) f in
        subst (λ k. get_or (set n i v) k 0 ≡ get_or (set m i v) k 0) (sym (eqb-true j i q)) (get_or-set_same n i v 0 (omega (arith, l, long)) ∙ sym (get_or-set_same m i v 0 l))
    go true q false f =
        let l = ltb-false i (length m) f in
        ap (λ x. get_or x j 0) (set_out n i v (omega (arith, l, long))) ∙ e ∙ sym (ap (λ x. get_or x j 0) (set_out m i v l))
    go false q d f = get_or-set_other n i j v 0 (eqb-false j i q) ∙ e ∙ sym (get_or-set_other m i j v 0 (eqb-false j i q))

pub bits_alike : (st : Bool) (xs : List Word) (m n : List ℕ) → length n ≡ length m → SameWords m n xs → (j : ℕ) → get_or n j 0 ≡ get_or m j 0
    → get_or (bits_in st n xs) j 0 ≡ get_or (bits_in st m xs) j 0
bits_alike st [] m n long s j e = e
bits_alike st (x ∷ xs) m n long s j e =
    let i = x.0 * 512 + x.1 in
    let v = with_bits (st && is_last xs) (word_in m x.0 x.1) in
    ap (λ y. get_or (bits_in st (set_in n x.0 x.1 (with_bits (st && is_last xs) y)) xs) j 0) s.0
    ∙ bits_alike st xs (set m i v) (set n i v) (length-set n i v ∙ long ∙ sym (length-set m i v))
    (all_map _ _ xs (λ y q. set_alike m n i (y.0 * 512 + y.1) v long q) s.1) j (set_alike m n i j v long e)

bits_long : (st : Bool) (xs : List Word) (m : List ℕ) → length (bits_in st m xs) ≡ length m
bits_long st [] m = refl
bits_long st (x ∷ xs) m =
    let i = x.0 * 512 + x.1 in
    let v = with_bits (st && is_last xs) (word_in m x.0 x.1) in
    bits_long st xs (set m i v) ∙ length-set m i v

module _ (c : Config) (ht root : ℕ) (st : Bool) (a : ℕ) where
  -- a request that sets its bits sets them in the same entries,
  pub own_entries : (m n : List ℕ) → SameWords m n (walk_words c ht m (whole c st root a)) → (sets : Bool)
      → (xs : List Word) × SameWords m n xs × (settled_of c ht root st a sets m ≡ bits_in st m xs) × (settled_of c ht root st a sets n ≡ bits_in st n xs)
  unfolding settled_of bits_of memory_world
  own_entries m n s false = ([], tt, refl, refl)
  own_entries m n s true =
      let p = whole c st root a in
      let k = go (walked_of c ht m 0 p) (trace (memory_world c ht m) p).reads (trace_alike c ht m n p s).words in (
        k.0,
        k.1,
        k.2,
        ap₂ (λ x (t : Trace Fault Place). set_by x (bits_in st n t.reads) n) (walk_local c ht m n p 0 (walk_ends c st root (indexes c.levels (page_of a))) s) (trace_local c ht m n p s) ∙ k.3,
      )
    where
      go : (x : Walked) (xs : List Word) → SameWords m n xs
          → (ys : List Word) × SameWords m n ys × (set_by x (bits_in st m xs) m ≡ bits_in st m ys) × (set_by x (bits_in st n xs) n ≡ bits_in st n ys)
      go (walked.Arrived w t k) xs q = (xs, q, refl, refl)
      go (walked.Faulted y k) xs q = ([], tt, refl, refl)
      go walked.Damaged xs q = ([], tt, refl, refl)

  pub own_long : (sets : Bool) (m : List ℕ) → length (settled_of c ht root st a sets m) ≡ length m
  own_long sets m = let k = own_entries m m (all_any _ (walk_words c ht m (whole c st root a)) (λ x. refl)) sets in ap length k.2 ∙ bits_long st k.0 m

  -- so a word that is the same stays the same
  pub own_alike : (m n : List ℕ) → length n ≡ length m → SameWords m n (walk_words c ht m (whole c st root a)) → (sets : Bool) (j : ℕ) → get_or n j 0 ≡ get_or m j 0
      → get_or (settled_of c ht root st a sets n) j 0 ≡ get_or (settled_of c ht root st a sets m) j 0
  own_alike m n long s sets j e =
      let k = own_entries m n s sets in
      ap (λ l. get_or l j 0) k.3 ∙ bits_alike st k.0 m n long k.1 j e ∙ sym (ap (λ l. get_or l j 0) k.2)

-- ---- and it counts them

-- an entry that is present was found at the end of the whole path
abbrev Full : ℕ → Look → Type 0
Full n (Seen e k) = present e ≡ true → k ≡ n
Full n look.Damaged = Unit {0}

look_full : (b s : ℕ) (m : List ℕ) (is : List ℕ) (e k : ℕ) → Full (k + length is) (lookup_of b s m e is k)
unfolding lookup_of
look_full b s m [] e k = λ q. omega arith
look_full b s m (i ∷ is) e k = go (follow_of b s e) (λ f. look_full b s m is (entry_at_of m f i) (k + 1))
  where
    more : (x y : ℕ) (l : Look) → x ≡ y → Full x l → Full y l
    more x y (Seen e n) q h = λ p. h p ∙ q
    more x y look.Damaged q h = tt

    go : (w : Way) → ((f : ℕ) → Full (k + 1 + length is) (lookup_of b s m (entry_at_of m f i) is (k + 1)))
        → Full (k + suc (length is)) (on_way w (Seen 0 k) look.Damaged (λ f. lookup_of b s m (entry_at_of m f i) is (k + 1)))
    go (To f) ih = more (k + 1 + length is) (k + suc (length is)) (lookup_of b s m (entry_at_of m f i) is (k + 1)) (omega arith) (ih f)
    go Not ih = λ q. let t : ◌≡◌ {A = Bool} false true = sym present_zero ∙ q in let z : ◌≡◌ {A = ℕ} 0 1 = cc in absurd (omega arith)
    go Damaged ih = tt

-- the words of a lookup: one for each index where it finds an entry, else as many as it tells
abbrev LookReads : ℕ → ℕ → HostWalk → Type 0
LookReads x k (hosts.Found p w) = x ≡ k
LookReads x k (hosts.Absent n) = x ≡ n
LookReads x k hosts.Damaged = Unit {0}

look_reads : (c : Config) (b s : ℕ) (m : List ℕ) (e : ℕ) (is : List ℕ) → LookReads (length (entries_read b s m e is)) (length is) (named_by c (lookup_of b s m e is 0))
unfolding leaf_of
look_reads c b s m e is = go (lookup_of b s m e is 0) (look_count b s m is e 0) (look_full b s m is e 0)
  where
    go : (l : Look) → Counts (0 + length (entries_read b s m e is)) l → Full (0 + length is) l → LookReads (length (entries_read b s m e is)) (length is) (named_by c l)
    go (Seen x n) q f = by (present x) refl (in_guest_area c (frame_of x))
      where
        by : (t : Bool) → present x ≡ t → (i : Bool) → LookReads (length (entries_read b s m e is)) (length is) (cond t (cond i (hosts.Found (page (frame_of x)) (writable x)) hosts.Damaged) (hosts.Absent n))
        by true z true = let k = f z in omega (arith, k, q)
        by true z false = tt
        by false z i = omega (arith, q)
    go look.Damaged q f = tt

host_reads : (c : Config) (ht : ℕ) (m : List ℕ) (g : ℕ) → LookReads (length (host_words c ht m g)) c.levels (host_walk_of c ht m g)
unfolding host_walk_of
host_reads c ht m g = subst (λ k. LookReads (length (host_words c ht m g)) k (host_walk_of c ht m g)) (indexes_length c.levels g) (look_reads c 0 c.hosts m ht (indexes c.levels g))

-- x words were read
abbrev pub Reads : ℕ → Walked → Type 0
Reads x (walked.Arrived w t n) = n ≡ x
Reads x (walked.Faulted y n) = n ≡ x
Reads x walked.Damaged = Unit {0}

reads_same : (x y : ℕ) (r : Walked) → x ≡ y → Reads x r → Reads y r
reads_same x y r e h = subst (λ k. Reads k r) e h

pub walk_count : (c : Config) (ht : ℕ) (m : List ℕ) (p : Walk Fault Place) (j : ℕ) → Ends p → Reads (j + length (walk_words c ht m p)) (walked_of c ht m j p)
unfolding walk_words
walk_count c ht m (done a) j h = subst (Reads (j + 0)) (sym (walked_done c ht m j a.0 a.1)) (omega arith)
walk_count c ht m (fail x) j h = subst (Reads (j + 0)) (sym (walked_fail c ht m j x h)) (omega arith)
walk_count c ht m (host g k) j h =
    subst (Reads (j + length (host_words c ht m g ++ walk_words c ht m (k (place_of (host_walk_of c ht m g)))))) (sym (walked_host c ht m j g k h.0))
    (go (host_walk_of c ht m g) (host_reads c ht m g) (λ r. walk_count c ht m (k (some r)) (j + c.levels) (h.1 r)))
  where
    none_read : length (walk_words c ht m (k none)) ≡ 0
    none_read = ap (λ y. length (walk_words c ht m y)) h.0

    go : (x : HostWalk) → LookReads (length (host_words c ht m g)) c.levels x
        → ((r : Place) → Reads (j + c.levels + length (walk_words c ht m (k (some r)))) (walked_of c ht m (j + c.levels) (k (some r))))
        → Reads (j + length (host_words c ht m g ++ walk_words c ht m (k (place_of x)))) (on_host c ht m j g k x)
    go (hosts.Found p w) q ih =
        let l = length-append (host_words c ht m g) (walk_words c ht m (k (some (p.0, w)))) in
        reads_same (j + c.levels + length (walk_words c ht m (k (some (p.0, w))))) (j + length (host_words c ht m g ++ walk_words c ht m (k (some (p.0, w)))))
        (walked_of c ht m (j + c.levels) (k (some (p.0, w)))) (omega (arith, l, q)) (ih (p.0, w))
    go (hosts.Absent n) q ih = let l = length-append (host_words c ht m g) (walk_words c ht m (k none)) in omega (arith, l, q, none_read)
    go hosts.Damaged q ih = tt
walk_count c ht m (word t i k) j h =
    subst (Reads (j + suc (length (walk_words c ht m (k (word_in m t i)))))) (sym (walked_word c ht m j t i k))
    (reads_same (j + 1 + length (walk_words c ht m (k (word_in m t i)))) (j + suc (length (walk_words c ht m (k (word_in m t i))))) (walked_of c ht m (j + 1) (k (word_in m t i))) (omega arith)
    (walk_count c ht m (k (word_in m t i)) (j + 1) (h (word_in m t i))))

-- ---- the words of a longer path begin with those of a shorter one

shorter_read : (P : Word → Type 0) (b s : ℕ) (m : List ℕ) (is js : List ℕ) (e : ℕ) → All P (entries_read b s m e (is ++ js)) → All P (entries_read b s m e is)
unfolding entries_read
shorter_read P b s m [] js e h = tt
shorter_read P b s m (i ∷ is) js e h = go (follow_of b s e) h (λ f. shorter_read P b s m is js (entry_at_of m f i))
  where
    go : (w : Way) → All P (on_way w [] [] (λ f. (f, i) ∷ entries_read b s m (entry_at_of m f i) (is ++ js)))
        → ((f : ℕ) → All P (entries_read b s m (entry_at_of m f i) (is ++ js)) → All P (entries_read b s m (entry_at_of m f i) is))
        → All P (on_way w [] [] (λ f. (f, i) ∷ entries_read b s m (entry_at_of m f i) is))
    go (To f) h ih = (h.0, ih f h.1)
    go Not h ih = tt
    go Damaged h ih = tt

-- where an entry is present at the end, something is on the way
abbrev Ended : Look → Type 0
Ended (Seen e k) = present e ≡ true
Ended look.Damaged = ⊥

abbrev Shown : Look → Type 0
Shown (Seen e k) = present e ≡ true
Shown look.Damaged = Unit {0}

none_shown : present 0 ≡ true → ⊥
none_shown q = let t : ◌≡◌ {A = Bool} false true = sym present_zero ∙ q in let z : ◌≡◌ {A = ℕ} 0 1 = cc in omega (arith, z)

shown_above : (b s : ℕ) (m : List ℕ) (is js : List ℕ) (e k : ℕ) → Ended (lookup_of b s m e (is ++ js) k) → Shown (lookup_of b s m e is k)
unfolding lookup_of follow_of
shown_above b s m [] [] e k h = h
shown_above b s m [] (j ∷ js) e k h = go (present e) h
  where
    go : (t : Bool) → Ended (on_way (cond t (cond (inside_of b s (frame_of e)) (To (frame_of e)) Damaged) Not) (Seen 0 k) look.Damaged (λ f. lookup_of b s m (entry_at_of m f j) js (k + 1))) → t ≡ true
    go true h = refl
    go false h = absurd (none_shown h)
shown_above b s m (i ∷ is) js e k h = go (follow_of b s e) h (λ f. shown_above b s m is js (entry_at_of m f i) (k + 1))
  where
    go : (w : Way) → Ended (on_way w (Seen 0 k) look.Damaged (λ f. lookup_of b s m (entry_at_of m f i) (is ++ js) (k + 1)))
        → ((f : ℕ) → Ended (lookup_of b s m (entry_at_of m f i) (is ++ js) (k + 1)) → Shown (lookup_of b s m (entry_at_of m f i) is (k + 1)))
        → Shown (on_way w (Seen 0 k) look.Damaged (λ f. lookup_of b s m (entry_at_of m f i) is (k + 1)))
    go (To f) h ih = ih f h
    go Not h ih = absurd (none_shown h)
    go Damaged h ih = tt

abbrev kind : HostWalk → ℕ
kind (hosts.Found t w) = 0
kind (hosts.Absent n) = 1
kind hosts.Damaged = 2

absent_found : (n : ℕ) (t : HostPhysical) (w : Bool) → hosts.Absent n ≡ hosts.Found t w → ⊥
absent_found n t w e = let z = ap kind e in omega (arith, z)

damaged_found : (t : HostPhysical) (w : Bool) → hosts.Damaged ≡ hosts.Found t w → ⊥
damaged_found t w e = let z = ap kind e in omega (arith, z)

damaged_absent : (n : ℕ) → hosts.Damaged ≡ hosts.Absent n → ⊥
damaged_absent n e = let z = ap kind e in omega (arith, z)

-- so what a longer path finds is not absent on the shorter one
ended : (c : Config) (l : Look) (t : HostPhysical) (w : Bool) → named_by c l ≡ hosts.Found t w → Ended l
unfolding leaf_of
ended c (Seen e k) t w q = go (present e) (in_guest_area c (frame_of e)) q
  where
    go : (p i : Bool) → cond p (cond i (hosts.Found (page (frame_of e)) (writable e)) hosts.Damaged) (hosts.Absent k) ≡ hosts.Found t w → p ≡ true
    go true i q = refl
    go false i q = absurd (absent_found k t w q)
ended c look.Damaged t w q = absurd (damaged_found t w q)

absent_above : (c : Config) (l : Look) (k : ℕ) → named_by c l ≡ hosts.Absent k → Shown l → ⊥
unfolding leaf_of
absent_above c (Seen e n) k q s = go (present e) (in_guest_area c (frame_of e)) s q
  where
    go : (p i : Bool) → p ≡ true → cond p (cond i (hosts.Found (page (frame_of e)) (writable e)) hosts.Damaged) (hosts.Absent n) ≡ hosts.Absent k → ⊥
    go true true s q = absent_found k (page (frame_of e)) (writable e) (sym q)
    go true false s q = damaged_absent k q
    go false i s q = let z : ◌≡◌ {A = ℕ} 0 1 = cc in omega (arith, z)
absent_above c look.Damaged k q s = damaged_absent k q

-- ---- a translation through a held path, or at depth N + 1

-- bits change neither what is held nor the references
judged_held : (h : Held) (judge : Bool) (k : Checked) (x : Walked) → (judged_by h judge k x).held ≡ h
judged_held h true (checked.Clear l) (walked.Arrived w t n) = refl
judged_held h true (checked.Stopped y e) (walked.Arrived w t n) = refl
judged_held h true checked.Damaged (walked.Arrived w t n) = refl
judged_held h false k (walked.Arrived w t n) = refl
judged_held h judge k (walked.Faulted y n) = refl
judged_held h judge k walked.Damaged = refl

judged_reads : (h : Held) (judge : Bool) (k : Checked) (x : Walked) (j : ℕ) → Reads j x → Reads j (judged_by h judge k x).walked
judged_reads h true (checked.Clear l) (walked.Arrived w t n) j q = q
judged_reads h true (checked.Stopped y e) (walked.Arrived w t n) j q = q
judged_reads h true checked.Damaged (walked.Arrived w t n) j q = tt
judged_reads h false k (walked.Arrived w t n) j q = q
judged_reads h judge k (walked.Faulted y n) j q = q
judged_reads h judge k walked.Damaged j q = tt

module _ (r : Record) (st : Bool) (a d : ℕ) where
  abbrev pub c : Config
  c = config_of r

  abbrev pub ht : ℕ
  ht = host_top r

  -- on memory m the request has depth d
  abbrev At : List ℕ → Type 0
  At m = request_depth r m a ≡ d

  abbrev hold : Held
  hold = held_of r

  abbrev rt : ℕ
  rt = root_of r

  abbrev pub found_in : List ℕ → HostWalk
  found_in m = found_of c m (held_of r) a d

  -- the direct part of memory m from there, the whole plain walk, and the words of both
  abbrev from : List ℕ → ℕ → Bool → Walked
  from m t w = direct_of c ht m st a d t w

  abbrev wholly : List ℕ → Walked
  wholly m = walked_of c ht m 0 (whole c st rt a)

  abbrev directly : List ℕ → ℕ → Bool → List Word
  directly m t w = walk_words c ht m (direct c st a d t w)

  abbrev plainly : List ℕ → List Word
  plainly m = walk_words c ht m (whole c st rt a)

  -- served by its held path, or at depth N + 1
  pub data Reaches (m : List ℕ) : Type 0 where
    held : (t : HostPhysical) (w : Bool) → d ≤ c.levels → found_in m ≡ hosts.Found t w → serves_of st d w ≡ true → Reaches m
    plain : c.levels < d → Reaches m

  -- at depth d
  translated_is : (m : List ℕ) → At m → translated_of r m st a ≡ translate_of c ht m hold rt st a d
  unfolding translated_of
  translated_is m e = ap (translate_of c ht m hold rt st a) e

  found_local : (m n : List ℕ) → SameWords m n (path_words r m a d) → found_in n ≡ found_in m
  unfolding found_of shadowed path_words
  found_local m n h = go (ltb d c.levels) h
    where
      go : (b : Bool)
          → SameWords m n (cond b (entries_read c.hosts c.shadows m r.pools.shadow.top (path_indexes c d a)) [])
          → cond b (named_by c (lookup_of c.hosts c.shadows n r.pools.shadow.top (path_indexes c d a) 0)) (cond (eqb r.guest.held.0 0) (hosts.Absent 0) (hosts.Found r.guest.held true))
          ≡ cond b (named_by c (lookup_of c.hosts c.shadows m r.pools.shadow.top (path_indexes c d a) 0)) (cond (eqb r.guest.held.0 0) (hosts.Absent 0) (hosts.Found r.guest.held true))
      go true q = ap (named_by c) (look_local c.hosts c.shadows m n (path_indexes c d a) r.pools.shadow.top 0
          (same_entries m n (entries_read c.hosts c.shadows m r.pools.shadow.top (path_indexes c d a)) q))
      go false q = refl

  held_is : (m : List ℕ) → At m → (t : HostPhysical) (w : Bool) → d ≤ c.levels → found_in m ≡ hosts.Found t w → serves_of st d w ≡ true
      → translated_of r m st a ≡ yields (through_of c ht m hold rt st a d t.0 w) m
  unfolding translate_of
  held_is m e t w l f s =
      translated_is m e
      ∙ ap (λ b. cond b (yields (unshadowed_of c ht m hold rt st a d) m) (found_by c ht m hold rt st a d (found_in m))) (le-ltb c.levels d l)
      ∙ ap (found_by c ht m hold rt st a d) f
      ∙ ap (λ b. cond b (yields (through_of c ht m hold rt st a d t.0 w) m) (missed_of c ht m hold rt st a d)) s

  plain_is : (m : List ℕ) → At m → c.levels < d → translated_of r m st a ≡ yields (unshadowed_of c ht m hold rt st a d) m
  unfolding translate_of
  plain_is m e l =
      translated_is m e
      ∙ ap (λ b. cond b (yields (unshadowed_of c ht m hold rt st a d) m) (found_by c ht m hold rt st a d (found_in m)))
      (lt-ltb c.levels d l)

  -- the words that it counts
  abbrev counted_at : List ℕ → ℕ → List Word
  counted_at m k = cond (leb k c.levels) (path_words r m a k ++ direct_words c ht m st a k (found_of c m hold a k)) (plainly m)

  held_counted : (m : List ℕ) → At m → (t : HostPhysical) (w : Bool) → d ≤ c.levels → found_in m ≡ hosts.Found t w
      → counted_of r m st a ≡ path_words r m a d ++ directly m t.0 w
  unfolding counted_of
  held_counted m e t w l f =
      ap (counted_at m) e
      ∙ ap (λ b. cond b (path_words r m a d ++ direct_words c ht m st a d (found_in m)) (plainly m)) (is_true (leb d c.levels) (le→leb d c.levels l))
      ∙ ap (λ x. path_words r m a d ++ direct_words c ht m st a d x) f

  plain_counted : (m : List ℕ) → At m → c.levels < d → counted_of r m st a ≡ plainly m
  unfolding counted_of
  plain_counted m e l =
      ap (counted_at m) e
      ∙ ap (λ b. cond b (path_words r m a d ++ direct_words c ht m st a d (found_in m)) (plainly m))
      (is_false (leb d c.levels) (λ z. let k = leb→le d c.levels z in omega arith))

  -- the shadow entries on the path are N − d words where it is held
  path_reads : (m : List ℕ) (t : HostPhysical) (w : Bool) → d ≤ c.levels → found_in m ≡ hosts.Found t w → length (path_words r m a d) ≡ c.levels - d
  unfolding path_words found_of shadowed
  path_reads m t w l f = go (ltb d c.levels) refl f
    where
      is : List ℕ
      is = path_indexes c d a

      at : ℕ
      at = r.pools.shadow.top

      go : (b : Bool) → ltb d c.levels ≡ b
          → cond b (named_by c (lookup_of c.hosts c.shadows m at is 0)) (cond (eqb r.guest.held.0 0) (hosts.Absent 0) (hosts.Found r.guest.held true)) ≡ hosts.Found t w
          → length (cond b (entries_read c.hosts c.shadows m at is) []) ≡ c.levels - d
      go true q e = subst (LookReads (length (entries_read c.hosts c.shadows m at is)) (length is)) e (look_reads c c.hosts c.shadows m at is) ∙ indexes_length (c.levels - d) _
      go false q e = let k = ltb-false d c.levels q in omega arith

  -- ---- what it comes to on a memory, which it leaves as it is, with what was held

  abbrev pub left : ℕ → Walked → Bool → List ℕ → After Translated
  left e x sets m = yields (translation hold e x sets) m

  left_is : (x : Translated) (m : List ℕ) → x.held ≡ hold → yields x m ≡ left x.exits x.walked x.sets m
  left_is x m e = ap (λ h. yields (translation h x.exits x.walked x.sets) m) e

  pub record Comes (m : List ℕ) : Type 0 where
    pub exits : ℕ
    pub walked : Walked
    pub sets : Bool
    pub done : translated_of r m st a ≡ left exits walked sets m
    pub count : Reads (length (counted_of r m st a)) walked

  through_comes : (m : List ℕ) (t : ℕ) (w : Bool) (k : ℕ) → Reads k (from m t w)
      → let x : Translated = through_of c ht m hold rt st a d t w in (x.held ≡ hold) × Reads k x.walked
  unfolding through_of served_of
  through_comes m t w k q = go c.bits
    where
      lack : Bool
      lack = lacks (memory_world c ht m) st (trace (memory_world c ht m) (direct c st a d t w)).reads

      go : (b : Bool) → let x : Translated = cond b (judged_by hold lack (checked_of c ht m rt st a d) (from m t w)) (translation hold (0 + exit_by (from m t w)) (from m t w) false) in
          (x.held ≡ hold) × Reads k x.walked
      go true = (judged_held hold lack (checked_of c ht m rt st a d) (from m t w), judged_reads hold lack (checked_of c ht m rt st a d) (from m t w) k q)
      go false = (refl, q)

  unshadowed_comes : (m : List ℕ) (k : ℕ) → Reads k (wholly m)
      → let x : Translated = unshadowed_of c ht m hold rt st a d in (x.held ≡ hold) × Reads k x.walked
  unfolding unshadowed_of plain_of
  unshadowed_comes m k q = go c.bits
    where
      go : (b : Bool) → let x : Translated = cond b (judged_by hold true (checked_of c ht m rt st a d) (wholly m)) (translation hold (exit_by (wholly m)) (wholly m) false) in
          (x.held ≡ hold) × Reads k x.walked
      go true = (judged_held hold true (checked_of c ht m rt st a d) (wholly m), judged_reads hold true (checked_of c ht m rt st a d) (wholly m) k q)
      go false = (refl, q)

  wholly_reads : (m : List ℕ) → Reads (length (plainly m)) (wholly m)
  wholly_reads m =
      let z : 0 + length (plainly m) ≡ length (plainly m) = omega arith in
      reads_same _ _ (wholly m) z (walk_count c ht m (whole c st rt a) 0 (walk_ends c st rt (indexes c.levels (page_of a))))

  unshadowed_held : (m : List ℕ) → (unshadowed_of c ht m hold rt st a d).held ≡ hold
  unshadowed_held m = (unshadowed_comes m (length (plainly m)) (wholly_reads m)).0

  pub comes : (m : List ℕ) → At m → Reaches m → Comes m
  unfolding direct_of
  comes m at (held t w l f s) =
      let e = held_counted m at t w l f in
      let long = ap length e ∙ length-append (path_words r m a d) (directly m t.0 w) ∙ ap (λ x. x + length (directly m t.0 w)) (path_reads m t w l f) in
      let x : Translated = through_of c ht m hold rt st a d t.0 w in
      let q = through_comes m t.0 w (length (counted_of r m st a))
      (reads_same _ _ (from m t.0 w) (sym long) (walk_count c ht m (direct c st a d t.0 w) (c.levels - d) (levels_ends c st _ t.0 w (indexes d (page_of a))))) in
      record { exits = x.exits; walked = x.walked; sets = x.sets; done = held_is m at t w l f s ∙ left_is x m q.0; count = q.1 }
  comes m at (plain l) =
      let x : Translated = unshadowed_of c ht m hold rt st a d in
      record {
        exits = x.exits;
        walked = x.walked;
        sets = x.sets;
        done = plain_is m at l ∙ left_is x m (unshadowed_held m);
        count = (unshadowed_comes m (length (counted_of r m st a)) (reads_same _ _ (wholly m) (sym (ap length (plain_counted m at l))) (wholly_reads m))).1;
      }

  -- ---- memory n has the words that it counts on m

  -- no entry of a granted direct part lacks a bit: its end is said as it is, and no bit is set
  abbrev Clear : List ℕ → ℕ → Bool → Type 0
  Clear m t w = c.bits ≡ true → LacksNone c ht m st a d (hosts.Found (page t) w)

  through_none : (m : List ℕ) (t : ℕ) (w : Bool) → Clear m t w → through_of c ht m hold rt st a d t w ≡ translation hold (exit_by (from m t w)) (from m t w) false
  unfolding direct_of served_of
  through_none m t w clear = go c.bits refl
    where
      by : c.bits ≡ true → (x : Walked) → from m t w ≡ x → through_of c ht m hold rt st a d t w ≡ translation hold (exit_by x) x false
      by on (walked.Arrived v p n) q =
          through_on c ht m hold rt st a d t w false (walked.Arrived v p n) on
          (clear on (p.0, v) (arrived_granted c ht m (c.levels - d) (direct c st a d t w) p.0 v n q)) q
      by on (walked.Faulted x n) q = through_end c ht m hold rt st a d t w (walked.Faulted x n) on q
      by on walked.Damaged q = through_end c ht m hold rt st a d t w walked.Damaged on q

      go : (b : Bool) → c.bits ≡ b → through_of c ht m hold rt st a d t w ≡ translation hold (exit_by (from m t w)) (from m t w) false
      go true on = by on (from m t w) refl
      go false off = through_off c ht m hold rt st a d t w off ∙ ap (λ e. translation hold e (from m t w) false) (zero-add (exit_by (from m t w)))

  none_local : (m n : List ℕ) (t : ℕ) (w : Bool) → SameWords m n (directly m t w) → Clear m t w → Clear n t w
  none_local m n t w s clear on q e =
      lacks_local c ht m n (direct c st a d t w) s st
      ∙ clear on q (sym (ap (λ (x : Trace Fault Place). x.result) (trace_local c ht m n (direct c st a d t w) s)) ∙ e)

  through_local : (m n : List ℕ) (t : ℕ) (w : Bool) → SameWords m n (directly m t w) → Clear m t w → through_of c ht n hold rt st a d t w ≡ through_of c ht m hold rt st a d t w
  unfolding direct_of
  through_local m n t w s clear =
      through_none n t w (none_local m n t w s clear)
      ∙ ap (λ x. translation hold (exit_by x) x false) (walk_local c ht m n (direct c st a d t w) (c.levels - d) (levels_ends c st _ t w (indexes d (page_of a))) s)
      ∙ sym (through_none m t w clear)

  -- at depth N + 1 the bits are those of the same entries
  unshadowed_local : (m n : List ℕ) → SameWords m n (plainly m) → unshadowed_of c ht n hold rt st a d ≡ unshadowed_of c ht m hold rt st a d
  unfolding unshadowed_of plain_of checked_of
  unshadowed_local m n s =
      let p = whole c st rt a in
      let x : wholly n ≡ wholly m = walk_local c ht m n p 0 (walk_ends c st rt (indexes c.levels (page_of a))) s in
      let v = memory_world c ht n in
      ap (λ y. cond c.bits (judged_by hold true (checked_by d (lacks v st (trace v p).reads) (owed v st c.levels (trace v p).reads (trace v p).uses) y) y) (translation hold (exit_by y) y false)) x
      ∙ ap₂ (λ l o. cond c.bits (judged_by hold true (checked_by d l o (wholly m)) (wholly m)) (translation hold (exit_by (wholly m)) (wholly m) false))
      (lacks_local c ht m n p s st) (owed_local c ht m n p s st c.levels)

  pub record Alike (m n : List ℕ) : Type 0 where
    pub exits : ℕ
    pub walked : Walked
    pub sets : Bool
    pub before : translated_of r m st a ≡ left exits walked sets m
    pub altered : translated_of r n st a ≡ left exits walked sets n
    pub own : (xs : List Word) × SameWords m n xs × (settled_of c ht rt st a sets m ≡ bits_in st m xs) × (settled_of c ht rt st a sets n ≡ bits_in st n xs)

  -- ---- and there it has the same depth

  abbrev marked : ℕ
  marked = depth_at r a

  abbrev upward : List ℕ
  upward = path_indexes c marked a

  abbrev top : ℕ
  top = r.pools.shadow.top

  whole_path : marked ≤ c.levels → path_indexes c 0 a ≡ upward ++ indexes marked (page_of a)
  whole_path l =
      let k : c.levels - 0 ≡ c.levels - marked + marked = omega (arith, l) in
      ap₂ indexes k (div-one (page_of a)) ∙ indexes_split (c.levels - marked) marked (page_of a)

  in_shadow : (m : List ℕ) (k : ℕ) → k < c.levels → found_of c m hold a k ≡ named_by c (lookup_of c.hosts c.shadows m top (path_indexes c k a) 0)
  unfolding found_of shadowed
  in_shadow m k l = ap (λ b. cond b (named_by c (lookup_of c.hosts c.shadows m top (path_indexes c k a) 0)) (cond (eqb r.guest.held.0 0) (hosts.Absent 0) (hosts.Found r.guest.held true))) (lt-ltb k c.levels l)

  shadow_words_lem : (m : List ℕ) (k : ℕ) → k < c.levels → path_words r m a k ≡ entries_read c.hosts c.shadows m top (path_indexes c k a)
  unfolding path_words
  shadow_words_lem m k l = ap (λ b. cond b (entries_read c.hosts c.shadows m top (path_indexes c k a)) []) (lt-ltb k c.levels l)

  abbrev turned : List ℕ → HostWalk → ℕ
  turned m = depth_by c ht m rt a marked

  module _ (m n : List ℕ) (t : HostPhysical) (w : Bool) (f : found_in m ≡ hosts.Found t w) (s : SameWords m n (path_words r m a d)) (up : marked < c.levels) where
    -- what the shorter path of a large page meets is met again
    upward_local : d ≡ 0 → found_of c n hold a marked ≡ found_of c m hold a marked
    upward_local e =
        let words = subst (λ is. SameWords m n (entries_read c.hosts c.shadows m top is)) (whole_path (omega (arith, up)))
        (subst (SameWords m n) (shadow_words_lem m 0 (omega (arith, up))) (subst (λ k. SameWords m n (path_words r m a k)) e s)) in
        in_shadow n marked up
        ∙ ap (named_by c) (look_local c.hosts c.shadows m n upward top 0 (same_entries m n (entries_read c.hosts c.shadows m top upward)
        (shorter_read _ c.hosts c.shadows m upward (indexes marked (page_of a)) top words)))
        ∙ sym (in_shadow m marked up)

    -- and something is met
    absent_none : (k : ℕ) → d ≡ 0 → found_of c m hold a marked ≡ hosts.Absent k → ⊥
    absent_none k e q =
        absent_above c (lookup_of c.hosts c.shadows m top upward 0) k (sym (in_shadow m marked up) ∙ q)
        (shown_above c.hosts c.shadows m upward (indexes marked (page_of a)) top 0
        (subst (λ is. Ended (lookup_of c.hosts c.shadows m top is 0)) (whole_path (omega (arith, up)))
        (ended c (lookup_of c.hosts c.shadows m top (path_indexes c 0 a) 0) t w (sym (in_shadow m 0 (omega (arith, up))) ∙ ap (found_of c m hold a) (sym e) ∙ f))))

    -- a walk in place of a held path says the marks' depth, or 0
    soon : (x : Walked) → (soon_by c marked x ≡ marked) ⊎ (soon_by c marked x ≡ 0)
    soon (walked.Arrived v p k) = go (is_span c p.0)
      where
        go : (b : Bool) → (cond b 0 marked ≡ marked) ⊎ (cond b 0 marked ≡ 0)
        go true = inr refl
        go false = inl refl
    soon (walked.Faulted y k) = inl refl
    soon walked.Damaged = inl refl

    turned_local : (x : HostWalk) → found_of c m hold a marked ≡ x → turned m x ≡ d → turned n (found_of c n hold a marked) ≡ d
    unfolding walked_depth
    turned_local (hosts.Found p v) q e = ap (turned n) (subst (λ k. found_of c n hold a k ≡ found_of c m hold a k) (sym e) (found_local m n s) ∙ q) ∙ e
    turned_local (hosts.Absent k) q e = elim (soon (walked_of c ht m 0 (walk c false rt upward))) [
      | inl z ↦ absurd (absent_found k t w (sym q ∙ ap (found_of c m hold a) (sym z ∙ e) ∙ f))
      | inr z ↦ absurd (absent_none k (sym e ∙ z) q)
    ]
    turned_local hosts.Damaged q e = ap (turned n) (upward_local (sym e) ∙ q) ∙ e

  depth_local : (m n : List ℕ) → 3 ≤ c.levels → At m → (t : HostPhysical) (w : Bool) → found_in m ≡ hosts.Found t w → SameWords m n (path_words r m a d) → At n
  unfolding depth_of may_turn
  depth_local m n three at t w f s = go (eqb marked 0) (ltb marked 3) refl at
    where
      go : (z l : Bool) → ltb marked 3 ≡ l → cond (cond z false l) (turned m (found_of c m hold a marked)) marked ≡ d → cond (cond z false l) (turned n (found_of c n hold a marked)) marked ≡ d
      go true l q e = e
      go false false q e = e
      go false true q e = turned_local m n t w f s (omega (arith, ltb-true marked 3 q, three)) (found_of c m hold a marked) refl e

  -- at depth N + 1 the marks say it
  marks_local : (m n : List ℕ) → 3 ≤ c.levels → c.levels < d → At m → At n
  unfolding depth_of may_turn walked_depth
  marks_local m n three l at = go (eqb marked 0) (ltb marked 3) refl at
    where
      low : (x : Walked) → soon_by c marked x ≤ marked
      low (walked.Arrived v p k) = by (is_span c p.0)
        where
          by : (b : Bool) → cond b 0 marked ≤ marked
          by true = omega arith
          by false = omega arith
      low (walked.Faulted y k) = omega arith
      low walked.Damaged = omega arith

      most : (x : HostWalk) → turned m x ≤ marked
      most (hosts.Found p v) = omega arith
      most (hosts.Absent k) = low (walked_of c ht m 0 (walk c false rt upward))
      most hosts.Damaged = omega arith

      go : (z b : Bool) → ltb marked 3 ≡ b → cond (cond z false b) (turned m (found_of c m hold a marked)) marked ≡ d → cond (cond z false b) (turned n (found_of c n hold a marked)) marked ≡ d
      go true b q e = e
      go false false q e = e
      go false true q e = absurd (omega (arith, most (found_of c m hold a marked), e, ltb-true marked 3 q, three, l))

  pub alike : (m n : List ℕ) → 3 ≤ c.levels → At m → Reaches m → SetsNone r m st a → SameWords m n (counted_of r m st a) → Alike m n
  unfolding SetsNone settled_of
  alike m n three at (held t w l f s) b h =
      let k : SameWords m n (path_words r m a d ++ directly m t.0 w) = subst (SameWords m n) (held_counted m at t w l f) h in
      let p = all_left _ (path_words r m a d) (directly m t.0 w) k in
      let q = all_right _ (path_words r m a d) (directly m t.0 w) k in
      let clear : Clear m t.0 w = λ on. subst (LacksNone c ht m st a d) f (subst (λ k. k ≤ c.levels → LacksNone c ht m st a k (found_of c m hold a k)) at (b on) l) in
      let there = depth_local m n three at t w f p in
      record {
        exits = exit_by (from m t.0 w);
        walked = from m t.0 w;
        sets = false;
        before = held_is m at t w l f s ∙ ap (λ x. yields x m) (through_none m t.0 w clear);
        altered = held_is n there t w l (found_local m n p ∙ f) s ∙ ap (λ x. yields x n) (through_local m n t.0 w q clear ∙ through_none m t.0 w clear);
        own = ([], tt, refl, refl);
      }
  alike m n three at (plain l) b h =
      let k : SameWords m n (plainly m) = subst (SameWords m n) (plain_counted m at l) h in
      let x : Translated = unshadowed_of c ht m hold rt st a d in
      record {
        exits = x.exits;
        walked = x.walked;
        sets = x.sets;
        before = plain_is m at l ∙ left_is x m (unshadowed_held m);
        altered = plain_is n (marks_local m n three l at) l ∙ ap (λ y. yields y n) (unshadowed_local m n k) ∙ left_is x n (unshadowed_held m);
        own = own_entries c ht rt st a m n k x.sets;
      }
