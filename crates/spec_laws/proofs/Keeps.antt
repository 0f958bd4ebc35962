-- A held path that a call does not drop stays valid: its shadow part still comes to what the book has of it.
-- Assumes nothing.
use mathlib.Core.Path.{◌≡◌, refl, sym, ap, ◌∙◌, subst}
use mathlib.Core.Logic.{◌≢◌, ◌⊎◌, inl, inr}
use Prim.Native.Nat.{ℕ, ◌+◌, ◌*◌, ◌-◌, ◌%◌, ◌^◌, ◌<◌, ◌≤◌}
use native.Mathlib.Omega.{arith}
use mathlib.Core.Bool.{Bool, true, false, not, ◌&&◌, ◌||◌, cond, and-true, and-false, false≢true}
use mathlib.Core.List.{List, [], ◌∷◌}
use mathlib.Core.Option.{some}
use borrow.Author.Tests.{eqb-true, lt-leb, leb-true, leb-false, not-false}
use lib.Dec.{T, eqb, eqb→eq, eqb_refl, leb}
use lib.ListN.{length}
use lib.Seq.{get_or-set_other, length-take-le, take_all}
use lib.Arith.{digits_mod}
use Rattle.spec.specs.declared.Fault.{Fault}
use Rattle.spec.specs.Config.{Config, guest_base, frame_bits}
use Rattle.spec.specs.Entry.{page_of}
use Rattle.spec.specs.Walk.{Trace, Result, granted, failed, trace}
use Rattle.spec.specs.Plain.{Place, is_span, walk, upper, shadow_part}
use Rattle.spec.specs.Machine.{Machine, Mapping, host_cost, world, place, word_in, stored, remapped, lookup, with, without}
use Rattle.spec.specs.Bits.{dirty_at}
use Rattle.spec.specs.Book.{Held, reads_word, reads_frame, drop_word, watched, uses_mapping}
use Rattle.spec.specs.Call.{address_indexes, plain}
use Rattle.spec.specs.Count.{depth_by, depth_in, held_by, right_of}
use Rattle.spec.specs.Prefix.{All, any}
use Rattle.spec_laws.proofs.Lists.{all_map, all_take, all_any, all_both, keep_all, none_passes, is_true, both, not_both, and_first, and_second, or_first, not_eqb}
use Rattle.spec_laws.proofs.Indexes.{indexes_length, indexes_all}
use Rattle.spec_laws.proofs.Local.{Seen, seen, local_seen, SameMapping, SameWord}
use Rattle.spec_laws.proofs.EntryBits.{AlikeWord}
use Rattle.spec_laws.proofs.Ignored.{AlikeWorld, walk_alike}
use Rattle.spec_laws.proofs.Granted.{no_grant, granted_is, walk_same}
use Rattle.spec_laws.proofs.Asks.{Asked, asks_trace, AnswerIn, FaultFits, Placed, placed_page, walk_asks}
use Rattle.spec_laws.proofs.Parts.{lower, lower_is}
use Rattle.spec_laws.proofs.Large.{walk_loads, walk_high}

-- what the shadow part of a path comes to on the machine, as a load walks it; and what the book has of a held path
unfoldable pub again : Config → Machine → List ℕ → Seen Fault Place
again c m p = seen (world c m) (walk c false m.root p)

abbrev pub booked : ℕ → Bool → Held → Seen Fault Place
booked f w h = record { result = granted (f, w); reads = h.reads; uses = h.uses }

abbrev pub as_seen : Result Fault Place → Trace Fault Place → Seen Fault Place
as_seen x r = record { result = x; reads = r.reads; uses = r.uses }

-- a granted walk, a store's too, is one that a load makes
pub sees : (c : Config) (m : Machine) (st : Bool) (p : List ℕ) (r : Place) → (trace (world c m) (walk c st m.root p)).result ≡ granted r
    → again c m p ≡ as_seen (granted r) (trace (world c m) (walk c st m.root p))
unfolding again seen
sees c m false p r e = ap (λ x. as_seen x (trace (world c m) (walk c false m.root p))) e
sees c m true p r e =
    ap (λ x. as_seen x.result x) (walk_same (world c m) c m.root p r e) ∙ ap (λ x. as_seen x (trace (world c m) (walk c true m.root p))) e

-- a held path stands for its shadow part on the machine
pub record Valid (c : Config) (m : Machine) (h : Held) : Type 0 where
  pub small : All (λ i. i < 512) h.path
  pub frame : ℕ
  pub wide : Bool  -- the write right that its shadow part comes to
  pub real : is_span c frame ≡ false  -- it comes to a table or to the page
  pub comes : again c m h.path ≡ booked frame wide h
  pub right : (h.right ≡ wide) ⊎ ((h.right ≡ false) × (length h.path ≡ c.levels) × (c.bits ≡ true))  -- with bits on one of depth 0 may forbid more

-- where the walk of its path, a store's too, comes to
pub held_place : (c : Config) (m : Machine) (h : Held) (v : Valid c m h) (st : Bool) (r : Place) → (trace (world c m) (walk c st m.root h.path)).result ≡ granted r
    → r ≡ (v.frame, v.wide)
held_place c m h v st r e =
    granted_is r (v.frame, v.wide) (sym (ap (λ (x : Seen Fault Place). x.result) (sees c m st h.path r e)) ∙ ap (λ (x : Seen Fault Place). x.result) v.comes)

-- it lets no store pass that the walk does not, and lets those pass that the walk does: with bits off, and below depth 0
pub right_wide : (c : Config) (m : Machine) (h : Held) (v : Valid c m h) → h.right ≡ true → v.wide ≡ true
right_wide c m h v e = elim v.right [ inl k ↦ sym k ∙ e | inr k ↦ absurd (false≢true (sym k.0 ∙ e)) ]

pub right_off : (c : Config) (m : Machine) (h : Held) (v : Valid c m h) → c.bits ≡ false → h.right ≡ v.wide
right_off c m h v off = elim v.right [ inl k ↦ k | inr k ↦ absurd (false≢true (sym off ∙ k.2)) ]

pub right_deep : (c : Config) (m : Machine) (h : Held) (v : Valid c m h) → length h.path ≢ c.levels → h.right ≡ v.wide
right_deep c m h v deep = elim v.right [ inl k ↦ k | inr k ↦ absurd (deep k.1) ]

-- and it stays valid on each machine on which its shadow part comes to the same
pub valid_again : (c : Config) (m n : Machine) (h : Held) → Valid c m h → again c n h.path ≡ again c m h.path → Valid c n h
valid_again c m n h v e = record { small = v.small; frame = v.frame; wide = v.wide; real = v.real; right = v.right; comes = e ∙ v.comes }

-- ---- the words that a shadow part reads are in the guest area

abbrev pub InGuestArea : Config → ℕ → Type 0
InGuestArea c f = (guest_base c ≤ f) × (f < c.frames)

-- every mapping leads into the guest area
abbrev pub MappedIn : Config → Machine → Type 0
MappedIn c m = (g : ℕ) → AnswerIn (InGuestArea c) (lookup g m.mappings)

pub area_real : (c : Config) (t : ℕ) → InGuestArea c t → is_span c t ≡ false
unfolding is_span
area_real c t h = lt-leb c.frames t h.1

-- what a place is at that level: a frame of the guest area, or a span
abbrev pub PlaceIn : Config → ℕ → ℕ → Type 0
PlaceIn c n t = Placed c (InGuestArea c) (area_real c) n t

pub shadow_asked : (c : Config) (m : Machine) (st : Bool) (p : List ℕ) → MappedIn c m → m.root < 2 ^ frame_bits c → All (λ i. i < 512) p
    → Asked (AnswerIn (InGuestArea c)) (λ g. g < 2 ^ frame_bits c) (λ t i. InGuestArea c t × (i < 512)) (FaultFits c) (λ r. PlaceIn c (lower c.levels p) r.0) (trace (world c m) (walk c st m.root p))
unfolding world
shadow_asked c m st p mi b s =
    asks_trace (AnswerIn (InGuestArea c)) (λ g. g < 2 ^ frame_bits c) (λ t i. InGuestArea c t × (i < 512)) (FaultFits c) (world c m) (walk c st m.root p)
    (λ r. PlaceIn c (lower c.levels p) r.0) mi
    (walk_asks c (InGuestArea c) (area_real c) st m.root p b s)

-- a walk of all indexes comes to the page
pub page_in : (c : Config) (t : ℕ) (is : List ℕ) → length is ≡ c.levels → PlaceIn c (lower c.levels is) t → InGuestArea c t
page_in c t is l p =
    placed_page c (InGuestArea c) (area_real c) t (subst (λ n. PlaceIn c n t) (lower_is c.levels is ∙ omega (arith, l)) p)

-- and a granted walk comes to a page there
pub plain_in : (c : Config) (m : Machine) (st : Bool) (a : ℕ) (r : Place) → MappedIn c m → m.root < 2 ^ frame_bits c → (plain c m st a).result ≡ granted r → InGuestArea c r.0
unfolding plain
plain_in c m st a r mi b h =
    page_in c r.0 (address_indexes c a) (indexes_length c.levels (page_of a))
    ((shadow_asked c m st (address_indexes c a) mi b (indexes_all c.levels (page_of a))).grants r h)

-- a held path comes to a frame there
pub held_in_lem : (c : Config) (m : Machine) (h : Held) → MappedIn c m → m.root < 2 ^ frame_bits c → (v : Valid c m h) → InGuestArea c v.frame
unfolding again seen
held_in_lem c m h mi b v =
    ((shadow_asked c m false h.path mi b v.small).grants (v.frame, v.wide) (ap (λ (s : Seen Fault Place). s.result) v.comes)).frame v.real

-- ---- the depth of a request

-- its shadow part comes to no span
pub depth_real : (c : Config) (m : Machine) (a e : ℕ) → MappedIn c m → m.root < 2 ^ frame_bits c → (st : Bool) (r : Place)
    → (trace (world c m) (shadow_part c st (depth_in c m a e) m.root (address_indexes c a))).result ≡ granted r → is_span c r.0 ≡ false
unfolding depth_in plain
depth_real c m a e mi b st r = go (part false e).result refl
  where
    is : List ℕ
    is = address_indexes c a

    part : Bool → ℕ → Trace Fault Place
    part x d = trace (world c m) (shadow_part c x d m.root is)

    loads : (d : ℕ) → (part st d).result ≡ granted r → (part false d).result ≡ granted r
    loads d h = ap (λ (x : Trace Fault Place). x.result) (walk_loads (world c m) c st m.root (upper c d is) r h) ∙ h

    whole : (part st 0).result ≡ granted r → (plain c m st a).result ≡ granted r
    whole h = ap (λ x. (trace (world c m) (walk c st m.root x)).result) (sym (take_all (c.levels - 0) is (omega (arith, indexes_length c.levels (page_of a))))) ∙ h

    by : (q : Place) → (part false e).result ≡ granted q → (x : Bool) → is_span c q.0 ≡ x → (part st (cond x 0 e)).result ≡ granted r → is_span c r.0 ≡ false
    by q k true s h = area_real c r.0 (plain_in c m st a r mi b (whole h))
    by q k false s h = ap (λ (x : Place). is_span c x.0) (granted_is r q (sym (loads e h) ∙ k)) ∙ s

    go : (x : Result Fault Place) → (part false e).result ≡ x → (part st (depth_by c e x)).result ≡ granted r → is_span c r.0 ≡ false
    go (failed x) k h = absurd (no_grant (sym k ∙ loads e h))
    go (granted q) k h = by q k (is_span c q.0) refl h

-- marks of a level above 2 are never below a large page
pub depth_deep : (c : Config) (m : Machine) (a d : ℕ) → MappedIn c m → (d ≡ 0) ⊎ (3 ≤ d) → depth_in c m a d ≡ d
unfolding depth_in world
depth_deep c m a d mi b = go (trace (world c m) (shadow_part c false d m.root is)).result refl b
  where
    is : List ℕ
    is = address_indexes c a

    long : length (upper c d is) ≡ c.levels - d
    long = length-take-le (c.levels - d) is (omega (arith, indexes_length c.levels (page_of a)))

    real : (g : ℕ) (r : Place) → (world c m).host_at g ≡ some r → is_span c r.0 ≡ false
    real g r e = area_real c r.0 (subst (AnswerIn (InGuestArea c)) e (mi g))

    go : (x : Result Fault Place) → (trace (world c m) (shadow_part c false d m.root is)).result ≡ x → (d ≡ 0) ⊎ (3 ≤ d) → depth_by c d x ≡ d
    go (failed x) e k = refl
    go (granted r) e (inl z) = by (is_span c r.0)
      where
        by : (b : Bool) → cond b 0 d ≡ d
        by true = sym z
        by false = refl
    go (granted r) e (inr l) = ap (λ b. cond b 0 d) (walk_high (world c m) c real m.root (upper c d is) r (few (leb c.levels d) refl) e)
      where
        few : (b : Bool) → leb c.levels d ≡ b → (3 + length (upper c d is) ≤ c.levels) ⊎ (length (upper c d is) ≡ 0)
        few true k = inr (omega (arith, long, leb-true c.levels d k))
        few false k = inl (omega (arith, long, l, leb-false c.levels d k))

-- ---- a store

-- the tests that fail on two numbers: one of them differs
pub differ : (t i u j : ℕ) → T (not (eqb t u && eqb i j)) → t ≡ u → i ≡ j → ⊥
differ t i u j h p q =
    not_both (eqb t u && eqb i j) (both (eqb t u) (eqb i j) (subst (λ x. T (eqb t x)) p (eqb_refl t)) (subst (λ x. T (eqb i x)) q (eqb_refl i))) h

-- two words of the guest area have two places
pub places : (b t i u j : ℕ) → b ≤ t → b ≤ u → i < 512 → j < 512 → (t ≡ u → i ≡ j → ⊥) → (u - b) * 512 + j ≢ (t - b) * 512 + i
places b t i u j bt bu hi hj h e =
    let r : j ≡ i = sym (digits_mod (u - b) hj) ∙ ap (λ x. x % 512) e ∙ digits_mod (t - b) hi in
    h (omega arith) (sym r)

-- a store leaves every word of a shadow part that did not read the word stored to
pub store_words : (c : Config) (m : Machine) (t i v : ℕ) (h : Held) → MappedIn c m → m.root < 2 ^ frame_bits c → guest_base c ≤ t → i < 512
    → Valid c m h → T (not (reads_word t i h)) → All (SameWord (world c m) (world c (stored c m t i v))) h.reads
unfolding again world seen
store_words c m t i v h mi rb bt bi va nr =
    all_map (λ x. In x × Off x) (SameWord (world c m) (world c (stored c m t i v))) h.reads
    (λ x k. get_or-set_other m.area (place c t i) (place c x.0 x.1) v 0
    (places (guest_base c) t i x.0 x.1 bt k.0.0.0 bi k.0.1 (differ t i x.0 x.1 k.1)))
    (all_both In Off h.reads
    (subst (λ (s : Seen Fault Place). All In s.reads) va.comes (shadow_asked c m false h.path mi rb va.small).reads) (none_passes _ h.reads nr))
  where
    In : ℕ × ℕ → Type 0
    In x = InGuestArea c x.0 × (x.1 < 512)

    Off : ℕ × ℕ → Type 0
    Off x = T (not (eqb t x.0 && eqb i x.1))

-- and so the held path valid
pub store_keeps : (c : Config) (m : Machine) (t i v : ℕ) (h : Held) → MappedIn c m → m.root < 2 ^ frame_bits c → guest_base c ≤ t → i < 512
    → Valid c m h → T (not (reads_word t i h)) → Valid c (stored c m t i v) h
unfolding again world
store_keeps c m t i v h mi rb bt bi va nr =
    valid_again c m (stored c m t i v) h va
    (local_seen (world c m) (world c (stored c m t i v)) (walk c false m.root h.path)
    (all_any (SameMapping (world c m) (world c (stored c m t i v))) (again c m h.path).uses (λ g. refl))
    (subst (λ (s : Seen Fault Place). All (SameWord (world c m) (world c (stored c m t i v))) s.reads) (sym va.comes)
    (store_words c m t i v h mi rb bt bi va nr)))

-- into a frame that is not watched no path is dropped: none reads a word of it
pub unwatched_unread : (t i : ℕ) (hs : List Held) → T (not (watched t hs)) → All (λ h. T (not (reads_word t i h))) hs
unwatched_unread t i hs h = all_map (λ k. T (not (reads_frame t k))) _ hs (λ k n. unread k.reads n) (none_passes (reads_frame t) hs h)
  where
    unread : (rs : List (ℕ × ℕ)) → T (not (any (λ r. eqb t r.0) rs)) → T (not (any (λ r. eqb t r.0 && eqb i r.1) rs))
    unread [] n = n
    unread (r ∷ rs) n = go (eqb t r.0) n (unread rs)
      where
        go : (b : Bool) → T (not (b || any (λ r. eqb t r.0) rs)) → (T (not (any (λ r. eqb t r.0) rs)) → T (not (any (λ r. eqb t r.0 && eqb i r.1) rs)))
            → T (not (b && eqb i r.1 || any (λ r. eqb t r.0 && eqb i r.1) rs))
        go true k ih = absurd k
        go false k ih = ih k

pub drop_unwatched : (t i : ℕ) (hs : List Held) → T (not (watched t hs)) → drop_word t i hs ≡ hs
drop_unwatched t i hs h = keep_all (λ k. not (reads_word t i k)) hs (all_map _ _ hs (λ k n. is_true (not (reads_word t i k)) n) (unwatched_unread t i hs h))

-- ---- a mapping

-- whatever becomes of g, the others are found as before
pub lookup_without : (g f : ℕ) (xs : List Mapping) → (f ≡ g → ⊥) → lookup f (without g xs) ≡ lookup f xs
lookup_without g f [] h = refl
lookup_without g f (x ∷ xs) h = go (eqb g x.guest) (eqb f x.guest) refl refl (lookup_without g f xs h)
  where
    go : (b d : Bool) → eqb g x.guest ≡ b → eqb f x.guest ≡ d → lookup f (without g xs) ≡ lookup f xs
        → lookup f (cond b (without g xs) (x ∷ without g xs)) ≡ cond d (some (x.to, x.right)) (lookup f xs)
    go true true e k ih = absurd (h (eqb→eq f x.guest (subst T (sym k) tt) ∙ sym (eqb→eq g x.guest (subst T (sym e) tt))))
    go true false e k ih = ih
    go false d e k ih = rw k (ap (cond d (some (x.to, x.right))) ih)

pub lookup_with : (g f : ℕ) (t : ℕ) (w : Bool) (xs : List Mapping) → (f ≡ g → ⊥) → lookup f (with g t w xs) ≡ lookup f xs
lookup_with g f t w xs h = go (eqb f g) refl
  where
    go : (b : Bool) → eqb f g ≡ b → cond b (some (t, w)) (lookup f (without g xs)) ≡ lookup f xs
    go true e = absurd (h (eqb→eq f g (subst T (sym e) tt)))
    go false e = lookup_without g f xs h

-- a change of one frame's mapping leaves every held path valid whose shadow part did not use it
pub mapping_keeps : (c : Config) (m : Machine) (xs : List Mapping) (g : ℕ) (h : Held) → ((f : ℕ) → (f ≡ g → ⊥) → lookup f xs ≡ lookup f m.mappings)
    → Valid c m h → T (not (uses_mapping g h)) → Valid c (remapped m xs) h
unfolding again world
mapping_keeps c m xs g h same va nu =
    valid_again c m (remapped m xs) h va
    (local_seen (world c m) (world c (remapped m xs)) (walk c false m.root h.path)
    (all_map (λ f. T (not (eqb g f))) (SameMapping (world c m) (world c (remapped m xs))) (again c m h.path).uses (λ f k. same f (λ e. not_eqb g f k (sym e)))
    (subst (λ (s : Seen Fault Place). All (λ f. T (not (eqb g f))) s.uses) (sym va.comes) (none_passes _ h.uses nu)))
    (all_any (SameWord (world c m) (world c (remapped m xs))) (again c m h.path).reads (λ x. refl)))

-- ---- bits 5 and 6 of its words

-- mappings and words make up the world
pub alike_world : (c : Config) (m n : Machine) → n.mappings ≡ m.mappings → ((t i : ℕ) → AlikeWord (word_in c m t i) (word_in c n t i)) → AlikeWorld (world c m) (world c n)
unfolding world
alike_world c m n e k = record { hosts = λ g. ap (lookup g) e; costs = λ g. ap (λ xs. host_cost c xs g) e; words = k }

-- whatever becomes of them, every held path stays valid
pub alike_keeps : (c : Config) (m n : Machine) (h : Held) → n.root ≡ m.root → AlikeWorld (world c m) (world c n) → Valid c m h → Valid c n h
unfolding again seen
alike_keeps c m n h r alike va =
    valid_again c m n h va
    (ap (λ x. seen (world c n) (walk c false x h.path)) r
    ∙ ap (λ (x : Trace Fault Place). as_seen x.result x) (walk_alike (world c m) (world c n) alike c false m.root h.path))

-- ---- a fill

-- the path of an address at depth d
pub upper_small : (c : Config) (d a : ℕ) → All (λ i. i < 512) (upper c d (address_indexes c a))
upper_small c d a = all_take (λ i. i < 512) (c.levels - d) (address_indexes c a) (indexes_all c.levels (page_of a))

pub upper_long : (c : Config) (d a : ℕ) → length (upper c d (address_indexes c a)) ≡ c.levels - d
upper_long c d a = length-take-le (c.levels - d) (address_indexes c a) (omega (arith, indexes_length c.levels (page_of a)))

-- what a granted shadow part fills, a store's too, is valid: with bits on a load may fill a path that forbids stores
pub fill_valid : (c : Config) (m : Machine) (st : Bool) (d : ℕ) (p : List ℕ) (r : Place) → All (λ i. i < 512) p → length p ≡ c.levels - d
    → (trace (world c m) (walk c st m.root p)).result ≡ granted r → is_span c r.0 ≡ false
    → let s = trace (world c m) (walk c st m.root p) in Valid c m (held_by p s (right_of c (world c m) st d s r.1))
fill_valid c m st d p r small long e real = record {
  small = small;
  frame = r.0;
  wide = r.1;
  real = real;
  comes = sees c m st p r e;
  right = go (passes || st || dirty_at (world c m) s.reads) refl;
}
  where
    s : Trace Fault Place
    s = trace (world c m) (walk c st m.root p)

    passes : Bool
    passes = not (c.bits && eqb d 0)

    forbids : not (c.bits && eqb d 0) ≡ false → (length p ≡ c.levels) × (c.bits ≡ true)
    forbids k =
        let on = not-false (c.bits && eqb d 0) k in
        let z : d ≡ 0 = eqb-true d 0 (and_second c.bits (eqb d 0) on) in
        (long ∙ ap (λ n. c.levels - n) z ∙ omega arith, and_first c.bits (eqb d 0) on)

    go : (x : Bool) → (passes || st || dirty_at (world c m) s.reads) ≡ x → ((r.1 && x) ≡ r.1) ⊎ (((r.1 && x) ≡ false) × (length p ≡ c.levels) × (c.bits ≡ true))
    go true k = inl (and-true r.1)
    go false k =
        let f = forbids (or_first passes st (or_first (passes || st) (dirty_at (world c m) s.reads) k)) in
        inr (and-false r.1, f.0, f.1)
