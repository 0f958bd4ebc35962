-- Own bit writes over any memory: they set bits 5 and 6 of guest words, and change nothing else.
-- Assumes nothing.
use mathlib.Core.Path.{◌≡◌, refl, sym, ap, ◌∙◌, subst}
use mathlib.Core.Logic.{inl, inr}
use Prim.Native.Nat.{ℕ, ◌+◌, ◌*◌}
use native.Mathlib.Omega.{arith}
use mathlib.Core.Bool.{Bool, true, false, ◌&&◌, ◌||◌}
use mathlib.Core.List.{List, [], ◌∷◌}
use lib.Dec.{eqb, ltb}
use borrow.Author.Tests.{eqb-true, eqb-false, ltb-true, ltb-false}
use lib.ListN.{length, drop, set, get_or, length-set}
use lib.Seq.{get_or-drop, get_or-set_same, get_or-set_other, set_out}
use Rattle.spec.specs.Config.{Config, guest_base}
use Rattle.spec.specs.Entry.{accessed, dirty, with_bit, indexes, page_of}
use Rattle.spec.specs.Prefix.{All}
use Rattle.spec.specs.Walk.{trace}
use Rattle.spec.specs.Machine.{place}
use Rattle.spec.specs.Bits.{is_last, with_bits}
use Rattle.spec_laws.proofs.Lists.{and_first}
use Rattle.spec_laws.proofs.Indexes.{indexes_all}
use Rattle.spec_laws.proofs.EntryBits.{with_has, bits_same}
use Rattle.words.specs.Words.{at, word_in, set_in}
use Rattle.layout.specs.Layout.{page}
use Rattle.walk.specs.declared.Walked.{Walked}
use Rattle.walk.specs.declared.Walked.TheVariants as walked
use Rattle.walk.specs.Memory.{memory_world, walked_of}
use Rattle.accessed.specs.Entries.{bits_in}
use Rattle.accessed.proofs.Walks.{arrived_granted, walk_area}
use Rattle.translate.specs.Translate.{whole}
use Rattle.request.specs.Access.{set_by, bits_of, settled_of}
use Rattle.claims.specs.Safety.{Bitted, BitsOnly}
use Rattle.claims.proofs.Puts.{area_store}
use Rattle.spec_laws.proofs.Covered.{WordIn}

-- ---- one word

-- set twice, what either sets is set
with_twice : (a b : Bool) (e : ℕ) → with_bits b (with_bits a e) ≡ with_bits (a || b) e
with_twice false false e = bits_same false (with_bits false e) (with_has false e)
with_twice false true e = ap (with_bit 6) (bits_same false (with_bits false e) (with_has false e))
with_twice true false e = bits_same false (with_bits true e) (ap (λ x. x && true) (and_first (accessed (with_bits true e)) (dirty (with_bits true e)) (with_has true e)))
with_twice true true e = bits_same true (with_bits true e) (with_has true e)

bitted_trans : (on : Bool) (e f g : ℕ) → Bitted on e f → Bitted on f g → Bitted on e g
bitted_trans on e f g (inl p) q = subst (λ x. Bitted on x g) p q
bitted_trans on e f g (inr p) (inl q) = inr (p.0, p.1, q ∙ p.2)
bitted_trans on e f g (inr p) (inr q) = inr (p.0, (p.1 || q.1), q.2 ∙ ap (with_bits q.1) p.2 ∙ with_twice p.1 q.1 e)

-- ---- lists of words

pub only_refl : (on : Bool) (a : List ℕ) → BitsOnly on a a
only_refl on a = (refl, λ k. inl refl)

pub only_trans : (on : Bool) (a b d : List ℕ) → BitsOnly on a b → BitsOnly on b d → BitsOnly on a d
only_trans on a b d x y = (y.0 ∙ x.0, λ k. bitted_trans on (get_or a k 0) (get_or b k 0) (get_or d k 0) (x.1 k) (y.1 k))

only_set : (a : List ℕ) (k : ℕ) (b : Bool) → BitsOnly true a (set a k (with_bits b (get_or a k 0)))
only_set a k b = (length-set a k (with_bits b (get_or a k 0)), λ j. go j (eqb j k) refl (ltb k (length a)) refl)
  where
    v : ℕ
    v = with_bits b (get_or a k 0)

    go : (j : ℕ) (x : Bool) → eqb j k ≡ x → (y : Bool) → ltb k (length a) ≡ y → Bitted true (get_or a j 0) (get_or (set a k v) j 0)
    go j true e true l = subst (λ i. Bitted true (get_or a i 0) (get_or (set a k v) i 0)) (sym (eqb-true j k e)) (inr (refl, b, get_or-set_same a k v 0 (ltb-true k (length a) l)))
    go j true e false l = inl (ap (λ xs. get_or xs j 0) (set_out a k v (ltb-false k (length a) l)))
    go j false e y l = inl (get_or-set_other a k j v 0 (eqb-false j k e))

-- ---- the entries of a walk

bits_long : (st : Bool) (xs : List (ℕ × ℕ)) (m : List ℕ) → length (bits_in st m xs) ≡ length m
bits_long st [] m = refl
bits_long st (x ∷ xs) m = bits_long st xs _ ∙ length-set m (at x.0 x.1) _

bits_only : (c : Config) (st : Bool) (xs : List (ℕ × ℕ)) (m : List ℕ) → All (WordIn c) xs
    → BitsOnly true (drop (512 * guest_base c) m) (drop (512 * guest_base c) (bits_in st m xs))
bits_only c st [] m a = only_refl true (drop (512 * guest_base c) m)
bits_only c st (x ∷ xs) m a =
    let b = st && is_last xs in
    let k = place c x.0 x.1 in
    let area = drop (512 * guest_base c) m in
    let at-word : get_or area k 0 ≡ word_in m x.0 x.1 =
    let z : 512 * guest_base c + k ≡ at x.0 x.1 = omega (arith, a.0.0.0) in get_or-drop (512 * guest_base c) m k 0 ∙ ap (λ j. get_or m j 0) z in
    let once = subst (λ e. BitsOnly true area (set area k (with_bits b e))) at-word (only_set area k b) in
    let first = subst (BitsOnly true area) (sym (area_store c m x.0 x.1 (with_bits b (word_in m x.0 x.1)) a.0.0.0)) once in
    let next = set_in m x.0 x.1 (with_bits b (word_in m x.0 x.1)) in
    only_trans true area (drop (512 * guest_base c) next) (drop (512 * guest_base c) (bits_in st next xs)) first (bits_only c st xs next a.1)

-- ---- a request's

module _ (c : Config) (ht root : ℕ) (st : Bool) (a : ℕ) where
  whole_in : (m : List ℕ) (t : ℕ) (v : Bool) (n : ℕ) → walked_of c ht m 0 (whole c st root a) ≡ walked.Arrived v (page t) n
      → All (WordIn c) (trace (memory_world c ht m) (whole c st root a)).reads
  whole_in m t v n e =
      walk_area c ht m st root (indexes c.levels (page_of a)) (t, v) (indexes_all c.levels (page_of a)) (arrived_granted c ht m 0 (whole c st root a) t v n e)

  set_only : (m : List ℕ) → (length (bits_of c ht m root st a) ≡ length m) × BitsOnly true (drop (512 * guest_base c) m) (drop (512 * guest_base c) (bits_of c ht m root st a))
  unfolding bits_of
  set_only m = go (walked_of c ht m 0 (whole c st root a)) refl
    where
      xs : List (ℕ × ℕ)
      xs = (trace (memory_world c ht m) (whole c st root a)).reads

      go : (x : Walked) → walked_of c ht m 0 (whole c st root a) ≡ x
          → (length (set_by x (bits_in st m xs) m) ≡ length m) × BitsOnly true (drop (512 * guest_base c) m) (drop (512 * guest_base c) (set_by x (bits_in st m xs) m))
      go (walked.Arrived v t n) e = (bits_long st xs m, bits_only c st xs m (whole_in m t.0 v n e))
      go (walked.Faulted x n) e = (refl, only_refl true (drop (512 * guest_base c) m))
      go walked.Damaged e = (refl, only_refl true (drop (512 * guest_base c) m))

  -- where they are to be set bits are on
  pub settled_only : (sets : Bool) → (sets ≡ true → c.bits ≡ true) → (m : List ℕ)
      → (length (settled_of c ht root st a sets m) ≡ length m) × BitsOnly c.bits (drop (512 * guest_base c) m) (drop (512 * guest_base c) (settled_of c ht root st a sets m))
  unfolding settled_of
  settled_only true on m = let s = set_only m in (s.0, subst (λ b. BitsOnly b (drop (512 * guest_base c) m) (drop (512 * guest_base c) (bits_of c ht m root st a))) (sym (on refl)) s.1)
  settled_only false on m = (refl, only_refl c.bits (drop (512 * guest_base c) m))
