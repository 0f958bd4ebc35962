-- A frame is watched in memory exactly if it is watched in the book.
-- Assumes nothing.
use mathlib.Core.Path.{◌≡◌, refl, sym, ap, ◌∙◌, subst}
use mathlib.Core.Logic.{◌≢◌, inl, inr}
use Prim.Native.Nat.{ℕ, zero, suc, ◌+◌, ◌<◌, ◌≤◌}
use native.Mathlib.Omega.{arith}
use native.Mathlib.Decide.{ℕ_discrete}
use mathlib.Core.Bool.{Bool, true, false, ◌||◌, cond}
use mathlib.Core.List.{List, [], ◌∷◌}
use mathlib.Core.Option.{Option, none, some, IsSome}
use lib.Dec.{T, eqb, eqb→eq, eqb_refl}
use borrow.Author.Tests.{eq-eqb, ne_eqb, eqb-true, eqb-false}
use Rattle.spec.specs.Config.{Config, guest_base}
use Rattle.spec.specs.Plain.{Lead, is_span}
use Rattle.spec.specs.Prefix.{any}
use Rattle.spec.specs.Book.{Held, reads_frame, watched}
use Rattle.spec.specs.Prefix.{All}
use Rattle.spec_laws.proofs.Lists.{all_left, all_right, or_cases, or_left, or_right}
use Rattle.spec_laws.proofs.Added.{any_append}
use Rattle.spec_laws.proofs.Granted.{level_reads}
use Rattle.spec_laws.proofs.Trail.{reads_from}
use Rattle.pool.specs.declared.Pool.{Pool}
use Rattle.pool.specs.Header.{level_of, guest_of}
use Rattle.area_laws.proofs.Change.{is_some}
use Rattle.area_laws.proofs.Paths.{onto, Pre, Ext, pre_ext, ext_pre}
use Rattle.area_laws.proofs.Invariant.{present_set, Leaf}
use Rattle.area_laws.proofs.Whole.{Holds, above_leaf}
use Rattle.shadow.specs.Held.{shadow_area}
use Rattle.shadow.specs.Watch.{watches_of, watched_from, watched_of}
use Rattle.drops_laws.proofs.Held.{both_tests, leaf_at, HeldEntries, leaf_any, leaf_held, any_leaf, level_any, no_span}

-- ---- the guest tables whose words are read on the way of a path: those of its proper prefixes, as far as they are no spans
record ReadAt (t : ℕ) (F : List ℕ → ℕ) (x is : List ℕ) : Type 0 where
  pub prefix : List ℕ
  pub on : Pre prefix x is
  pub frame : F prefix ≡ t

-- t is a host frame
module _ (c : Config) (t : ℕ) (real : is_span c t ≡ false) (F : List ℕ → ℕ) where
  abbrev in_frame : ℕ × ℕ → Bool
  in_frame r = eqb t r.0

  frame_reads : (i : ℕ) (is x : List ℕ) → any in_frame (reads_from c F x (i ∷ is)) ≡ (eqb t (F x) || any in_frame (reads_from c F (i ∷ x) is))
  frame_reads i is x =
      any_append in_frame (level_reads c (F x) i) (reads_from c F (i ∷ x) is)
      ∙ ap (λ b. b || any in_frame (reads_from c F (i ∷ x) is)) (level_any c in_frame (F x) i (no_span c t (F x) real))

  reads_pre : (is x : List ℕ) → T (any in_frame (reads_from c F x is)) → ReadAt t F x is
  reads_pre [] x h = absurd h
  reads_pre (i ∷ is) x h = elim (or_cases (eqb t (F x)) (any in_frame (reads_from c F (i ∷ x) is)) (subst T (frame_reads i is x) h)) [
    | inl k ↦ record { prefix = x; on = inl refl; frame = sym (eqb→eq t (F x) k) }
    | inr k ↦ (let r = reads_pre is (i ∷ x) k in record { prefix = r.prefix; on = inr r.on; frame = r.frame })
  ]

  pre_reads : (is x y : List ℕ) → Pre y x is → F y ≡ t → T (any in_frame (reads_from c F x is))
  pre_reads [] x y h e = absurd h
  pre_reads (i ∷ is) x y (inl h) e =
      subst T (sym (frame_reads i is x)) (or_left (eqb t (F x)) _ (subst (λ z. T (eqb t (F z))) h (subst (λ z. T (eqb t z)) (sym e) (eqb_refl t))))
  pre_reads (i ∷ is) x y (inr h) e = subst T (sym (frame_reads i is x)) (or_right (eqb t (F x)) _ (pre_reads is (i ∷ x) y h e))

pre_inside : (c : Config) (P : ℕ → Type 0) (F : List ℕ → ℕ) (is x y : List ℕ) → All (λ r. P r.0) (reads_from c F x is) → Pre y x is → is_span c (F y) ≡ false → P (F y)
pre_inside c P F [] x y a h real = absurd h
pre_inside c P F (i ∷ is) x y a (inl h) real =
    let s : is_span c (F x) ≡ false = ap (λ z. is_span c (F z)) (sym h) ∙ real in
    subst (λ z. P (F z)) (sym h) (subst (λ b. All (λ (r : ℕ × ℕ). P r.0) (cond b [] ((F x, i) ∷ []))) s (all_left _ (level_reads c (F x) i) _ a)).0
pre_inside c P F (i ∷ is) x y a (inr h) real = pre_inside c P F is (i ∷ x) y (all_right _ (level_reads c (F x) i) _ a) h real

-- a proper prefix, from the empty one on
pub ext_on : (y is : List ℕ) → Ext y (onto [] is) → Pre y [] is
ext_on y is h = elim (ext_pre y [] is h) [ inl k ↦ absurd k | inr k ↦ k ]

-- the guest table of a prefix above a leaf is in the guest area
pub guest_inside : {c : Config} {F : List ℕ → ℕ} {G : List ℕ → Lead} {root : ℕ} {w : Held → ℕ} {hs : List Held} → HeldEntries c F G root w hs
    → (y : List ℕ) → Leaf (leaf_at w hs) y → is_span c (F y) ≡ false → guest_base c ≤ F y
guest_inside {c = c} {F = F} {w = w} {hs = hs} a y l real =
    let r = leaf_held _ w hs l.path a.all l.set in
    pre_inside c (λ f. guest_base c ≤ f) F r.held.path [] y (subst (All (λ (x : ℕ × ℕ). guest_base c ≤ x.0)) r.fact.reads r.fact.inside)
    (ext_on y r.held.path (subst (Ext y) (sym r.path) l.under)) real

-- ---- the scan of the headers
record Watches (m : List ℕ) (b t k : ℕ) : Type 0 where
  pub frame : ℕ
  pub low : b ≤ frame
  pub high : frame < b + k
  pub level : level_of m frame ≢ 0
  pub guest : guest_of m frame ≡ t

watched_found : (m : List ℕ) (b t k : ℕ) → T (watched_from m b t k) → Watches m b t k
unfolding watched_from watches_of
watched_found m b t zero h = absurd h
watched_found m b t (suc k) h = go (eqb (level_of m (b + k)) 0) refl (eqb (guest_of m (b + k)) t) refl h (watched_found m b t k)
  where
    wider : Watches m b t k → Watches m b t (suc k)
    wider r = record { frame = r.frame; low = r.low; high = omega (arith, r.high); level = r.level; guest = r.guest }

    go : (d : Bool) → eqb (level_of m (b + k)) 0 ≡ d → (e : Bool) → eqb (guest_of m (b + k)) t ≡ e → T (cond (cond d false e) true (watched_from m b t k))
        → (T (watched_from m b t k) → Watches m b t k) → Watches m b t (suc k)
    go true p e q n ih = wider (ih n)
    go false p false q n ih = wider (ih n)
    go false p true q n ih = record { frame = b + k; low = omega arith; high = omega arith; level = eqb-false _ _ p; guest = eqb-true _ _ q }

found_watched : (m : List ℕ) (b t k f : ℕ) → b ≤ f → f < b + k → level_of m f ≢ 0 → guest_of m f ≡ t → T (watched_from m b t k)
unfolding watched_from watches_of
found_watched m b t zero f lo hi n e = absurd (omega arith)
found_watched m b t (suc k) f lo hi n e = go (ℕ_discrete f (b + k)) (λ l. found_watched m b t k f lo l n e)
  where
    later : (d : Bool) → T (watched_from m b t k) → T (cond d true (watched_from m b t k))
    later true h = tt
    later false h = h

    go : Dec (f ≡ b + k) → (f < b + k → T (watched_from m b t k)) → T (cond (watches_of m (b + k) t) true (watched_from m b t k))
    go (yes q) ih = rw (sym q, ne_eqb (level_of m f) 0 n, eq-eqb (guest_of m f) t e) tt
    go (no q) ih = later (watches_of m (b + k) t) (ih (omega (arith, q)))

-- the shadow tables watch just the host frames in which some held path read a guest entry
pub watched_is : {c : Config} {p : Pool} {m : List ℕ} {guest : List ℕ → ℕ} {G : List ℕ → Lead} {root : ℕ} {w : Held → ℕ} {hs : List Held}
    → Holds (shadow_area c) false p m (leaf_at w hs) guest → HeldEntries c guest G root w hs → (t : ℕ) → is_span c t ≡ false → watched_of c m p.fresh t ≡ watched t hs
unfolding watched_of
watched_is {c = c} {p = p} {m = m} {guest = guest} {w = w} {hs = hs} h a t real = both_tests _ _ there free-words
  where
    there : T (watched_from m c.hosts t p.fresh) → T (watched t hs)
    there k = elim (h.tables.each r.frame r.low r.high) [ inl z ↦ absurd (r.level z) | inr z ↦ above z.0 z.1 ]
      where
        r : Watches m c.hosts t p.fresh
        r = watched_found m c.hosts t p.fresh k

        above : (y : List ℕ) → h.tabs y ≡ some r.frame → T (watched t hs)
        above y e = elim (h.exact y (is_some e)) [ inl l ↦ leaf l | inr l ↦ absurd l.1 ]
          where
            leaf : Leaf (leaf_at w hs) y → T (watched t hs)
            leaf l = leaf_any _ w (reads_frame t) l.path
                (λ k s q. subst (λ rs. T (any (λ x. eqb t x.0) rs)) (sym s.reads)
                (pre_reads c t real guest k.path [] y (ext_on y k.path (subst (Ext y) (sym q) l.under)) (sym (h.tables.guests y r.frame e) ∙ r.guest)))
                hs a.all l.set

    free-words : T (watched t hs) → T (watched_from m c.hosts t p.fresh)
    free-words k =
        let r = any_leaf _ w (reads_frame t) (λ k s. present_set (w k) s.set) hs a.all k in
        let s = reads_pre c t real guest r.held.path [] (subst (λ rs. T (any (λ x. eqb t x.0) rs)) r.fact.reads r.passes) in
        stands s.prefix s.frame (h.tabs s.prefix) refl
        (above_leaf h s.prefix (record { path = onto [] r.held.path; under = pre_ext s.prefix [] r.held.path s.on; set = r.leaf }))
      where
        stands : (y : List ℕ) → guest y ≡ t → (o : Option ℕ) → h.tabs y ≡ o → IsSome (h.tabs y) → T (watched_from m c.hosts t p.fresh)
        stands y q none e k = absurd (subst IsSome e k)
        stands y q (some f) e k =
            let i = h.tables.inside y f e in
            let l = h.tables.level y f e in
            found_watched m c.hosts t p.fresh f i.0 i.1 (λ z. omega arith) (h.tables.guests y f e ∙ q)
