-- An empty table is taken off through its header and given back, the empty top table goes, everything is dropped: the invariant is kept.
use mathlib.Core.Path.{◌≡◌, refl, sym, ap, ap₂, ◌∙◌, subst}
use mathlib.Core.Logic.{◌≢◌, ◌⊎◌, inl, inr}
use Prim.Native.Nat.{ℕ, zero, suc, ◌+◌, ◌*◌, ◌<◌, ◌≤◌, zero-le}
use native.Mathlib.Omega.{arith}
use native.Mathlib.Decide.{ℕ_discrete}
use mathlib.Core.Bool.{Bool, true, false, cond}
use mathlib.Core.List.{List, [], ◌∷◌, head-eq_of_cons-eq, tail-eq_of_cons-eq}
use mathlib.Core.Option.{Option, none, some, IsSome}
use lib.Dec.{T, ltb}
use lib.ListN.{length}
use borrow.Author.Tests.{ltb-true, ltb-false}
use Rattle.spec.specs.Entry.{present}
use Rattle.spec.specs.Prefix.{same}
use Rattle.words.specs.Words.{at, word_in}
use Rattle.pool.specs.declared.Area.{Area}
use Rattle.pool.specs.declared.Pool.{Pool}
use Rattle.pool.specs.declared.Way.TheVariants.{To, Not}
use Rattle.pool.specs.Header.{entry_at_of, put_entry_of, level_of, parent_of, slot_of, bare_of}
use Rattle.pool.specs.Pool.{end, none_of, with_top, with_freed, free_words}
use Rattle.prune.specs.Remove.{detach_of, release_top}
use Rattle.spec_laws.proofs.Lists.{same_is, same_refl}
use Rattle.spec_laws.proofs.Distinct.{In, without, without_in, without_out, without_once, without_one}
use Rattle.area_laws.proofs.Change.{differ, eq?, upd, upd_on, upd_other, no_empty, some_inj, not_some, is_some}
use Rattle.area_laws.proofs.Stores.{SameHead, trans_head, frame_head, frame_entry, Beside, beside_one, beside_trans, put_length, put_here, put_other, put_else, put_head, free_words_length, free_words_else, free_words_link, free_words_level}
use Rattle.area_laws.proofs.Invariant.{slot, inside_is, present_link, Mem, Chain, chain_keep, Tables, above, none_past, frame_small, place_fits, place_inj}

-- ---- whether a table is empty
pub bare_true : (m : List ℕ) (f n : ℕ) → bare_of m f n ≡ true → (j : ℕ) → j < n → present (entry_at_of m f j) ≡ false
unfolding bare_of
bare_true m f zero e j l = absurd (omega arith)
bare_true m f (suc n) e j l = go (present (entry_at_of m f n)) refl e (bare_true m f n)
  where
    go : (t : Bool) → present (entry_at_of m f n) ≡ t → cond t false (bare_of m f n) ≡ true → (bare_of m f n ≡ true → (j : ℕ) → j < n → present (entry_at_of m f j) ≡ false) → present (entry_at_of m f j) ≡ false
    go true q k ih = differ (sym k)
    go false q k ih = last (ℕ_discrete j n)
      where
        last : Dec (j ≡ n) → present (entry_at_of m f j) ≡ false
        last (yes z) = ap (λ u. present (entry_at_of m f u)) z ∙ q
        last (no z) = ih k j (omega (arith, z))

-- an entry that is present
pub record Busy (m : List ℕ) (f n : ℕ) : Type 0 where
  pub index : ℕ
  pub less : index < n
  pub set : present (entry_at_of m f index) ≡ true

pub bare_false : (m : List ℕ) (f n : ℕ) → bare_of m f n ≡ false → Busy m f n
unfolding bare_of
bare_false m f zero e = differ e
bare_false m f (suc n) e = go (present (entry_at_of m f n)) refl e (bare_false m f n)
  where
    go : (t : Bool) → present (entry_at_of m f n) ≡ t → cond t false (bare_of m f n) ≡ false → (bare_of m f n ≡ false → Busy m f n) → Busy m f (suc n)
    go true q k ih = record { index = n; less = omega arith; set = q }
    go false q k ih = let s = ih k in let l = s.less in record { index = s.index; less = omega arith; set = s.set }

-- ---- nothing is in use, whatever the words are: so it is once all paths are dropped
pub dropped : (a : Area) (guest : List ℕ → ℕ) (m : List ℕ) → a.base + a.size ≤ 65536 → a.levels < 8 → (a.base + a.size) * 512 ≤ length m
    → Tables a none_of (λ x. none) (λ x. 0) guest [] [] m
unfolding none_of
dropped a guest m sm fl lo = record {
  small = sm;
  flat = fl;
  long = lo;
  inj = λ y z f ty tz. absurd (not_some refl ty);
  word = λ y f j ty hj. absurd (not_some refl ty);
  top = refl;
  root = refl;
  below = λ j y ty. refl;
  narrow = λ j y l. refl;
  plain = λ y f ty. refl;
  solid = λ y k. absurd (k refl);
  inside = λ y f ty. absurd (not_some refl ty);
  chain = refl;
  nodup = tt;
  off = λ f e. absurd e;
  count = refl;
  room = zero-le;
  used = refl;
  once = tt;
  stand = λ y. ((λ q. q), (λ q. q));
  level = λ y f ty. absurd (not_some refl ty);
  link = λ i y f ty. absurd (not_some refl ty);
  each = λ f lo hi. absurd (omega arith);
  guests = λ y f ty. absurd (not_some refl ty);
}

module _ {a : Area} {p : Pool} {ts : List ℕ → Option ℕ} {lv guest : List ℕ → ℕ} {fl : List ℕ} {ps : List (List ℕ)} {m : List ℕ}
    (g : Tables a p ts lv guest fl ps m) where
  -- in an empty table hangs no table and stands no leaf
  pub bare_is : (y : List ℕ) (h : ℕ) → ts y ≡ some h → bare_of m h 512 ≡ true → (j : ℕ) → (ts (j ∷ y) ≡ none) × (lv (j ∷ y) ≡ 0)
  bare_is y h ty b j = go (ltb j 512) refl
    where
      leaf : (v : ℕ) → lv (j ∷ y) ≡ v → present v ≡ false → Dec (v ≡ 0) → v ≡ 0
      leaf v e c (yes z) = z
      leaf v e c (no z) = differ (sym (subst (λ u. present u ≡ true) e (g.solid (j ∷ y) (λ u. z (sym e ∙ u)))) ∙ c)

      slots : (o : Option ℕ) (v : ℕ) → lv (j ∷ y) ≡ v → present (slot o v) ≡ false → (o ≡ none) × (v ≡ 0)
      slots none v e c = (refl, leaf v e c (ℕ_discrete v 0))
      slots (some d) v e c = differ (sym (present_link d) ∙ c)

      go : (t : Bool) → ltb j 512 ≡ t → (ts (j ∷ y) ≡ none) × (lv (j ∷ y) ≡ 0)
      go true q = let l = ltb-true j 512 q in slots (ts (j ∷ y)) (lv (j ∷ y)) refl (ap present (sym (g.word y h j ty l)) ∙ bare_true m h 512 b j l)
      go false q = let l = ltb-false j 512 q in (none_past g j y l, g.narrow j y l)

  -- ---- the empty table f of the prefix x is given back. k is the memory in which no entry names it any more, t the top table's
  -- entry then
  pub record Loose (x : List ℕ) (f t : ℕ) (k : List ℕ) : Type 0 where
    pub long : length k ≡ length m
    pub heads : (d : ℕ) → SameHead m k d
    pub words : (y : List ℕ) (d j : ℕ) → upd ts x none y ≡ some d → j < 512 → entry_at_of k d j ≡ slot (upd ts x none (j ∷ y)) (lv (j ∷ y))
    pub links : (d : ℕ) → Mem d fl → word_in k d 0 ≡ word_in m d 0
    pub top : t ≡ slot (upd ts x none []) 0

  pub give : (x : List ℕ) (f t : ℕ) (k : List ℕ) → ts x ≡ some f → bare_of m f 512 ≡ true → Loose x f t k
      → Tables a (with_freed (with_top p t) f) (upd ts x none) lv guest (f ∷ fl) (without x ps) (free_words k f p.free)
  unfolding with_freed with_top
  give x f t k tf b c = record {
    small = g.small;
    flat = g.flat;
    long = rw (free_words_length, c.long) g.long;
    inj = λ y z d ty tz. g.inj y z d (old y d ty) (old z d tz);
    word = λ y d j ty hj. frame_entry k n d j (free_words_else k f p.free d (apart y d ty)) hj ∙ c.words y d j ty hj;
    top = c.top;
    root = g.root;
    below = λ j y ty. unders j y ty (eq? x y);
    narrow = g.narrow;
    plain = λ y d ty. g.plain y d (old y d ty);
    solid = g.solid;
    inside = λ y d ty. g.inside y d (old y d ty);
    chain = (refl, subst (λ e. Chain n e fl) (sym (free_words_link k f p.free (room 0 (omega arith)))) (chain_keep m n fl p.free linked g.chain));
    nodup = ((λ e. (g.off f e).2 x tf), g.nodup);
    off = λ d e. offs d e;
    count = let v = g.count in let u = g.used in let w = one in omega arith;
    room = g.room;
    used = let u = g.used in let w = one in omega arith;
    once = without_once x ps g.once;
    stand = λ y. stands y (eq? x y);
    level = λ y d ty. rw (heads y d ty).level (g.level y d (old y d ty));
    link = λ j y d ty. rw ((heads (j ∷ y) d ty).parent, (heads (j ∷ y) d ty).slot) (above_stays j y d (old (j ∷ y) d ty));
    each = λ d lo hi. eachs d lo hi (ℕ_discrete d f);
    guests = λ y d ty. (heads y d ty).guest ∙ g.guests y d (old y d ty);
  }
    where
      tu : List ℕ → Option ℕ
      tu = upd ts x none

      n : List ℕ
      n = free_words k f p.free

      one : suc (length (without x ps)) ≡ length ps
      one = without_one x ps g.once ((g.stand x).1 (is_some tf))

      room : (j : ℕ) → j < 512 → at f j < length k
      room j l = rw c.long (place_fits g x f j tf l)

      other : (y : List ℕ) (d : ℕ) → tu y ≡ some d → x ≢ y
      other y d ty e = not_some (upd_on ts x none y e) ty

      old : (y : List ℕ) (d : ℕ) → tu y ≡ some d → ts y ≡ some d
      old y d ty = sym (upd_other ts x none y (other y d ty)) ∙ ty

      apart : (y : List ℕ) (d : ℕ) → tu y ≡ some d → d ≢ f
      apart y d ty q = other y d ty (g.inj x y f tf (old y d ty ∙ ap some q))

      keep : (y : List ℕ) (d : ℕ) → ts y ≡ some d → d ≢ f → tu y ≡ some d
      keep y d ty ne = upd_other ts x none y (λ e. ne (some_inj (sym ty ∙ ap ts (sym e) ∙ tf))) ∙ ty

      head : (d : ℕ) → d ≢ f → SameHead m n d
      head d ne = trans_head (c.heads d) (frame_head k n d (free_words_else k f p.free d ne))

      heads : (y : List ℕ) (d : ℕ) → tu y ≡ some d → SameHead m n d
      heads y d ty = head d (apart y d ty)

      unders : (j : ℕ) (y : List ℕ) → tu y ≡ none → Dec (x ≡ y) → lv (j ∷ y) ≡ 0
      unders j y ty (yes e) = subst (λ u. lv (j ∷ u) ≡ 0) e (bare_is x f tf b j).1
      unders j y ty (no e) = g.below j y (sym (upd_other ts x none y e) ∙ ty)

      linked : (d : ℕ) → Mem d fl → word_in n d 0 ≡ word_in m d 0
      linked d e = free_words_else k f p.free d (λ q. (g.off d e).2 x (tf ∙ ap some (sym q))) 0 (omega arith) ∙ c.links d e

      offs : (d : ℕ) → (d ≡ f) ⊎ Mem d fl → (a.base ≤ d) × (d < a.base + p.fresh) × ((y : List ℕ) → tu y ≢ some d)
      offs d (inl e) = let v = g.inside x f tf in (omega arith, omega arith, λ y ty. apart y d ty e)
      offs d (inr e) = let o = g.off d e in (o.0, o.1, λ y ty. o.2 y (old y d ty))

      stands : (y : List ℕ) → Dec (x ≡ y) → (In y (without x ps) → IsSome (tu y)) × (IsSome (tu y) → In y (without x ps))
      stands y (yes e) = (
        (λ q. absurd ((without_out x y ps q).1 (subst (λ u. T (same x u)) e (same_refl x)))),
        (λ q. absurd (subst IsSome (upd_on ts x none y e) q)),
      )
      stands y (no e) = (
        (λ q. subst IsSome (sym (upd_other ts x none y e)) ((g.stand y).0 (without_out x y ps q).0)),
        (λ q. without_in x y ps ((g.stand y).1 (subst IsSome (upd_other ts x none y e) q)) (λ v. e (same_is x y v))),
      )

      -- the table above one that is left stands still, since no table hangs in the one given back
      above_stays : (j : ℕ) (y : List ℕ) (d : ℕ) → ts (j ∷ y) ≡ some d → (tu y ≡ some (parent_of m d)) × (slot_of m d ≡ j)
      above_stays j y d ty =
          let v = g.link j y d ty in
          (upd_other ts x none y (λ e. not_some (ap (λ z. ts (j ∷ z)) (sym e) ∙ (bare_is x f tf b j).0) ty) ∙ v.0, v.1)

      eachs : (d : ℕ) → a.base ≤ d → d < a.base + p.fresh → Dec (d ≡ f) → (level_of n d ≡ 0) ⊎ ((y : List ℕ) × (tu y ≡ some d))
      eachs d lo hi (yes e) = inl (ap (level_of n) e ∙ free_words_level k f p.free (room 1 (omega arith)))
      eachs d lo hi (no e) = elim (g.each d lo hi) [ inl z ↦ inl ((head d e).level ∙ z) | inr z ↦ inr (z.0, keep z.0 d z.1 e) ]

  -- ---- the empty table f of the prefix i ∷ x is taken off the table above
  abbrev pub unhung : ℕ → List ℕ
  unhung f = free_words (put_entry_of m (parent_of m f) (slot_of m f) 0) f p.free

  pub record Unhung (i : ℕ) (x : List ℕ) (f : ℕ) : Type 0 where
    pub done : detach_of a p m f ≡ end (with_freed p f) (To (parent_of m f)) (unhung f)
    pub tables : Tables a (with_freed p f) (upd ts (i ∷ x) none) lv guest (f ∷ fl) (without (i ∷ x) ps) (unhung f)
    pub beside : Beside a m (unhung f)

  pub detach_is : (i : ℕ) (x : List ℕ) (f : ℕ) → ts (i ∷ x) ≡ some f → bare_of m f 512 ≡ true → Unhung i x f
  unfolding detach_of with_top
  detach_is i x f tf b = record {
    done = rw (b, inside_is a.base a.size h (g.inside x h tx).0 (frame_small g x h tx).0);
    tables = give (i ∷ x) f p.top k tf b (record {
      long = put_length m h s 0;
      heads = λ d. put_head m h s 0 d here;
      words = λ y d j ty hj. words y d j (old y d ty) hj (eq? (i ∷ x) (j ∷ y));
      links = λ d e. put_else m h s 0 d hs (λ q. (g.off d e).2 x (tx ∙ ap some (sym q))) 0 (omega arith);
      top = g.top ∙ sym (ap (λ o. slot o 0) (upd_other ts (i ∷ x) none [] (no_empty i x)));
    });
    beside = beside_trans (beside_one a m k h (g.inside x h tx).0 (frame_small g x h tx).0 (put_length m h s 0) (λ d ne. put_else m h s 0 d hs ne))
        (beside_one a k (unhung f) f (g.inside (i ∷ x) f tf).0 (frame_small g (i ∷ x) f tf).0 (free_words_length k f p.free) (λ d ne. free_words_else k f p.free d ne));
  }
    where
      h : ℕ
      h = parent_of m f

      s : ℕ
      s = slot_of m f

      tx : ts x ≡ some h
      tx = (g.link i x f tf).0

      si : s ≡ i
      si = (g.link i x f tf).1

      hs : s < 512
      hs = let k = (above g i x f tf).index in rw si k

      k : List ℕ
      k = put_entry_of m h s 0

      here : at h s < length m
      here = place_fits g x h s tx hs

      old : (y : List ℕ) (d : ℕ) → upd ts (i ∷ x) none y ≡ some d → ts y ≡ some d
      old y d ty = sym (upd_other ts (i ∷ x) none y (λ e. not_some (upd_on ts (i ∷ x) none y e) ty)) ∙ ty

      words : (y : List ℕ) (d j : ℕ) → ts y ≡ some d → j < 512 → Dec (i ∷ x ≡ j ∷ y) → entry_at_of k d j ≡ slot (upd ts (i ∷ x) none (j ∷ y)) (lv (j ∷ y))
      words y d j ty hj (yes e) =
          let u : s ≡ j = si ∙ head-eq_of_cons-eq e in
          let c : h ≡ d = some_inj (sym tx ∙ ap ts (tail-eq_of_cons-eq e) ∙ ty) in
          ap₂ (entry_at_of k) (sym c) (sym u) ∙ put_here m h s 0 here (omega arith)
          ∙ sym (ap₂ slot (upd_on ts (i ∷ x) none (j ∷ y) e) (ap lv (sym e) ∙ g.plain (i ∷ x) f tf))
      words y d j ty hj (no e) =
          put_other m h s 0 d j (λ c. e (ap (λ z. z ∷ x) (sym si) ∙ place_inj g x y h d s j tx ty hs hj c))
          ∙ g.word y d j ty hj ∙ sym (ap (λ o. slot o (lv (j ∷ y))) (upd_other ts (i ∷ x) none (j ∷ y) e))

  -- a table that is not empty stays
  pub detach_not : (f : ℕ) → bare_of m f 512 ≡ false → detach_of a p m f ≡ end p Not m
  unfolding detach_of
  detach_not f b = rw b

  -- ---- the empty top table
  pub record Shut (f : ℕ) : Type 0 where
    pub done : release_top false p m f ≡ end (with_freed (with_top p 0) f) (To f) (free_words m f p.free)
    pub tables : Tables a (with_freed (with_top p 0) f) (upd ts [] none) lv guest (f ∷ fl) (without [] ps) (free_words m f p.free)
    pub beside : Beside a m (free_words m f p.free)

  pub release_top_is : (f : ℕ) → ts [] ≡ some f → bare_of m f 512 ≡ true → Shut f
  unfolding release_top
  release_top_is f tf b = record {
    done = rw b;
    tables = give [] f 0 m tf b (record {
      long = refl;
      heads = λ d. record { level = refl; parent = refl; slot = refl; guest = refl };
      words = λ y d j ty hj. g.word y d j (old y d ty) hj ∙ sym (ap (λ o. slot o (lv (j ∷ y))) (upd_other ts [] none (j ∷ y) (λ e. no_empty j y (sym e))));
      links = λ d e. refl;
      top = sym (ap (λ o. slot o 0) (upd_on ts [] none [] refl));
    });
    beside = beside_one a m (free_words m f p.free) f (g.inside [] f tf).0 (frame_small g [] f tf).0 (free_words_length m f p.free) (λ d ne. free_words_else m f p.free d ne);
  }
    where
      old : (y : List ℕ) (d : ℕ) → upd ts [] none y ≡ some d → ts y ≡ some d
      old y d ty = sym (upd_other ts [] none y (λ e. not_some (upd_on ts [] none y e) ty)) ∙ ty

  -- it stays where it is not empty
  pub release_top_not : (f : ℕ) → bare_of m f 512 ≡ false → release_top false p m f ≡ end p (To f) m
  unfolding release_top
  release_top_not f b = rw b
