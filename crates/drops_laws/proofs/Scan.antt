-- One scan over the frames handed out drops exactly the leaves under a cut.
-- A path or prefix is written last index first here: i ∷ q is q and then i.
-- Assumes nothing.
use mathlib.Core.Path.{◌≡◌, refl, sym, ap, ◌∙◌, subst}
use mathlib.Core.Logic.{◌≢◌, ◌⊎◌, inl, inr}
use Prim.Native.Nat.{ℕ, zero, suc, ◌+◌, ◌-◌, ◌%◌, ◌<◌, ◌≤◌}
use native.Mathlib.Omega.{arith}
use native.Mathlib.Decide.{ℕ_discrete}
use mathlib.Core.Bool.{Bool, true, false, cond}
use mathlib.Core.List.{List, [], ◌∷◌}
use mathlib.Core.Option.{Option, none, some}
use lib.Dec.{eqb, ltb}
use lib.ListN.{length}
use borrow.Author.Tests.{eqb-true, eqb-false, ne_eqb, lt-ltb, ltb-true, ltb-false}
use Rattle.spec.specs.Config.{Config}
use Rattle.spec.specs.Entry.{present, switch, frame_of}
use Rattle.spec.specs.Refusal.{in_guest_area}
use Rattle.pool.specs.declared.Pool.{Pool}
use Rattle.pool.specs.Header.{entry_at_of, put_entry_of, guest_of, level_of, parent_of, slot_of}
use Rattle.prune.specs.Remove.{release_of}
use Rattle.area_laws.proofs.Change.{differ, eq?, upd, upd_on, upd_other, not_some}
use Rattle.area_laws.proofs.Stores.{Beside, beside_refl, beside_trans, put_head}
use Rattle.area_laws.proofs.Invariant.{slot, inside_is, present_link, switch_link, present_zero, frame_link, Tables, Exact, above, none_last, frame_small, place_fits}
use Rattle.area_laws.proofs.Grow.{clear_leaf, put_beside}
use Rattle.area_laws.proofs.Release.{ButAbove, exact_but, but_clear, Released, release_is}
use Rattle.area_laws.proofs.Whole.{Holds, holds_leaves}
use Rattle.drops.specs.declared.Kind.{Kind}
use Rattle.drops.specs.declared.Kind.TheVariants.{Gone, Leaf, Table}
use Rattle.drops.specs.declared.Cut.{Cut}
use Rattle.drops.specs.declared.Cut.TheVariants.{Word, Names, Slot}
use Rattle.drops.specs.declared.Above.TheVariants.{Met, To}
use Rattle.shadow.specs.Held.{shadow_area}
use Rattle.drops.specs.Cut.{is_leaf, kind_of, cut_of, low_of, end_of, touches_of, link_up_of, up_by, links_up_of}
use Rattle.drops.specs.Drop.{outcome, clear_by, goes_of, clear_one_of, clear_leaves_of, settled_by, settle_of, sweep_of, visit_by, visit_of, scan_from, scan_of}
use Rattle.drops.proofs.Laws.{range_fits}
use Rattle.words.specs.After.{After, yields}
use Rattle.drops.specs.declared.Left.{Left}

abbrev frame_or : Option ℕ → ℕ
frame_or none = 0
frame_or (some f) = f

-- is the entry at a path, or one above it, cut?
abbrev pub under : (List ℕ → Bool) → List ℕ → Bool
under C [] = false
under C (i ∷ q) = cond (C (i ∷ q)) true (under C q)

under_here : (C : List ℕ → Bool) (i : ℕ) (q : List ℕ) → C (i ∷ q) ≡ true → under C (i ∷ q) ≡ true
under_here C i q e = rw e

under_above : (C : List ℕ → Bool) (i : ℕ) (q : List ℕ) → under C q ≡ true → under C (i ∷ q) ≡ true
under_above C i q e = go (C (i ∷ q))
  where
    go : (b : Bool) → cond b true (under C q) ≡ true
    go true = refl
    go false = e

-- the leaves are entries of held paths: each names a frame of the guest area, and has the switch bit exactly if its path is
-- shorter than the levels
pub record Leaves (c : Config) (lv : List ℕ → ℕ) : Type 0 where
  pub area : (y : List ℕ) → lv y ≢ 0 → in_guest_area c (frame_of (lv y)) ≡ true
  pub ends : (y : List ℕ) → lv y ≢ 0 → switch (lv y) ≡ ltb (length y) c.levels

-- ---- what an entry says
abbrev pub kind_at : Option ℕ → ℕ → Kind
kind_at (some f) e = Table f
kind_at none zero = Gone
kind_at none (suc e) = Leaf

module _ {c : Config} {p : Pool} {ts : List ℕ → Option ℕ} {lv guest : List ℕ → ℕ} {fl : List ℕ} {ps : List (List ℕ)} {m : List ℕ}
    (g : Tables (shadow_area c) p ts lv guest fl ps m) (l : Leaves c lv) where
  -- the slot of a path: no table hangs in a table of level 1, and above it a leaf has the switch bit
  pub slot_kind : (y : List ℕ) (lowest : Bool) → (lowest ≡ true → ts y ≡ none) → (lowest ≡ false → length y < c.levels)
      → kind_of c lowest (slot (ts y) (lv y)) ≡ kind_at (ts y) (lv y)
  unfolding kind_of is_leaf
  slot_kind y lowest last short = go (ts y) refl (lv y) refl
    where
      leaf : (v : ℕ) → lv y ≡ v → v ≢ 0 → (b : Bool) → lowest ≡ b → is_leaf b v ≡ true
      leaf v q s true e = refl
      leaf v q s false e = subst (λ u. switch u ≡ true) q (l.ends y (λ u. s (sym q ∙ u)) ∙ lt-ltb _ _ (short e))

      not_lowest : (h : ℕ) → ts y ≡ some h → (b : Bool) → lowest ≡ b → b ≡ false
      not_lowest h q true e = absurd (not_some (last e) q)
      not_lowest h q false e = refl

      go : (o : Option ℕ) → ts y ≡ o → (v : ℕ) → lv y ≡ v → kind_of c lowest (slot o v) ≡ kind_at o v
      go none q zero r = rw present_zero
      go none q (suc v) r =
          let z : suc v ≢ 0 = (λ u. omega arith) in
          let w : lv y ≢ 0 = (λ u. z (sym r ∙ u)) in
          let p : present (suc v) ≡ true = subst (λ u. present u ≡ true) r (g.solid y w) in
          let a : in_guest_area c (frame_of (suc v)) ≡ true = subst (λ u. in_guest_area c (frame_of u) ≡ true) r (l.area y w) in
          rw (p, leaf (suc v) r z lowest refl, a)
      go (some h) q v r =
          rw (
            present_link h,
            not_lowest h q lowest refl,
            switch_link h,
            frame_link h (frame_small g y h q).1,
            inside_is c.hosts c.shadows h (g.inside y h q).0 (frame_small g y h q).0,
          )

  -- an entry of a table of level n
  pub kind_is : (y : List ℕ) (f i n : ℕ) → ts y ≡ some f → n + length y ≡ c.levels → i < 512
      → kind_of c (eqb n 1) (entry_at_of m f i) ≡ kind_at (ts (i ∷ y)) (lv (i ∷ y))
  kind_is y f i n t e b =
      ap (kind_of c (eqb n 1)) (g.word y f i t b)
      ∙ slot_kind (i ∷ y) (eqb n 1) (λ q. let k = g.level y f t in let u = eqb-true n 1 q in none_last g i y f t (omega arith))
      (λ q. let k = g.level y f t in omega (arith, eqb-false n 1 q))

-- ---- where a cut can be
record Range (m : List ℕ) (x : Cut) (f j : ℕ) : Type 0 where
  pub touched : touches_of m x f ≡ true
  pub from : low_of x ≤ j
  pub to : j < end_of x

cut_range : (c : Config) (m : List ℕ) (x : Cut) (f j : ℕ) → j < 512 → cut_of c m x f j ≡ true → Range m x f j
cut_range c m (Names g) f j l e = record { touched = refl; from = omega arith; to = l }
cut_range c m (Word t i) f j l e = go (eqb j (i % 512)) refl e
  where
    go : (b : Bool) → eqb j (i % 512) ≡ b → cond b (eqb (guest_of m f) t.0) false ≡ true → Range m (Word t i) f j
    go true q h = let s = eqb-true j (i % 512) q in record { touched = h; from = omega arith; to = omega arith }
    go false q h = differ (sym h)
cut_range c m (Slot t i) f j l e = go (eqb j (i % 512)) refl e
  where
    go : (b : Bool) → eqb j (i % 512) ≡ b → cond b (eqb f t.0) false ≡ true → Range m (Slot t i) f j
    go true q h = let s = eqb-true j (i % 512) q in record { touched = h; from = omega arith; to = omega arith }
    go false q h = differ (sym h)

-- the cut x is C at each entry of the tables ts, also in a memory that differs in the area of shadow tables; there the headers are right
abbrev pub Cuts : Config → Cut → (List ℕ → Bool) → (List ℕ → Option ℕ) → (List ℕ → ℕ) → List ℕ → Type 0
Cuts c x C ts guest m =
    (n : List ℕ) → Beside (shadow_area c) m n → (y : List ℕ) (f i : ℕ) → ts y ≡ some f → guest_of n f ≡ guest y → level_of n f + length y ≡ c.levels → i < 512
    → cut_of c n x f i ≡ C (i ∷ y)

-- `first`, `before`, `start` and `fresh`: the tables, the leaves, the memory and the frames handed out as the scan begins
module _ (c : Config) (x : Cut) (C : List ℕ → Bool) (guest : List ℕ → ℕ) (first : List ℕ → Option ℕ) (before : List ℕ → ℕ) (start : List ℕ) (fresh : ℕ)
    (cuts : Cuts c x C first guest start) (leaves : Leaves c before) where
  -- ---- where the scan is
  record Now (p : Pool) (ts : List ℕ → Option ℕ) (lv : List ℕ → ℕ) (fl : List ℕ) (ps : List (List ℕ)) (m : List ℕ) : Type 0 where
    pub tables : Tables (shadow_area c) p ts lv guest fl ps m
    pub beside : Beside (shadow_area c) start m
    pub fewer : (y : List ℕ) (f : ℕ) → ts y ≡ some f → first y ≡ some f
    -- only leaves under a cut are gone
    pub less : (y : List ℕ) → (lv y ≡ before y) ⊎ ((lv y ≡ 0) × (under C y ≡ true))
    -- frames are as many as when it began, while a table stands; each is no table or one that stands
    pub same : p.fresh ≡ fresh
    pub each : (f : ℕ) → c.hosts ≤ f → f < c.hosts + fresh → (level_of m f ≡ 0) ⊎ ((y : List ℕ) × (ts y ≡ some f))

  module _ {p : Pool} {ts : List ℕ → Option ℕ} {lv : List ℕ → ℕ} {fl : List ℕ} {ps : List (List ℕ)} {m : List ℕ} (s : Now p ts lv fl ps m) where
    cut_now : (y : List ℕ) (f i : ℕ) → ts y ≡ some f → i < 512 → cut_of c m x f i ≡ C (i ∷ y)
    cut_now y f i t l = cuts m s.beside y f i (s.fewer y f t) (s.tables.guests y f t) (s.tables.level y f t).0 l

    leaves_now : Leaves c lv
    leaves_now = record {
      area = λ y n. subst (λ v. in_guest_area c (frame_of v) ≡ true) (sym (kept y n)) (leaves.area y (λ z. n (kept y n ∙ z)));
      ends = λ y n. subst (λ v. switch v ≡ ltb (length y) c.levels) (sym (kept y n)) (leaves.ends y (λ z. n (kept y n ∙ z)));
    }
      where
        kept : (y : List ℕ) → lv y ≢ 0 → lv y ≡ before y
        kept y n = elim (s.less y) [ inl e ↦ e | inr e ↦ absurd (n e.0) ]

    -- ---- the links up
    up_is : (y : List ℕ) (f : ℕ) → ts y ≡ some f → links_up_of c x m (length y) f ≡ cond (under C y) Met (To (frame_or (ts [])))
    unfolding links_up_of link_up_of
    up_is [] f t = ap (λ o. To (frame_or o)) (sym t)
    up_is (i ∷ y) f t =
        let k = s.tables.link i y f t in
        let e : cut_of c m x (parent_of m f) (slot_of m f) ≡ C (i ∷ y) = ap (cut_of c m x (parent_of m f)) k.1 ∙ cut_now y (parent_of m f) i k.0 (above s.tables i y f t).index in
        rw (inside_is c.hosts c.shadows (parent_of m f) (s.tables.inside y (parent_of m f) k.0).0 (frame_small s.tables y (parent_of m f) k.0).0, e)
        (go (C (i ∷ y)) (up_is y (parent_of m f) k.0))
      where
        go : (b : Bool) → links_up_of c x m (length y) (parent_of m f) ≡ cond (under C y) Met (To (frame_or (ts [])))
            → up_by (cond b Met (To (parent_of m f))) (links_up_of c x m (length y)) ≡ cond (cond b true (under C y)) Met (To (frame_or (ts [])))
        go true h = refl
        go false h = h

  -- ---- leaves of the table of y are cleared: those from lo on, below hi, that are cut, or all
  record Swept (p : Pool) (ts : List ℕ → Option ℕ) (lv : List ℕ → ℕ) (fl : List ℕ) (ps : List (List ℕ)) (y : List ℕ) (all : Bool) (lo hi : ℕ) (t : After Bool) : Type 0 where
    pub left : List ℕ → ℕ
    pub memory : List ℕ
    pub done : t ≡ yields true memory
    pub now : Now p ts left fl ps memory
    pub but : ButAbove ts left y
    pub still : (z : List ℕ) → lv z ≡ 0 → left z ≡ 0
    pub gone : (j : ℕ) → lo ≤ j → j < hi → (all ≡ true) ⊎ (C (j ∷ y) ≡ true) → left (j ∷ y) ≡ 0

  module _ {p : Pool} {ts : List ℕ → Option ℕ} {fl : List ℕ} {ps : List (List ℕ)} (y : List ℕ) (f n : ℕ) (all : Bool) (t : ts y ≡ some f) (e : n + length y ≡ c.levels)
      (a : all ≡ true → under C y ≡ true) where
    one_is : {lv : List ℕ → ℕ} {m : List ℕ} → Now p ts lv fl ps m → ButAbove ts lv y → (i : ℕ) → i < 512
        → Swept p ts lv fl ps y all i (i + 1) (clear_one_of c x all (eqb n 1) f m i)
    unfolding clear_one_of goes_of
    one_is {lv = lv} {m = m} s but i l =
        rw (kind_is s.tables (leaves_now s) y f i n t e l) (go (ts (i ∷ y)) refl (lv (i ∷ y)) refl)
      where
        stay : (lv (i ∷ y) ≡ 0) ⊎ ((all ≡ false) × (C (i ∷ y) ≡ false)) → Swept p ts lv fl ps y all i (i + 1) (yields true m)
        stay h = record {
          left = lv;
          memory = m;
          done = refl;
          now = s;
          but = but;
          still = λ z q. q;
          gone = λ j lo hi q. let u : i ≡ j = omega arith in subst (λ z. (all ≡ true) ⊎ (C (z ∷ y) ≡ true) → lv (z ∷ y) ≡ 0) u none_goes q;
        }
          where
            none_goes : (all ≡ true) ⊎ (C (i ∷ y) ≡ true) → lv (i ∷ y) ≡ 0
            none_goes q = elim h [
              | inl z ↦ z
              | inr z ↦ elim q [ inl w ↦ differ (sym w ∙ z.0) | inr w ↦ differ (sym w ∙ z.1) ]
            ]

        clear : ts (i ∷ y) ≡ none → under C (i ∷ y) ≡ true → Swept p ts lv fl ps y all i (i + 1) (yields true (put_entry_of m f i 0))
        clear bare u = record {
          left = upd lv (i ∷ y) 0;
          memory = put_entry_of m f i 0;
          done = refl;
          now = record {
            tables = clear_leaf s.tables f i y t l bare;
            beside = beside_trans s.beside (put_beside s.tables f i y 0 t l);
            fewer = s.fewer;
            less = λ z. lesser z (eq? (i ∷ y) z);
            same = s.same;
            each = λ d lo hi. rw (put_head m f i 0 d (place_fits s.tables y f i t l)).level (s.each d lo hi);
          };
          but = but_clear ts lv y i but;
          still = λ z q. zero_still z q (eq? (i ∷ y) z);
          gone = λ j lo hi q. let v : i ≡ j = omega arith in upd_on lv (i ∷ y) 0 (j ∷ y) (ap (λ z. z ∷ y) v);
        }
          where
            lesser : (z : List ℕ) → Dec (i ∷ y ≡ z) → (upd lv (i ∷ y) 0 z ≡ before z) ⊎ ((upd lv (i ∷ y) 0 z ≡ 0) × (under C z ≡ true))
            lesser z (yes q) = inr (upd_on lv (i ∷ y) 0 z q, subst (λ z. under C z ≡ true) q u)
            lesser z (no q) = let k = upd_other lv (i ∷ y) 0 z q in elim (s.less z) [ inl v ↦ inl (k ∙ v) | inr v ↦ inr (k ∙ v.0, v.1) ]

            zero_still : (z : List ℕ) → lv z ≡ 0 → Dec (i ∷ y ≡ z) → upd lv (i ∷ y) 0 z ≡ 0
            zero_still z q (yes k) = upd_on lv (i ∷ y) 0 z k
            zero_still z q (no k) = upd_other lv (i ∷ y) 0 z k ∙ q

        leaf : ts (i ∷ y) ≡ none → (b d : Bool) → all ≡ b → C (i ∷ y) ≡ d → Swept p ts lv fl ps y all i (i + 1) (yields true (cond (cond b true d) (put_entry_of m f i 0) m))
        leaf bare true d q k = clear bare (under_above C i y (a q))
        leaf bare false true q k = clear bare (under_here C i y k)
        leaf bare false false q k = stay (inr (q, k))

        go : (o : Option ℕ) → ts (i ∷ y) ≡ o → (v : ℕ) → lv (i ∷ y) ≡ v → Swept p ts lv fl ps y all i (i + 1) (clear_by (kind_at o v) m (goes_of c m x all f i) f i)
        go none q zero k = stay (inl k)
        go none q (suc v) k = rw (cut_now s y f i t l) (leaf q all (C (i ∷ y)) refl refl)
        go (some d) q v k = stay (inl (s.tables.plain (i ∷ y) d q))

    clear_is : {lv : List ℕ → ℕ} {m : List ℕ} → Now p ts lv fl ps m → ButAbove ts lv y → (k i : ℕ) → i + k ≤ 512
        → Swept p ts lv fl ps y all i (i + k) (clear_leaves_of c x all (eqb n 1) f k i m)
    unfolding clear_leaves_of
    clear_is {lv = lv} {m = m} s but zero i l = record {
      left = lv;
      memory = m;
      done = refl;
      now = s;
      but = but;
      still = λ z q. q;
      gone = λ j lo hi q. absurd (omega arith);
    }
    clear_is {lv = lv} {m = m} s but (suc k) i l =
        let o = one_is s but i (omega arith) in
        let w = clear_is {lv = o.left} {m = o.memory} o.now o.but k (suc i) (omega arith) in
        rw o.done record {
          left = w.left;
          memory = w.memory;
          done = w.done;
          now = w.now;
          but = w.but;
          still = λ z q. w.still z (o.still z q);
          gone = λ j lo hi q. both j lo hi q o.left o.gone w.left w.still w.gone (ℕ_discrete i j);
        }
      where
        both : (j : ℕ) → i ≤ j → j < i + suc k → (all ≡ true) ⊎ (C (j ∷ y) ≡ true) → (lw : List ℕ → ℕ)
            → ((j : ℕ) → i ≤ j → j < i + 1 → (all ≡ true) ⊎ (C (j ∷ y) ≡ true) → lw (j ∷ y) ≡ 0) → (lx : List ℕ → ℕ) → ((z : List ℕ) → lw z ≡ 0 → lx z ≡ 0)
            → ((j : ℕ) → suc i ≤ j → j < suc i + k → (all ≡ true) ⊎ (C (j ∷ y) ≡ true) → lx (j ∷ y) ≡ 0) → Dec (i ≡ j) → lx (j ∷ y) ≡ 0
        both j lo hi q lw g lx st h (yes u) = st (j ∷ y) (g j lo (omega arith) q)
        both j lo hi q lw g lx st h (no u) = h j (omega (arith, u)) (omega arith) q

  -- ---- what is left after some frames were visited
  record Visited (p : Pool) (ts : List ℕ → Option ℕ) (lv : List ℕ → ℕ) (f : ℕ) (t : After Left) : Type 0 where
    pub pool : Pool
    pub tabs : List ℕ → Option ℕ
    pub left : List ℕ → ℕ
    pub list : List ℕ
    pub pres : List (List ℕ)
    pub memory : List ℕ
    pub done : t ≡ outcome pool true memory
    pub now : Now pool tabs left list pres memory
    pub exact : Exact false tabs left
    pub fewer : (y : List ℕ) (d : ℕ) → tabs y ≡ some d → ts y ≡ some d
    pub still : (z : List ℕ) → lv z ≡ 0 → left z ≡ 0
    -- in the table of frame f no leaf is under a cut
    pub clean : (y : List ℕ) (j : ℕ) → tabs y ≡ some f → left (j ∷ y) ≢ 0 → under C (j ∷ y) ≡ false

  module _ {p : Pool} {ts : List ℕ → Option ℕ} {lv : List ℕ → ℕ} {fl : List ℕ} {ps : List (List ℕ)} {m : List ℕ} (s : Now p ts lv fl ps m) (ex : Exact false ts lv) where
    idle : (f : ℕ) → ((y : List ℕ) (j : ℕ) → ts y ≡ some f → lv (j ∷ y) ≢ 0 → under C (j ∷ y) ≡ false) → Visited p ts lv f (outcome p true m)
    idle f d = record {
      pool = p;
      tabs = ts;
      left = lv;
      list = fl;
      pres = ps;
      memory = m;
      done = refl;
      now = s;
      exact = ex;
      fewer = λ y d e. e;
      still = λ z q. q;
      clean = d;
    }

    -- an index at which a leaf stands
    index : (j : ℕ) (y : List ℕ) (lw : List ℕ → ℕ) → ((i : ℕ) (x : List ℕ) → 512 ≤ i → lw (i ∷ x) ≡ 0) → lw (j ∷ y) ≢ 0 → j < 512
    index j y lw narrow h = go (ltb j 512) refl
      where
        go : (b : Bool) → ltb j 512 ≡ b → j < 512
        go true q = ltb-true j 512 q
        go false q = absurd (h (narrow j y (ltb-false j 512 q)))

    sweep_is : (y : List ℕ) (f n i k : ℕ) (all : Bool) → ts y ≡ some f → n + length y ≡ c.levels → i + k ≤ 512 → (all ≡ true → under C y ≡ true)
        → ((j : ℕ) → j < 512 → under C (j ∷ y) ≡ true → (i ≤ j) × (j < i + k) × ((all ≡ true) ⊎ (C (j ∷ y) ≡ true)))
        → Visited p ts lv f (sweep_of c x all n f k i p m)
    unfolding sweep_of settle_of
    sweep_is y f n i k all t e l a cover = go (clear_is y f n all t e a s (exact_but false ts lv y ex) k i l)
      where
        go : Swept p ts lv fl ps y all i (i + k) (clear_leaves_of c x all (eqb n 1) f k i m) → Visited p ts lv f (sweep_of c x all n f k i p m)
        go w = let u : c.levels - n ≡ length y = omega arith in rw (w.done, u) (next (release_is w.now.tables false y f t w.but))
          where
            next : (r : Released (shadow_area c) false p w.memory ts w.left guest (release_of (shadow_area c) false p w.memory (length y) f))
                → Visited p ts lv f (let t = release_of (shadow_area c) false p w.memory (length y) f in settled_by t.result.way t.result.pool t.memory)
            next r = rw r.done record {
              pool = r.pool;
              tabs = r.tabs;
              left = w.left;
              list = r.list;
              pres = r.pres;
              memory = r.memory;
              done = refl;
              now = record {
                tables = r.tables;
                beside = beside_trans w.now.beside r.beside;
                fewer = λ z d q. s.fewer z d (r.less z d q);
                less = w.now.less;
                same = r.fresh ∙ frames;
                each = λ d lo hi. r.each d lo (rw frames hi);
              };
              exact = r.exact;
              fewer = r.less;
              still = w.still;
              clean = λ z j tz h. clean z j (r.less z f tz) h (under C (j ∷ z)) refl;
            }
              where
                frames : p.fresh ≡ fresh
                frames = s.same

                clean : (z : List ℕ) (j : ℕ) → ts z ≡ some f → w.left (j ∷ z) ≢ 0 → (b : Bool) → under C (j ∷ z) ≡ b → b ≡ false
                clean z j tz h false q = refl
                clean z j tz h true q =
                    let o : z ≡ y = s.tables.inj z y f tz t in
                    let v = cover j (index j z w.left w.now.tables.narrow h) (subst (λ z. under C (j ∷ z) ≡ true) o q) in
                    absurd (h (ap (λ z. w.left (j ∷ z)) o ∙ w.gone j v.0 v.1 v.2))

    visit_is : (f : ℕ) → c.hosts ≤ f → f < c.hosts + fresh → Visited p ts lv f (visit_of c x p m f)
    unfolding visit_of
    visit_is f lo hi = elim (s.each f lo hi) [ inl z ↦ free z | inr z ↦ table z.0 z.1 ]
      where
        free : level_of m f ≡ 0 → Visited p ts lv f (visit_of c x p m f)
        free e = rw e (idle f (λ y j t h. absurd (let k = s.tables.level y f t in omega arith)))

        table : (y : List ℕ) → ts y ≡ some f → Visited p ts lv f (visit_of c x p m f)
        table y t =
            let k = s.tables.level y f t in
            let e : c.levels - level_of m f ≡ length y = omega arith in
            rw (ne_eqb (level_of m f) 0 (λ z. omega arith), e, up_is s y f t) (by (under C y) refl)
          where
            by : (b : Bool) → under C y ≡ b → Visited p ts lv f (visit_by (cond b Met (To (frame_or (ts [])))) c x (level_of m f) f p m)
            by true e = sweep_is y f (level_of m f) 0 512 true t (s.tables.level y f t).0 (omega arith) (λ z. e) (λ j l z. (omega arith, l, inl refl))
            by false e = touch (touches_of m x f) refl
              where
                here : (j : ℕ) → under C (j ∷ y) ≡ true → C (j ∷ y) ≡ true
                here j z = go (C (j ∷ y)) z
                  where
                    go : (b : Bool) → cond b true (under C y) ≡ true → b ≡ true
                    go true h = refl
                    go false h = differ (sym h ∙ e)

                range : (j : ℕ) → j < 512 → under C (j ∷ y) ≡ true → Range m x f j
                range j l z = cut_range c m x f j l (cut_now s y f j t l ∙ here j z)

                touch : (b : Bool) → touches_of m x f ≡ b → Visited p ts lv f (cond b (sweep_of c x false (level_of m f) f (end_of x - low_of x) (low_of x) p m) (outcome p true m))
                touch true q =
                    let r = range_fits x in
                    sweep_is y f (level_of m f) (low_of x) (end_of x - low_of x) false t (s.tables.level y f t).0 (omega arith) (λ z. differ (sym z))
                    (λ j l z. ((range j l z).from, omega (arith, (range j l z).to), inr (here j z)))
                touch false q = idle f (λ z j tz h. clean z j tz h (under C (j ∷ z)) refl)
                  where
                    clean : (z : List ℕ) (j : ℕ) → ts z ≡ some f → lv (j ∷ z) ≢ 0 → (b : Bool) → under C (j ∷ z) ≡ b → b ≡ false
                    clean z j tz h false v = refl
                    clean z j tz h true v =
                        let o : z ≡ y = s.tables.inj z y f tz t in
                        differ (sym (range j (index j z lv s.tables.narrow h) (subst (λ z. under C (j ∷ z) ≡ true) o v)).touched ∙ q)

  -- ---- all frames
  record Scanned (t : After Left) : Type 0 where
    pub pool : Pool
    pub tabs : List ℕ → Option ℕ
    pub left : List ℕ → ℕ
    pub list : List ℕ
    pub pres : List (List ℕ)
    pub memory : List ℕ
    pub done : t ≡ outcome pool true memory
    pub now : Now pool tabs left list pres memory
    pub exact : Exact false tabs left
    pub clean : (y : List ℕ) (f j : ℕ) → tabs y ≡ some f → left (j ∷ y) ≢ 0 → under C (j ∷ y) ≡ false

  from_is : (k i : ℕ) {p : Pool} {ts : List ℕ → Option ℕ} {lv : List ℕ → ℕ} {fl : List ℕ} {ps : List (List ℕ)} {m : List ℕ} → Now p ts lv fl ps m → Exact false ts lv → i + k ≡ fresh
      → ((y : List ℕ) (f j : ℕ) → ts y ≡ some f → f < c.hosts + i → lv (j ∷ y) ≢ 0 → under C (j ∷ y) ≡ false)
      → Scanned (scan_from c x k i p m)
  unfolding scan_from
  from_is zero i {p} {ts} {lv} {fl} {ps} {m} s ex e clean = record {
    pool = p;
    tabs = ts;
    left = lv;
    list = fl;
    pres = ps;
    memory = m;
    done = refl;
    now = s;
    exact = ex;
    clean = λ y f j t h. clean y f j t (let q = s.same in let k = s.tables.inside y f t in omega arith) h;
  }
  from_is (suc k) i {p} {ts} {lv} {fl} {ps} {m} s ex e clean =
      next (visit_is s ex (c.hosts + i) (omega arith) (omega arith)) (λ q us lw gl qs n r er d. from_is k (suc i) {p = q} {ts = us} {lv = lw} {fl = gl} {ps = qs} {m = n} r er (omega arith) d)
    where
      next : Visited p ts lv (c.hosts + i) (visit_of c x p m (c.hosts + i))
          → ((q : Pool) (us : List ℕ → Option ℕ) (lw : List ℕ → ℕ) (gl : List ℕ) (qs : List (List ℕ)) (n : List ℕ) → Now q us lw gl qs n → Exact false us lw
          → ((y : List ℕ) (f j : ℕ) → us y ≡ some f → f < c.hosts + suc i → lw (j ∷ y) ≢ 0 → under C (j ∷ y) ≡ false) → Scanned (scan_from c x k (suc i) q n))
          → Scanned (scan_from c x (suc k) i p m)
      next w ih = rw w.done (ih w.pool w.tabs w.left w.list w.pres w.memory w.now w.exact (λ y f j t l h. seen y f j t l h (ℕ_discrete f (c.hosts + i))))
        where
          seen : (y : List ℕ) (f j : ℕ) → w.tabs y ≡ some f → f < c.hosts + suc i → w.left (j ∷ y) ≢ 0 → Dec (f ≡ c.hosts + i) → under C (j ∷ y) ≡ false
          seen y f j t l h (yes q) = w.clean y j (t ∙ ap some q) h
          seen y f j t l h (no q) = clean y f j (w.fewer y f t) (omega (arith, q)) (λ z. h (w.still (j ∷ y) z))

-- ---- what a drop leaves, and what it does not touch
pub record Dropped (c : Config) (m : List ℕ) (lv guest : List ℕ → ℕ) (t : After Left) : Type 0 where
  pub pool : Pool
  pub memory : List ℕ
  pub done : t ≡ outcome pool true memory
  pub holds : Holds (shadow_area c) false pool memory lv guest
  pub beside : Beside (shadow_area c) m memory

-- the leaves under a cut go, and no other
pub scan_drops : {c : Config} {p : Pool} {m : List ℕ} {lv guest : List ℕ → ℕ} (h : Holds (shadow_area c) false p m lv guest) (x : Cut) (C : List ℕ → Bool) → Leaves c lv
    → Cuts c x C h.tabs guest m → Dropped c m (λ q. cond (under C q) 0 (lv q)) guest (scan_of c x p m)
unfolding scan_of
scan_drops {c = c} {p = p} {m = m} {lv = lv} {guest = guest} h x C leaves cuts =
    leave (from_is c x C guest h.tabs lv m p.fresh cuts leaves p.fresh 0 begin h.exact (omega arith)
    (λ y f j t l k. absurd (let i = h.tables.inside y f t in omega arith)))
  where
    begin : Now c x C guest h.tabs lv m p.fresh cuts leaves p h.tabs lv h.list h.pres m
    begin = record {
      tables = h.tables;
      beside = beside_refl (shadow_area c) m;
      fewer = λ y f t. t;
      less = λ y. inl refl;
      same = refl;
      each = h.tables.each;
    }

    leave : Scanned c x C guest h.tabs lv m p.fresh cuts leaves (scan_from c x p.fresh 0 p m) → Dropped c m (λ q. cond (under C q) 0 (lv q)) guest (scan_from c x p.fresh 0 p m)
    leave s = record {
      pool = s.pool;
      memory = s.memory;
      done = s.done;
      holds = holds_leaves (record { tabs = s.tabs; list = s.list; pres = s.pres; tables = s.now.tables; exact = s.exact; top = λ k. absurd k })
          (λ q. cond (under C q) 0 (lv q)) (λ y. is y (under C y) refl);
      beside = s.now.beside;
    }
      where
        is : (y : List ℕ) (b : Bool) → under C y ≡ b → s.left y ≡ cond b 0 (lv y)
        is y false e = elim (s.now.less y) [ inl z ↦ z | inr z ↦ differ (sym z.1 ∙ e) ]
        is [] true e = s.now.tables.root
        is (j ∷ y) true e = zeros (ℕ_discrete (s.left (j ∷ y)) 0) (s.tabs y) refl
          where
            zeros : Dec (s.left (j ∷ y) ≡ 0) → (o : Option ℕ) → s.tabs y ≡ o → s.left (j ∷ y) ≡ 0
            zeros (yes z) o q = z
            zeros (no z) none q = s.now.tables.below j y q
            zeros (no z) (some f) q = differ (sym e ∙ s.clean y f j q z)
