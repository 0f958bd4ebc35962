-- Tables that are empty are given back, from one table up: every table left has a leaf below it.
use mathlib.Core.Path.{◌≡◌, refl, sym, ap, ◌∙◌, subst}
use mathlib.Core.Logic.{◌⊎◌, inl, inr}
use Prim.Native.Nat.{ℕ, suc, ◌+◌, ◌<◌, ◌≤◌}
use native.Mathlib.Omega.{arith}
use mathlib.Core.Bool.{Bool, true, false}
use mathlib.Core.List.{List, [], ◌∷◌}
use mathlib.Core.Option.{Option, none, some, IsSome}
use lib.Dec.{T}
use lib.ListN.{length}
use Rattle.spec.specs.Entry.{present}
use Rattle.pool.specs.declared.Area.{Area}
use Rattle.pool.specs.declared.Pool.{Pool}
use Rattle.pool.specs.declared.Way.TheVariants.{To, Not}
use Rattle.pool.specs.Header.{level_of, parent_of, bare_of}
use Rattle.pool.specs.Pool.{end, with_top, with_freed, free_words}
use Rattle.prune.specs.Remove.{detach_of, release_top, release_of}
use Rattle.spec_laws.proofs.Distinct.{without}
use Rattle.area_laws.proofs.Change.{differ, eq?, upd, upd_on, upd_other, longer, not_some, is_some}
use Rattle.area_laws.proofs.Stores.{Beside, beside_refl, beside_trans}
use Rattle.area_laws.proofs.Invariant.{slot, present_zero, Tables, Leaf, Exact, rooted}
use Rattle.area_laws.proofs.Shrink.{Busy, bare_false, Unhung, unhung, detach_is, detach_not, release_top_is, release_top_not}
use Rattle.area_laws.proofs.Paths.{Ext, ext_empty, ext_trans, ext_long}
use Rattle.words.specs.After.{After}
use Rattle.pool.specs.declared.Went.{Went}

-- every table but x and its prefixes has a leaf below it
abbrev pub ButAbove : (List ℕ → Option ℕ) → (List ℕ → ℕ) → List ℕ → Type 0
ButAbove ts lv x = (y : List ℕ) → IsSome (ts y) → (y ≡ x) ⊎ Ext y x ⊎ Leaf lv y

-- all have one, or all but the top table
pub exact_but : (stays : Bool) (ts : List ℕ → Option ℕ) (lv : List ℕ → ℕ) (x : List ℕ) → Exact stays ts lv → ButAbove ts lv x
exact_but stays ts lv x ex y k = elim (ex y k) [ inl r ↦ inr (inr r) | inr r ↦ root (ext_empty x) r.0 ]
  where
    root : (x ≡ []) ⊎ Ext [] x → y ≡ [] → (y ≡ x) ⊎ Ext y x ⊎ Leaf lv y
    root (inl u) v = inl (v ∙ sym u)
    root (inr u) v = inr (inl (subst (λ w. Ext w x) (sym v) u))

-- a leaf of the table x is cleared
pub but_clear : (ts : List ℕ → Option ℕ) (lv : List ℕ → ℕ) (x : List ℕ) (i : ℕ) → ButAbove ts lv x → ButAbove ts (upd lv (i ∷ x) 0) x
but_clear ts lv x i all y k = elim (all y k) [
  | inl c ↦ inl c
  | inr c ↦ elim c [ inl r ↦ inr (inl r) | inr r ↦ leaf r (eq? (i ∷ x) r.path) ]
]
  where
    leaf : (r : Leaf lv y) → Dec (i ∷ x ≡ r.path) → (y ≡ x) ⊎ Ext y x ⊎ Leaf (upd lv (i ∷ x) 0) y
    leaf r (yes q) = elim (subst (Ext y) (sym q) r.under) [ inl u ↦ inl u | inr u ↦ inr (inl u) ]
    leaf r (no q) = inr (inr (record { path = r.path; under = r.under; set = λ v. r.set (sym (upd_other lv (i ∷ x) 0 r.path q) ∙ v) }))

-- what a release leaves of the tables ts in the memory m; t is the step
pub record Released (a : Area) (stays : Bool) (p : Pool) (m : List ℕ) (ts : List ℕ → Option ℕ) (lv guest : List ℕ → ℕ) (t : After Went) : Type 0 where
  pub pool : Pool
  pub tabs : List ℕ → Option ℕ
  pub list : List ℕ
  pub pres : List (List ℕ)
  pub memory : List ℕ
  pub frame : ℕ
  pub done : t ≡ end pool (To frame) memory
  pub tables : Tables a pool tabs lv guest list pres memory
  pub exact : Exact stays tabs lv
  pub top : T stays → IsSome (tabs [])
  -- as many frames were handed out as before
  pub fresh : pool.fresh ≡ p.fresh
  pub less : (y : List ℕ) (f : ℕ) → tabs y ≡ some f → ts y ≡ some f
  -- of the frames handed out before, each is no table or one that is left
  pub each : (f : ℕ) → a.base ≤ f → f < a.base + p.fresh → (level_of memory f ≡ 0) ⊎ ((y : List ℕ) × (tabs y ≡ some f))
  pub beside : Beside a m memory

-- ---- the steps of the definition
release_on : (a : Area) (stays : Bool) (p : Pool) (m : List ℕ) (k f : ℕ) (q : Pool) (n : List ℕ) (h : ℕ)
    → detach_of a p m f ≡ end q (To h) n → release_of a stays p m (suc k) f ≡ release_of a stays q n k h
unfolding release_of
release_on a stays p m k f q n h e = rw e

release_end : (a : Area) (stays : Bool) (p : Pool) (m : List ℕ) (k f : ℕ) (q : Pool) (n : List ℕ)
    → detach_of a p m f ≡ end q Not n → release_of a stays p m (suc k) f ≡ end q (To f) n
unfolding release_of
release_end a stays p m k f q n e = rw e

fresh_give : (p : Pool) (f : ℕ) → (with_freed p f).fresh ≡ p.fresh
unfolding with_freed
fresh_give p f = refl

fresh_release_top : (p : Pool) (f : ℕ) → (with_freed (with_top p 0) f).fresh ≡ p.fresh
unfolding with_freed with_top
fresh_release_top p f = refl

module _ {a : Area} {p : Pool} {ts : List ℕ → Option ℕ} {lv guest : List ℕ → ℕ} {fl : List ℕ} {ps : List (List ℕ)} {m : List ℕ}
    (g : Tables a p ts lv guest fl ps m) where
  -- a table that is not empty has a leaf, if those below it have
  pub busy : (x : List ℕ) (h : ℕ) → ts x ≡ some h → bare_of m h 512 ≡ false → ButAbove ts lv x → Leaf lv x
  busy x h e q all = go (ts (j ∷ x)) refl
    where
      k : Busy m h 512
      k = bare_false m h 512 q

      j : ℕ
      j = k.index

      w : present (slot (ts (j ∷ x)) (lv (j ∷ x))) ≡ true
      w = ap present (sym (g.word x h j e k.less)) ∙ k.set

      go : (o : Option ℕ) → ts (j ∷ x) ≡ o → Leaf lv x
      go none c = record {
        path = j ∷ x;
        under = inl refl;
        set = λ z. differ (sym w ∙ ap (λ o. present (slot o (lv (j ∷ x)))) c ∙ ap present z ∙ present_zero);
      }
      go (some d) c = elim (all (j ∷ x) (is_some c)) [
        | inl u ↦ absurd (longer j x (sym u))
        | inr u ↦ elim u [
          | inl r ↦ absurd (let l = ext_long (j ∷ x) x r in omega arith)
          | inr r ↦ record { path = r.path; under = ext_trans x (j ∷ x) r.path (inl refl) r.under; set = r.set }
        ]
      ]

  -- nothing more is given back
  stop : (stays : Bool) (f : ℕ) {t : After Went} → t ≡ end p (To f) m → Exact stays ts lv → IsSome (ts []) → Released a stays p m ts lv guest t
  stop stays f q ex top = record {
    pool = p;
    tabs = ts;
    list = fl;
    pres = ps;
    memory = m;
    frame = f;
    done = q;
    tables = g;
    exact = ex;
    top = λ k. top;
    fresh = refl;
    less = λ y h e. e;
    each = g.each;
    beside = beside_refl a m;
  }

  -- the top table h
  last : (stays : Bool) (h : ℕ) → ts [] ≡ some h → ButAbove ts lv [] → Released a stays p m ts lv guest (release_top stays p m h)
  unfolding release_top
  last true h e all = stop true h refl
      (λ y k. elim (all y k) [ inl c ↦ inr (c, tt) | inr c ↦ elim c [ inl r ↦ absurd r | inr r ↦ inl r ] ]) (is_some e)
  last false h e all = go (bare_of m h 512) refl
    where
      old : (y : List ℕ) (f : ℕ) → upd ts [] none y ≡ some f → Dec ([] ≡ y) → ts y ≡ some f
      old y f c (yes q) = absurd (not_some (upd_on ts [] none y q) c)
      old y f c (no q) = sym (upd_other ts [] none y q) ∙ c

      rest : (y : List ℕ) → IsSome (upd ts [] none y) → Dec ([] ≡ y) → Leaf lv y
      rest y k (yes q) = absurd (subst IsSome (upd_on ts [] none y q) k)
      rest y k (no q) = elim (all y (subst IsSome (upd_other ts [] none y q) k)) [
        | inl c ↦ absurd (q (sym c))
        | inr c ↦ elim c [ inl r ↦ absurd r | inr r ↦ r ]
      ]

      go : (t : Bool) → bare_of m h 512 ≡ t → Released a false p m ts lv guest (release_top false p m h)
      go true b =
          let s = release_top_is g h e b in
          record {
            pool = with_freed (with_top p 0) h;
            tabs = upd ts [] none;
            list = h ∷ fl;
            pres = without [] ps;
            memory = free_words m h p.free;
            frame = h;
            done = s.done;
            tables = s.tables;
            exact = λ y k. inl (rest y k (eq? [] y));
            top = λ k. absurd k;
            fresh = fresh_release_top p h;
            less = λ y f c. old y f c (eq? [] y);
            each = λ f lo hi. s.tables.each f lo (rw fresh_release_top hi);
            beside = s.beside;
          }
      go false b = stop false h (release_top_not g h b)
          (λ y k. elim (all y k) [
            | inl c ↦ inl (subst (Leaf lv) (sym c) (busy [] h e b all))
            | inr c ↦ elim c [ inl r ↦ absurd r | inr r ↦ inl r ]
          ]) (is_some e)

-- from the table f of the prefix x up
pub release_is : {a : Area} {p : Pool} {ts : List ℕ → Option ℕ} {lv guest : List ℕ → ℕ} {fl : List ℕ} {ps : List (List ℕ)} {m : List ℕ}
    → Tables a p ts lv guest fl ps m → (stays : Bool) (x : List ℕ) (f : ℕ) → ts x ≡ some f → ButAbove ts lv x
    → Released a stays p m ts lv guest (release_of a stays p m (length x) f)
unfolding release_of
release_is g stays [] f e all = last g stays f e all
release_is {a = a} {p = p} {ts = ts} {lv = lv} {guest = guest} {m = m} g stays (i ∷ x) f e all = go (bare_of m f 512) refl
    (λ u. release_is {p = with_freed p f} u.tables stays x (parent_of m f) (upd_other ts (i ∷ x) none x (λ q. longer i x (sym q)) ∙ (g.link i x f e).0) (λ y k. rest y k (eq? (i ∷ x) y)))
  where
    rest : (y : List ℕ) → IsSome (upd ts (i ∷ x) none y) → Dec (i ∷ x ≡ y) → (y ≡ x) ⊎ Ext y x ⊎ Leaf lv y
    rest y k (yes q) = absurd (subst IsSome (upd_on ts (i ∷ x) none y q) k)
    rest y k (no q) = elim (all y (subst IsSome (upd_other ts (i ∷ x) none y q) k)) [
      | inl c ↦ absurd (q (sym c))
      | inr c ↦ elim c [ inl r ↦ elim r [ inl d ↦ inl d | inr d ↦ inr (inl d) ] | inr r ↦ inr (inr r) ]
    ]

    fewer : (y : List ℕ) (h : ℕ) → upd ts (i ∷ x) none y ≡ some h → Dec (i ∷ x ≡ y) → ts y ≡ some h
    fewer y h t (yes q) = absurd (not_some (upd_on ts (i ∷ x) none y q) t)
    fewer y h t (no q) = sym (upd_other ts (i ∷ x) none y q) ∙ t

    go : (t : Bool) → bare_of m f 512 ≡ t
        → (Unhung g i x f → Released a stays (with_freed p f) (unhung g f) (upd ts (i ∷ x) none) lv guest (release_of a stays (with_freed p f) (unhung g f) (length x) (parent_of m f)))
        → Released a stays p m ts lv guest (release_of a stays p m (suc (length x)) f)
    go true b ih =
        let u = detach_is g i x f e b in
        let d = ih u in
        record {
          pool = d.pool;
          tabs = d.tabs;
          list = d.list;
          pres = d.pres;
          memory = d.memory;
          frame = d.frame;
          done = release_on a stays p m (length x) f (with_freed p f) (unhung g f) (parent_of m f) u.done ∙ d.done;
          tables = d.tables;
          exact = d.exact;
          top = d.top;
          fresh = d.fresh ∙ fresh_give p f;
          less = λ y h t. fewer y h (d.less y h t) (eq? (i ∷ x) y);
          each = λ h lo hi. d.each h lo (rw fresh_give hi);
          beside = beside_trans u.beside d.beside;
        }
    go false b ih =
        let k = busy g (i ∷ x) f e b all in
        stop g stays f (release_end a stays p m (length x) f p m (detach_not g f b))
        (λ y c. elim (all y c) [
          | inl d ↦ inl (subst (Leaf lv) (sym d) k)
          | inr d ↦ elim d [ inl r ↦ inl (record { path = k.path; under = ext_trans y (i ∷ x) k.path r k.under; set = k.set }) | inr r ↦ inl r ]
        ]) (rooted g (i ∷ x) f e)
