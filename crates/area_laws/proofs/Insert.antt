-- An insert by paths: exactly the missing prefixes get tables, that leaf is set, nothing else changes.
use mathlib.Core.Path.{◌≡◌, refl, sym, ap, ap₂, ◌∙◌, subst}
use mathlib.Core.Logic.{◌≢◌, ◌⊎◌, inl, inr}
use Prim.Native.Nat.{ℕ, suc, ◌+◌, ◌-◌, ◌<◌, ◌≤◌}
use native.Mathlib.Omega.{arith}
use mathlib.Core.Bool.{true}
use mathlib.Core.List.{List, [], ◌∷◌}
use mathlib.Core.Option.{Option, none, some, IsSome}
use lib.ListN.{length, get_or}
use Rattle.spec.specs.Entry.{present, entry_limit}
use Rattle.pool.specs.declared.Area.{Area}
use Rattle.pool.specs.declared.Pool.{Pool}
use Rattle.pool.specs.declared.Way.TheVariants.{To, Not}
use Rattle.pool.specs.Header.{entry_at_of, put_entry_of}
use Rattle.pool.specs.Pool.{follow_of, end}
use Rattle.area.specs.Tree.{room_of, enter_of, attach_of, descend_of, down_of, place_of, insert_of}
use Rattle.area_laws.proofs.Change.{eq?, upd, upd_on, upd_at, upd_other, not_some, is_some}
use Rattle.area_laws.proofs.Stores.{Beside, beside_trans}
use Rattle.area_laws.proofs.Invariant.{slot, follow_zero, Tables, follow_table}
use Rattle.area_laws.proofs.Grow.{Hung, attach_is, enter_is, set_leaf, put_beside}
use Rattle.area_laws.proofs.Paths.{onto, onto_other, Small, Pre, Clear, Guests}
use Rattle.area_laws.proofs.Find.{lacks, lacks_upd, lacks_some, lacks_none, lacks_leaf, room_fits, room_full}
use Rattle.words.specs.After.{After}
use Rattle.pool.specs.declared.Went.{Went}

-- a path that may be inserted: from the prefix x on by the indexes; its tables are named by the list of guest frames
pub record Route (a : Area) (ts : List ℕ → Option ℕ) (lv guest : List ℕ → ℕ) (gs : List ℕ) (x is : List ℕ) : Type 0 where
  pub small : Small is
  pub clear : Clear lv x is  -- no leaf on the way
  pub bare : ts (onto x is) ≡ none  -- no table at the end
  pub short : length x + length is ≤ a.levels
  pub gives : Guests guest gs (length x) x is

route_tail : {a : Area} {ts : List ℕ → Option ℕ} {lv guest : List ℕ → ℕ} {gs : List ℕ} (x : List ℕ) (i : ℕ) (is : List ℕ)
    → Route a ts lv guest gs x (i ∷ is) → Route a ts lv guest gs (i ∷ x) is
unfolding onto
route_tail {guest = guest} {gs = gs} x i is r = record {
  small = r.small.1;
  clear = r.clear.1;
  bare = r.bare;
  short = let s = r.short in omega arith;
  gives = let z : length x + 1 ≡ suc (length x) = omega arith in subst (λ d. Guests guest gs d (i ∷ x) is) z r.gives.2;
}

-- the same once the table of x stands
route_upd : {a : Area} {ts : List ℕ → Option ℕ} {lv guest : List ℕ → ℕ} {gs : List ℕ} (x : List ℕ) (i : ℕ) (is : List ℕ) (o : Option ℕ)
    → Route a ts lv guest gs (i ∷ x) is → Route a (upd ts x o) lv guest gs (i ∷ x) is
route_upd {ts = ts} x i is o r = record {
  small = r.small;
  clear = r.clear;
  bare = upd_other ts x o (onto (i ∷ x) is) (onto_other (i ∷ x) is x (omega arith)) ∙ r.bare;
  short = r.short;
  gives = r.gives;
}

-- what putting an entry at the end of a path leaves: t is the step, x and the indexes the path from where it starts
pub record Placed (a : Area) (p : Pool) (m : List ℕ) (ts : List ℕ → Option ℕ) (lv guest : List ℕ → ℕ) (t : After Went) (x is : List ℕ) (e : ℕ) : Type 0 where
  pub pool : Pool
  pub tabs : List ℕ → Option ℕ
  pub list : List ℕ
  pub pres : List (List ℕ)
  pub memory : List ℕ
  pub frame : ℕ
  pub done : t ≡ end pool (To frame) memory
  pub tables : Tables a pool tabs (upd lv (onto x is) e) guest list pres memory
  pub used : pool.used ≡ p.used + lacks ts x is
  pub kept : (y : List ℕ) (f : ℕ) → ts y ≡ some f → tabs y ≡ some f
  pub added : (y : List ℕ) → Pre y x is → IsSome (tabs y)
  pub grown : (y : List ℕ) → IsSome (tabs y) → IsSome (ts y) ⊎ Pre y x is
  pub beside : Beside a m memory

-- on from a table that stands, and from one just handed out
module _ {a : Area} {p : Pool} {m : List ℕ} {ts : List ℕ → Option ℕ} {lv guest : List ℕ → ℕ} {t : After Went} (x : List ℕ) (i : ℕ) (is : List ℕ) (e : ℕ) (h : ℕ) where
  placed_old : ts x ≡ some h → {u : After Went} → t ≡ u → Placed a p m ts lv guest u (i ∷ x) is e → Placed a p m ts lv guest t x (i ∷ is) e
  unfolding onto
  placed_old tx q d = record {
    pool = d.pool;
    tabs = d.tabs;
    list = d.list;
    pres = d.pres;
    memory = d.memory;
    frame = d.frame;
    done = q ∙ d.done;
    tables = d.tables;
    used = d.used ∙ ap (λ k. p.used + k) (sym (lacks_some ts x i is h tx));
    kept = d.kept;
    added = λ y k. elim k [ inl c ↦ subst (λ z. IsSome (d.tabs z)) (sym c) (is_some (d.kept x h tx)) | inr c ↦ d.added y c ];
    grown = λ y k. elim (d.grown y k) [ inl c ↦ inl c | inr c ↦ inr (inr c) ];
    beside = d.beside;
  }

  placed_new : ts x ≡ none → {q : Pool} {n : List ℕ} → q.used ≡ p.used + 1 → Beside a m n → {u : After Went} → t ≡ u
      → Placed a q n (upd ts x (some h)) lv guest u (i ∷ x) is e → Placed a p m ts lv guest t x (i ∷ is) e
  unfolding onto
  placed_new tx more b q d = record {
    pool = d.pool;
    tabs = d.tabs;
    list = d.list;
    pres = d.pres;
    memory = d.memory;
    frame = d.frame;
    done = q ∙ d.done;
    tables = d.tables;
    used =
        let k = d.used in
        let v = lacks_upd ts x (some h) (i ∷ x) is (omega arith) in
        let n = lacks_none ts x i is tx in
        omega (arith, more);
    kept = λ y f ty. d.kept y f (upd_other ts x (some h) y (λ c. not_some (ap ts (sym c) ∙ tx) ty) ∙ ty);
    added = λ y k. elim k [ inl c ↦ is_some (d.kept y h (upd_on ts x (some h) y (sym c))) | inr c ↦ d.added y c ];
    grown = λ y k. grew y (d.grown y k) (eq? x y);
    beside = beside_trans b d.beside;
  }
    where
      grew : (y : List ℕ) → IsSome (upd ts x (some h) y) ⊎ Pre y (i ∷ x) is → Dec (x ≡ y) → IsSome (ts y) ⊎ ((y ≡ x) ⊎ Pre y (i ∷ x) is)
      grew y k (yes c) = inr (inl (sym c))
      grew y (inl k) (no c) = inl (subst IsSome (upd_other ts x (some h) y c) k)
      grew y (inr k) (no c) = inr (inr k)

-- ---- the steps of the definition
down_on : (a : Area) (gs : List ℕ) (p : Pool) (m : List ℕ) (d f i j : ℕ) (is : List ℕ) (e : ℕ) (q : Pool) (n : List ℕ) (h : ℕ)
    → descend_of a p m (get_or gs (d + 1) 0) (a.levels - (d + 1)) f i ≡ end q (To h) n → down_of a gs p m d f i (j ∷ is) e ≡ down_of a gs q n (d + 1) h j is e
unfolding down_of
down_on a gs p m d f i j is e q n h c = rw c

descend_old : (a : Area) (p : Pool) (m : List ℕ) (gu l f i h : ℕ) → follow_of a.base a.size (entry_at_of m f i) ≡ To h → descend_of a p m gu l f i ≡ end p (To h) m
unfolding descend_of
descend_old a p m gu l f i h c = rw c

descend_new : (a : Area) (p : Pool) (m : List ℕ) (gu l f i : ℕ) → follow_of a.base a.size (entry_at_of m f i) ≡ Not → descend_of a p m gu l f i ≡ attach_of a p m gu l f i
unfolding descend_of
descend_new a p m gu l f i c = rw c

place_on : (a : Area) (gs : List ℕ) (p : Pool) (m : List ℕ) (i : ℕ) (is : List ℕ) (e : ℕ) (q : Pool) (n : List ℕ) (h : ℕ)
    → enter_of a p m (get_or gs 0 0) ≡ end q (To h) n → place_of a gs p m i is e ≡ down_of a gs q n 0 h i is e
unfolding place_of
place_on a gs p m i is e q n h c = rw c

enter_old : (a : Area) (p : Pool) (m : List ℕ) (gu f : ℕ) → follow_of a.base a.size p.top ≡ To f → enter_of a p m gu ≡ end p (To f) m
unfolding enter_of
enter_old a p m gu f e = rw e

-- where there is room an insert is a placing
pub insert_place : (a : Area) (gs : List ℕ) (p : Pool) (m : List ℕ) (i : ℕ) (is : List ℕ) (e n : ℕ) → room_of a p m (i ∷ is) ≡ To n → insert_of a gs p m (i ∷ is) e ≡ place_of a gs p m i is e
unfolding insert_of
insert_place a gs p m i is e n c = rw c

-- ---- down from the table f of the prefix x, of depth d
down_is : {a : Area} {p : Pool} {ts : List ℕ → Option ℕ} {lv guest : List ℕ → ℕ} {fl : List ℕ} {ps : List (List ℕ)} {m : List ℕ}
    → Tables a p ts lv guest fl ps m → (gs : List ℕ) (x : List ℕ) (d f i : ℕ) (is : List ℕ) (e : ℕ) → d ≡ length x → ts x ≡ some f → i < 512
    → Route a ts lv guest gs (i ∷ x) is → e < entry_limit → present e ≡ true
    → p.used + lacks ts (i ∷ x) is ≤ a.size → Placed a p m ts lv guest (down_of a gs p m d f i is e) (i ∷ x) is e
unfolding down_of onto lacks
down_is {p = p} {ts = ts} {fl = fl} {ps = ps} {m = m} g gs x d f i [] e dx tx hi r thin set room = record {
  pool = p;
  tabs = ts;
  list = fl;
  pres = ps;
  memory = put_entry_of m f i e;
  frame = f;
  done = refl;
  tables = set_leaf g f i x e tx hi r.bare thin set;
  used = omega arith;
  kept = λ y h ty. ty;
  added = λ y k. absurd k;
  grown = λ y k. inl k;
  beside = put_beside g f i x e tx hi;
}
down_is {a = a} {p = p} {ts = ts} {lv = lv} {guest = guest} {fl = fl} {ps = ps} {m = m} g gs x d f i (j ∷ is) e dx tx hi r thin set room = go (ts (i ∷ x)) refl
    (λ h c. down_is g gs (i ∷ x) (d + 1) h j is e (omega arith) c r.small.0 (route_tail (i ∷ x) j is r) thin set
    (subst (λ k. p.used + k ≤ a.size) (lacks_some ts (i ∷ x) j is h c) room))
    (λ u c. down_is {p = u.pool} u.tables gs (i ∷ x) (d + 1) u.frame j is e (omega arith) (upd_at ts (i ∷ x) (some u.frame)) r.small.0
    (route_upd (i ∷ x) j is (some u.frame) (route_tail (i ∷ x) j is r)) thin set
    (let k = u.used in let n = lacks_none ts (i ∷ x) j is c in let v = lacks_upd ts (i ∷ x) (some u.frame) (j ∷ i ∷ x) is (omega arith) in omega (arith, room)))
  where
    word : entry_at_of m f i ≡ slot (ts (i ∷ x)) (lv (i ∷ x))
    word = g.word x f i tx hi

    step : (q : Pool) (h : ℕ) (n : List ℕ) → descend_of a p m (guest (i ∷ x)) (a.levels - length (i ∷ x)) f i ≡ end q (To h) n
        → down_of a gs p m d f i (j ∷ is) e ≡ down_of a gs q n (d + 1) h j is e
    step q h n c =
        let z : d + 1 ≡ length (i ∷ x) = omega arith in
        let w : get_or gs (d + 1) 0 ≡ guest (i ∷ x) = ap (λ k. get_or gs k 0) z ∙ r.gives.0 in
        down_on a gs p m d f i j is e q n h (ap₂ (λ k l. descend_of a p m k (a.levels - l) f i) w z ∙ c)

    go : (o : Option ℕ) → ts (i ∷ x) ≡ o
        → ((h : ℕ) → ts (i ∷ x) ≡ some h → Placed a p m ts lv guest (down_of a gs p m (d + 1) h j is e) (j ∷ i ∷ x) is e)
        → ((u : Hung g f i x) → ts (i ∷ x) ≡ none
        → Placed a u.pool u.memory (upd ts (i ∷ x) (some u.frame)) lv guest (down_of a gs u.pool u.memory (d + 1) u.frame j is e) (j ∷ i ∷ x) is e)
        → Placed a p m ts lv guest (down_of a gs p m d f i (j ∷ is) e) (i ∷ x) (j ∷ is) e
    go (some h) c old new =
        let z : follow_of a.base a.size (entry_at_of m f i) ≡ To h = ap (follow_of a.base a.size) (word ∙ ap (λ o. slot o (lv (i ∷ x))) c) ∙ follow_table g (i ∷ x) h c in
        placed_old (i ∷ x) j is e h c (step p h m (descend_old a p m _ _ f i h z)) (old h c)
    go none c old new =
        let u = attach_is g f i x tx hi c r.clear.0 (let s = r.short in omega arith) r.gives.1 (let k = lacks_none ts (i ∷ x) j is c in omega (arith, room)) in
        let z : follow_of a.base a.size (entry_at_of m f i) ≡ Not = ap (follow_of a.base a.size) (word ∙ ap (λ o. slot o (lv (i ∷ x))) c ∙ r.clear.0) ∙ follow_zero a.base a.size in
        placed_new (i ∷ x) j is e u.frame c u.used u.beside (step u.pool u.frame u.memory (descend_new a p m _ _ f i z ∙ u.done)) (new u c)

module _ {a : Area} {p : Pool} {ts : List ℕ → Option ℕ} {lv guest : List ℕ → ℕ} {fl : List ℕ} {ps : List (List ℕ)} {m : List ℕ}
    (g : Tables a p ts lv guest fl ps m) (gs : List ℕ) (i : ℕ) (is : List ℕ) (e : ℕ) (r : Route a ts lv guest gs [] (i ∷ is)) where
  pub place_is : e < entry_limit → present e ≡ true → p.used + lacks ts [] (i ∷ is) ≤ a.size → Placed a p m ts lv guest (place_of a gs p m i is e) [] (i ∷ is) e
  place_is thin set room = go (ts []) refl
    where
      go : (o : Option ℕ) → ts [] ≡ o → Placed a p m ts lv guest (place_of a gs p m i is e) [] (i ∷ is) e
      go (some h) c =
          let there : follow_of a.base a.size p.top ≡ To h = ap (follow_of a.base a.size) (g.top ∙ ap (λ o. slot o 0) c) ∙ follow_table g [] h c in
          placed_old [] i is e h c (place_on a gs p m i is e p m h (enter_old a p m (get_or gs 0 0) h there))
          (down_is g gs [] 0 h i is e refl c r.small.0 (route_tail [] i is r) thin set
          (subst (λ k. p.used + k ≤ a.size) (lacks_some ts [] i is h c) room))
      go none c =
          let u = enter_is g c (let s = r.short in omega arith) r.gives.1 (let k = lacks_none ts [] i is c in omega (arith, room)) in
          placed_new [] i is e u.frame c u.used u.beside
          (place_on a gs p m i is e u.pool u.memory u.frame (ap (enter_of a p m) r.gives.0 ∙ u.done))
          (down_is u.tables gs [] 0 u.frame i is e refl (upd_at ts [] (some u.frame)) r.small.0 (route_upd [] i is (some u.frame) (route_tail [] i is r)) thin set
          (let k = u.used in let n = lacks_none ts [] i is c in let v = lacks_upd ts [] (some u.frame) (i ∷ []) is (omega arith) in omega (arith, room)))

  -- room exactly if the tables in use and the missing ones fit
  pub insert_is : e < entry_limit → present e ≡ true → p.used + lacks ts [] (i ∷ is) ≤ a.size
      → Placed a p m ts lv guest (insert_of a gs p m (i ∷ is) e) [] (i ∷ is) e
  insert_is thin set room =
      subst (λ t. Placed a p m ts lv guest t [] (i ∷ is) e) (sym (insert_place a gs p m i is e _ (room_fits g (i ∷ is) r.clear r.small r.bare room)))
      (place_is thin set room)

  pub insert_full : a.size < p.used + lacks ts [] (i ∷ is) → insert_of a gs p m (i ∷ is) e ≡ end p Not m
  unfolding insert_of
  insert_full room = rw (room_full g (i ∷ is) r.clear r.small r.bare room)

  -- where the leaf stands already no table is missing
  pub insert_again : e < entry_limit → present e ≡ true → lv (onto [] (i ∷ is)) ≢ 0 → Placed a p m ts lv guest (insert_of a gs p m (i ∷ is) e) [] (i ∷ is) e
  insert_again thin set leaf =
      let k = lacks_leaf g [] (i ∷ is) leaf in
      let c = g.count in
      insert_is thin set (omega (arith, g.room))
