-- A remove by paths: that leaf is cleared, and every table left has a leaf below it.
use mathlib.Core.Path.{◌≡◌, refl, sym, ap, ◌∙◌, subst}
use mathlib.Core.Logic.{◌≢◌}
use Prim.Native.Nat.{ℕ, ◌+◌, ◌<◌}
use native.Mathlib.Omega.{arith}
use mathlib.Core.Bool.{Bool}
use mathlib.Core.List.{List, [], ◌∷◌}
use mathlib.Core.Option.{Option, none, some}
use lib.ListN.{length}
use Rattle.pool.specs.declared.Area.{Area}
use Rattle.pool.specs.declared.Pool.{Pool}
use Rattle.pool.specs.declared.Way.{Way}
use Rattle.pool.specs.declared.Way.TheVariants.{To, Not, Damaged}
use Rattle.pool.specs.Header.{entry_at_of, put_entry_of}
use Rattle.pool.specs.Pool.{follow_of, on_way, end}
use Rattle.prune.specs.Remove.{release_of, last_table_of, last_index, clear_of, remove_of}
use Rattle.area_laws.proofs.Change.{upd}
use Rattle.area_laws.proofs.Stores.{beside_trans}
use Rattle.area_laws.proofs.Paths.{onto, Small, Clear}
use Rattle.area_laws.proofs.Invariant.{slot, present_zero, follow_zero, Tables, Exact, none_below, follow_table}
use Rattle.area_laws.proofs.Grow.{clear_leaf, put_beside}
use Rattle.area_laws.proofs.Release.{Released, release_is, exact_but, but_clear}

-- the path without its last index, as a prefix
unfoldable pub front : List ℕ → ℕ → List ℕ → List ℕ
front x i [] = x
front x i (j ∷ is) = front (i ∷ x) j is

pub front_last : (x : List ℕ) (i : ℕ) (is : List ℕ) → onto x (i ∷ is) ≡ last_index i is ∷ front x i is
unfolding onto front last_index
front_last x i [] = refl
front_last x i (j ∷ is) = front_last (i ∷ x) j is

pub front_long : (x : List ℕ) (i : ℕ) (is : List ℕ) → length (front x i is) ≡ length is + length x
unfolding front
front_long x i [] = omega arith
front_long x i (j ∷ is) = let e = front_long (i ∷ x) j is in omega arith

pub last_small : (i : ℕ) (is : List ℕ) → Small (i ∷ is) → last_index i is < 512
unfolding last_index
last_small i [] l = l.0
last_small i (j ∷ is) l = last_small j is l.1

-- the table that a step leads to
abbrev pub way : Option ℕ → Way
way none = Not
way (some f) = To f

module _ {a : Area} {p : Pool} {ts : List ℕ → Option ℕ} {lv guest : List ℕ → ℕ} {fl : List ℕ} {ps : List (List ℕ)} {m : List ℕ}
    (g : Tables a p ts lv guest fl ps m) where
  pub front_none : (x : List ℕ) (i : ℕ) (is : List ℕ) → ts x ≡ none → ts (front x i is) ≡ none
  unfolding front
  front_none x i [] e = e
  front_none x i (j ∷ is) e = front_none (i ∷ x) j is (none_below g i x e)

  -- the table that holds the last entry of the path
  last_is : (x : List ℕ) (i : ℕ) (is : List ℕ) (e : ℕ) → e ≡ slot (ts x) (lv x) → Clear lv x (i ∷ is) → Small (i ∷ is)
      → last_table_of a.base a.size m e i is ≡ way (ts (front x i is))
  unfolding last_table_of front
  last_is x i [] e q c l = go (ts x) refl
    where
      go : (o : Option ℕ) → ts x ≡ o → follow_of a.base a.size e ≡ way o
      go none h = ap (follow_of a.base a.size) (q ∙ ap (λ o. slot o (lv x)) h ∙ c.0) ∙ follow_zero a.base a.size
      go (some f) h = ap (follow_of a.base a.size) (q ∙ ap (λ o. slot o (lv x)) h) ∙ follow_table g x f h
  last_is x i (j ∷ is) e q c l = go (ts x) refl (λ f h. last_is (i ∷ x) j is (entry_at_of m f i) (g.word x f i h l.0) c.1 l.1)
    where
      go : (o : Option ℕ) → ts x ≡ o → ((f : ℕ) → ts x ≡ some f → last_table_of a.base a.size m (entry_at_of m f i) j is ≡ way (ts (front (i ∷ x) j is)))
          → on_way (follow_of a.base a.size e) Not Damaged (λ f. last_table_of a.base a.size m (entry_at_of m f i) j is) ≡ way (ts (front (i ∷ x) j is))
      go none h ih =
          let z : follow_of a.base a.size e ≡ Not = ap (follow_of a.base a.size) (q ∙ ap (λ o. slot o (lv x)) h ∙ c.0) ∙ follow_zero a.base a.size in
          rw z (sym (ap way (front_none (i ∷ x) j is (none_below g i x h))))
      go (some f) h ih =
          let z : follow_of a.base a.size e ≡ To f = ap (follow_of a.base a.size) (q ∙ ap (λ o. slot o (lv x)) h) ∙ follow_table g x f h in
          rw z (ih f h)

  module _ (stays : Bool) (j : ℕ) (js : List ℕ) (l : Small (j ∷ js)) (c : Clear lv [] (j ∷ js)) (bare : ts (onto [] (j ∷ js)) ≡ none) where
    i : ℕ
    i = last_index j js

    x : List ℕ
    x = front [] j js

    path : onto [] (j ∷ js) ≡ i ∷ x
    unfolding i x
    path = front_last [] j js

    tail_bare : ts (i ∷ x) ≡ none
    tail_bare = ap ts (sym path) ∙ bare

    last_top : last_table_of a.base a.size m p.top j js ≡ way (ts x)
    unfolding x
    last_top = last_is [] j js p.top (g.top ∙ ap (slot (ts [])) (sym g.root)) c l

    index : i < 512
    unfolding i
    index = last_small j js l

    entry : (f : ℕ) → ts x ≡ some f → entry_at_of m f i ≡ lv (onto [] (j ∷ js))
    entry f e = g.word x f i e index ∙ ap (λ o. slot o (lv (i ∷ x))) tail_bare ∙ ap lv (sym path)

    pub remove_absent : lv (onto [] (j ∷ js)) ≡ 0 → remove_of a stays p m (j ∷ js) ≡ end p Not m
    unfolding remove_of clear_of i
    remove_absent z = go (ts x) refl
      where
        go : (o : Option ℕ) → ts x ≡ o → remove_of a stays p m (j ∷ js) ≡ end p Not m
        go none e = rw (last_top, e)
        go (some f) e = rw (last_top, e, entry f e, z, present_zero)

    -- the leaf is cleared, and then tables are given back
    cleared : Exact stays ts lv → (f : ℕ) → ts x ≡ some f
        → Released a stays p (put_entry_of m f i 0) ts (upd lv (onto [] (j ∷ js)) 0) guest (release_of a stays p (put_entry_of m f i 0) (length js) f)
    unfolding i x
    cleared ex f e =
        let k : length x ≡ length js = front_long [] j js ∙ omega arith in
        subst (λ y. Released a stays p (put_entry_of m f i 0) ts (upd lv y 0) guest (release_of a stays p (put_entry_of m f i 0) (length js) f)) (sym path)
        (subst (λ n. Released a stays p (put_entry_of m f i 0) ts (upd lv (i ∷ x) 0) guest (release_of a stays p (put_entry_of m f i 0) n f)) k
        (release_is (clear_leaf g f i x e index tail_bare) stays x f e (but_clear ts lv x i (exact_but stays ts lv x ex))))

    pub remove_is : Exact stays ts lv → lv (onto [] (j ∷ js)) ≢ 0 → Released a stays p m ts (upd lv (onto [] (j ∷ js)) 0) guest (remove_of a stays p m (j ∷ js))
    unfolding remove_of clear_of i
    remove_is ex set = go (ts x) refl
      where
        go : (o : Option ℕ) → ts x ≡ o → Released a stays p m ts (upd lv (onto [] (j ∷ js)) 0) guest (remove_of a stays p m (j ∷ js))
        go none e = absurd (set (ap lv path ∙ g.below i x e))
        go (some f) e =
            let d = cleared ex f e in
            rw (last_top, e, entry f e, g.solid (onto [] (j ∷ js)) set) (record {
              pool = d.pool;
              tabs = d.tabs;
              list = d.list;
              pres = d.pres;
              memory = d.memory;
              frame = d.frame;
              done = d.done;
              tables = d.tables;
              exact = d.exact;
              top = d.top;
              fresh = d.fresh;
              less = d.less;
              each = d.each;
              beside = beside_trans (put_beside g f i x 0 e index) d.beside;
            })
