-- A lookup by paths: the leaf at the path, and one word read for each table on the way.
use mathlib.Core.Path.{◌≡◌, refl, sym, ap, ap₂, ◌∙◌}
use mathlib.Core.Logic.{◌≢◌}
use Prim.Native.Nat.{ℕ, suc, ◌+◌, ◌-◌, ◌<◌, ◌≤◌}
use native.Mathlib.Omega.{arith}
use mathlib.Core.List.{List, [], ◌∷◌}
use mathlib.Core.Option.{Option, none, some}
use lib.ListN.{length}
use borrow.Author.Tests.{le-leb, lt-leb}
use Rattle.pool.specs.declared.Area.{Area}
use Rattle.pool.specs.declared.Pool.{Pool}
use Rattle.pool.specs.declared.Way.TheVariants.{To, Not}
use Rattle.area.specs.declared.Look.TheVariants.{Seen, Damaged}
use Rattle.pool.specs.Header.{entry_at_of}
use Rattle.pool.specs.Pool.{link, follow_of, on_way}
use Rattle.area.specs.Tree.{lookup_of, room_of}
use Rattle.area_laws.proofs.Change.{upd, upd_other}
use Rattle.area_laws.proofs.Invariant.{slot, follow_zero, Tables, none_below, follow_table}
use Rattle.area_laws.proofs.Paths.{onto, Small, Clear}

abbrev pub on_table : {X : Type 0} → Option ℕ → X → X → X
on_table none x y = x
on_table (some f) x y = y

-- tables that stand, and that are missing, from x on along the indexes
unfoldable pub steps : (List ℕ → Option ℕ) → List ℕ → List ℕ → ℕ
steps ts x [] = 0
steps ts x (i ∷ is) = on_table (ts x) 0 (1 + steps ts (i ∷ x) is)

unfoldable pub lacks : (List ℕ → Option ℕ) → List ℕ → List ℕ → ℕ
lacks ts x [] = 0
lacks ts x (i ∷ is) = on_table (ts x) 1 0 + lacks ts (i ∷ x) is

pub steps_none : (ts : List ℕ → Option ℕ) (x is : List ℕ) → ts x ≡ none → steps ts x is ≡ 0
unfolding steps
steps_none ts x [] e = refl
steps_none ts x (i ∷ is) e = ap (λ o. on_table o 0 (1 + steps ts (i ∷ x) is)) e

pub lacks_upd : (ts : List ℕ → Option ℕ) (y : List ℕ) (o : Option ℕ) (x is : List ℕ) → length y < length x → lacks (upd ts y o) x is ≡ lacks ts x is
unfolding lacks
lacks_upd ts y o x [] l = refl
lacks_upd ts y o x (i ∷ is) l =
    ap₂ (λ a c. on_table a 1 0 + c) (upd_other ts y o x (λ e. let u = ap length e in omega arith)) (lacks_upd ts y o (i ∷ x) is (omega arith))

pub lacks_some : (ts : List ℕ → Option ℕ) (x : List ℕ) (i : ℕ) (is : List ℕ) (f : ℕ) → ts x ≡ some f → lacks ts x (i ∷ is) ≡ lacks ts (i ∷ x) is
unfolding lacks
lacks_some ts x i is f e = let z : 0 + lacks ts (i ∷ x) is ≡ lacks ts (i ∷ x) is = omega arith in ap (λ o. on_table o 1 0 + lacks ts (i ∷ x) is) e ∙ z

pub lacks_none : (ts : List ℕ → Option ℕ) (x : List ℕ) (i : ℕ) (is : List ℕ) → ts x ≡ none → lacks ts x (i ∷ is) ≡ suc (lacks ts (i ∷ x) is)
unfolding lacks
lacks_none ts x i is e = let z : 1 + lacks ts (i ∷ x) is ≡ suc (lacks ts (i ∷ x) is) = omega arith in ap (λ o. on_table o 1 0 + lacks ts (i ∷ x) is) e ∙ z

module _ {a : Area} {p : Pool} {ts : List ℕ → Option ℕ} {lv guest : List ℕ → ℕ} {fl : List ℕ} {ps : List (List ℕ)} {m : List ℕ}
    (g : Tables a p ts lv guest fl ps m) where
  -- nothing stands below a table that is missing
  pub deep : (i : ℕ) (x is : List ℕ) → ts x ≡ none → (lv (onto (i ∷ x) is) ≡ 0) × (lacks ts (i ∷ x) is ≡ length is)
  unfolding onto lacks
  deep i x [] e = (g.below i x e, refl)
  deep i x (j ∷ is) e =
      let n = none_below g i x e in
      let d = deep j (i ∷ x) is n in
      let one : 1 + length is ≡ suc (length is) = omega arith in
      (d.0, ap₂ (λ o k. on_table o 1 0 + k) n d.1 ∙ one)

  pub steps_lacks : (x is : List ℕ) → steps ts x is + lacks ts x is ≡ length is
  unfolding steps lacks
  steps_lacks x [] = refl
  steps_lacks x (i ∷ is) = go (ts x) refl (steps_lacks (i ∷ x) is)
    where
      go : (o : Option ℕ) → ts x ≡ o → steps ts (i ∷ x) is + lacks ts (i ∷ x) is ≡ length is
          → on_table o 0 (1 + steps ts (i ∷ x) is) + (on_table o 1 0 + lacks ts (i ∷ x) is) ≡ suc (length is)
      go none e ih = let d = (deep i x is e).1 in omega arith
      go (some f) e ih = omega arith

  -- above a leaf no table is missing
  pub lacks_leaf : (x is : List ℕ) → lv (onto x is) ≢ 0 → lacks ts x is ≡ 0
  unfolding onto lacks
  lacks_leaf x [] n = refl
  lacks_leaf x (i ∷ is) n = go (ts x) refl (lacks_leaf (i ∷ x) is n)
    where
      go : (o : Option ℕ) → ts x ≡ o → lacks ts (i ∷ x) is ≡ 0 → on_table o 1 0 + lacks ts (i ∷ x) is ≡ 0
      go none e ih = absurd (n (deep i x is e).0)
      go (some f) e ih = omega arith

  look_is : (x is : List ℕ) (e n : ℕ) → e ≡ slot (ts x) (lv x) → Clear lv x is → Small is → ts (onto x is) ≡ none
      → lookup_of a.base a.size m e is n ≡ Seen (lv (onto x is)) (n + steps ts x is)
  unfolding lookup_of onto steps
  look_is x [] e n q c l t = ap₂ Seen (q ∙ ap (λ o. slot o (lv x)) t) (omega arith)
  look_is x (i ∷ is) e n q c l t = go (ts x) refl (λ f tx. look_is (i ∷ x) is (entry_at_of m f i) (n + 1) (g.word x f i tx l.0) c.1 l.1 t)
    where
      go : (o : Option ℕ) → ts x ≡ o
          → ((f : ℕ) → ts x ≡ some f → lookup_of a.base a.size m (entry_at_of m f i) is (n + 1) ≡ Seen (lv (onto (i ∷ x) is)) (n + 1 + steps ts (i ∷ x) is))
          → on_way (follow_of a.base a.size e) (Seen 0 n) Damaged (λ f. lookup_of a.base a.size m (entry_at_of m f i) is (n + 1))
          ≡ Seen (lv (onto (i ∷ x) is)) (n + on_table o 0 (1 + steps ts (i ∷ x) is))
      go none h ih =
          let z : follow_of a.base a.size e ≡ Not = ap (follow_of a.base a.size) (q ∙ ap (λ o. slot o (lv x)) h ∙ c.0) ∙ follow_zero a.base a.size in
          rw z (ap₂ Seen (sym (deep i x is h).0) (omega arith))
      go (some f) h ih =
          let z : follow_of a.base a.size e ≡ To f = ap (follow_of a.base a.size) (q ∙ ap (λ o. slot o (lv x)) h) ∙ follow_table g x f h in
          rw z (ih f h ∙ ap (Seen (lv (onto (i ∷ x) is))) (omega arith))

  -- from the top: never broken
  pub lookup_is : (is : List ℕ) → Clear lv [] is → Small is → ts (onto [] is) ≡ none
      → lookup_of a.base a.size m p.top is 0 ≡ Seen (lv (onto [] is)) (steps ts [] is)
  lookup_is is c l t =
      look_is [] is p.top 0 (g.top ∙ ap (slot (ts [])) (sym g.root)) c l t ∙ ap (Seen (lv (onto [] is))) (omega arith)

  -- a prefix with a table of its own: its entry names that
  table_look : (x is : List ℕ) (f e n : ℕ) → e ≡ slot (ts x) (lv x) → Small is → ts (onto x is) ≡ some f
      → (k : ℕ) × (lookup_of a.base a.size m e is n ≡ Seen (link f) k)
  unfolding lookup_of onto
  table_look x [] f e n q l t = (n, ap (λ y. Seen y n) (q ∙ ap (λ o. slot o (lv x)) t))
  table_look x (i ∷ is) f e n q l t = go (ts x) refl (λ h tx. table_look (i ∷ x) is f (entry_at_of m h i) (n + 1) (g.word x h i tx l.0) l.1 t)
    where
      no : (x is : List ℕ) → ts x ≡ none → ts (onto x is) ≡ none
      no x [] z = z
      no x (j ∷ is) z = no (j ∷ x) is (none_below g j x z)

      go : (o : Option ℕ) → ts x ≡ o → ((h : ℕ) → ts x ≡ some h → (k : ℕ) × (lookup_of a.base a.size m (entry_at_of m h i) is (n + 1) ≡ Seen (link f) k))
          → (k : ℕ) × (on_way (follow_of a.base a.size e) (Seen 0 n) Damaged (λ h. lookup_of a.base a.size m (entry_at_of m h i) is (n + 1)) ≡ Seen (link f) k)
      go none h ih = let z : none ≡ some f = sym (no (i ∷ x) is (none_below g i x h)) ∙ t in let y : ◌≡◌ {A = ℕ} 0 1 = cc in absurd (omega arith)
      go (some h) e' ih =
          let z : follow_of a.base a.size e ≡ To h = ap (follow_of a.base a.size) (q ∙ ap (λ o. slot o (lv x)) e') ∙ follow_table g x h e' in
          let r = ih h e' in
          (r.0, ap (λ y. on_way y (Seen 0 n) Damaged (λ h. lookup_of a.base a.size m (entry_at_of m h i) is (n + 1))) z ∙ r.1)

  pub lookup_table : (is : List ℕ) (f : ℕ) → Small is → ts (onto [] is) ≡ some f → (k : ℕ) × (lookup_of a.base a.size m p.top is 0 ≡ Seen (link f) k)
  lookup_table is f l t = table_look [] is f p.top 0 (g.top ∙ ap (slot (ts [])) (sym g.root)) l t

  -- ---- the tables that a path lacks, and room for them exactly if they and those in use are no more than the frames
  missing : (is : List ℕ) → length is - steps ts [] is ≡ lacks ts [] is
  missing is = let k = steps_lacks [] is in omega arith

  pub room_fits : (is : List ℕ) → Clear lv [] is → Small is → ts (onto [] is) ≡ none → p.used + lacks ts [] is ≤ a.size → room_of a p m is ≡ To (lacks ts [] is)
  unfolding room_of
  room_fits is c l t room = rw (lookup_is is c l t, missing is, le-leb _ _ room)

  pub room_full : (is : List ℕ) → Clear lv [] is → Small is → ts (onto [] is) ≡ none → a.size < p.used + lacks ts [] is → room_of a p m is ≡ Not
  unfolding room_of
  room_full is c l t room = rw (lookup_is is c l t, missing is, lt-leb _ _ room)
