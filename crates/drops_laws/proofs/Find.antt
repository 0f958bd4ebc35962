-- A held path is found in the shadow tables exactly if the book holds it.
-- Assumes nothing.
use mathlib.Core.Path.{◌≡◌, refl, sym, ap, ◌∙◌, subst}
use mathlib.Core.Logic.{◌≢◌}
use Prim.Native.Nat.{ℕ, ◌<◌, ◌≤◌}
use native.Mathlib.Omega.{arith}
use native.Mathlib.Decide.{ℕ_discrete}
use mathlib.Core.Bool.{Bool, true, false, cond}
use mathlib.Core.List.{List, [], ◌∷◌}
use mathlib.Core.Option.{Option, none, some}
use lib.Dec.{T}
use lib.ListN.{length}
use Rattle.spec.specs.Config.{Config}
use Rattle.spec.specs.Entry.{writable, frame_of}
use Rattle.spec.specs.Prefix.{begins, same}
use Rattle.spec.specs.Plain.{Lead}
use Rattle.spec.specs.Book.{Held, find}
use Rattle.spec.specs.Prefix.{All}
use Rattle.spec_laws.proofs.Indexes.{same_sym}
use Rattle.pool.specs.declared.Pool.{Pool}
use Rattle.layout.specs.declared.HostWalk.{HostWalk}
use Rattle.layout.specs.declared.HostWalk.TheVariants.{Found, Absent}
use Rattle.layout.specs.Layout.{page, leaf_of}
use Rattle.area_laws.specs.Run.{get}
use Rattle.area_laws.proofs.Paths.{onto, turn_turn, Small, Ext, ext_long}
use Rattle.area_laws.proofs.Invariant.{present_zero, present_set}
use Rattle.area_laws.proofs.Find.{steps}
use Rattle.area_laws.proofs.Whole.{Holds, Fits, holds_look}
use Rattle.shadow.specs.Held.{shadow_area, held_of}
use Rattle.drops_laws.proofs.Scan.{Leaves}
use Rattle.drops_laws.proofs.Held.{entries, leaf_at, HeldEntries, HeldAt, leaf_held, leaves_are, ext_begins}

-- ---- by leaves
module _ (c : Config) {p : Pool} {m : List ℕ} {lv guest : List ℕ → ℕ} (h : Holds (shadow_area c) false p m lv guest) (is : List ℕ) (f : Fits (shadow_area c) lv is) where
  pub leaf_found : Leaves c lv → lv (onto [] is) ≢ 0 → held_of c m p.top is ≡ Found (page (frame_of (lv (onto [] is)))) (writable (lv (onto [] is)))
  unfolding held_of leaf_of
  leaf_found l n = rw (holds_look h is f, h.tables.solid (onto [] is) n, l.area (onto [] is) n)

  pub leaf_absent : lv (onto [] is) ≡ 0 → held_of c m p.top is ≡ Absent (steps h.tabs [] is)
  unfolding held_of leaf_of
  leaf_absent e = rw (holds_look h is f, e, present_zero)

-- ---- by the book
-- a path that is no proper prefix of a held one, and of which none is one
abbrev pub Apart : List ℕ → Held → Type 0
Apart is h = (T (begins h.path is) → h.path ≡ is) × (T (begins is h.path) → is ≡ h.path)

pub path_fits : (c : Config) (w : Held → ℕ) (hs : List Held) (is : List ℕ) → 0 < length is → length is ≤ c.levels → Small is → All (Apart is) hs
    → Fits (shadow_area c) (leaf_at w hs) is
path_fits c w hs is n l s a = record {
  nonempty = n;
  short = l;
  small = s;
  apart = λ y. ((λ e. bare y (above y e) (ℕ_discrete (leaf_at w hs y) 0)), (λ e. bare y (below y e) (ℕ_discrete (leaf_at w hs y) 0)));
}
  where
    bare : (y : List ℕ) → (HeldAt (Apart is) w hs y → ⊥) → Dec (leaf_at w hs y ≡ 0) → leaf_at w hs y ≡ 0
    bare y f (yes e) = e
    bare y f (no e) = absurd (f (leaf_held (Apart is) w hs y a e))

    longer : (p q : List ℕ) → Ext (onto [] p) (onto [] q) → p ≢ q
    longer p q e r = let k = ext_long (onto [] p) (onto [] q) e in let u = ap (λ z. length (onto [] z)) r in omega arith

    above : (y : List ℕ) → Ext y (onto [] is) → HeldAt (Apart is) w hs y → ⊥
    above y e r =
        let k : Ext (onto [] r.held.path) (onto [] is) = subst (λ z. Ext z (onto [] is)) (sym r.path) e in
        longer r.held.path is k (r.fact.0 (ext_begins r.held.path is k))

    below : (y : List ℕ) → Ext (onto [] is) y → HeldAt (Apart is) w hs y → ⊥
    below y e r =
        let k : Ext (onto [] is) (onto [] r.held.path) = subst (Ext (onto [] is)) (sym r.path) e in
        longer is r.held.path k (r.fact.1 (ext_begins is r.held.path k))

-- the entry of what is found, and the answer to it; n words were read if there is none
abbrev pub entry_found : (Held → ℕ) → Option Held → ℕ
entry_found w none = 0
entry_found w (some k) = w k

abbrev pub answer_found : (Held → ℕ) → Option Held → ℕ → HostWalk
answer_found w none n = Absent n
answer_found w (some k) n = Found (page (frame_of (w k))) (writable (w k))

pub get_find : (w : Held → ℕ) (is : List ℕ) (hs : List Held) → get (entries w hs) is ≡ entry_found w (find is hs)
unfolding entries get
get_find w is [] = refl
get_find w is (k ∷ hs) = go (same is k.path) (same_sym k.path is) (get_find w is hs)
  where
    go : (b : Bool) → same k.path is ≡ b → get (entries w hs) is ≡ entry_found w (find is hs)
        → cond (same k.path is) (w k) (get (entries w hs) is) ≡ entry_found w (cond b (some k) (find is hs))
    go true e ih = rw e
    go false e ih = rw e ih

pub leaf_find : (w : Held → ℕ) (hs : List Held) (is : List ℕ) → leaf_at w hs (onto [] is) ≡ entry_found w (find is hs)
leaf_find w hs is = ap (get (entries w hs)) (turn_turn is) ∙ get_find w is hs

-- what holds of every held path holds of the one found
pub find_all : (P : Held → Type 0) (is : List ℕ) (k : Held) (hs : List Held) → All P hs → find is hs ≡ some k → P k
find_all P is k [] a e = absurd (let z : ◌≡◌ {A = ℕ} 0 1 = cc in omega arith)
find_all P is k (h ∷ hs) a e = go (same is h.path) e (find_all P is k hs a.1)
  where
    go : (b : Bool) → cond b (some h) (find is hs) ≡ some k → (find is hs ≡ some k → P k) → P k
    go true q ih = let z : h ≡ k = cc in subst P z a.0
    go false q ih = ih q

-- the tables answer as the book does: found if held, else absent, never damaged
pub held_is : {c : Config} {p : Pool} {m : List ℕ} {guest : List ℕ → ℕ} {G : List ℕ → Lead} {root : ℕ} {w : Held → ℕ} {hs : List Held} (h : Holds (shadow_area c) false p m (leaf_at w hs) guest)
    → HeldEntries c guest G root w hs → (is : List ℕ) → Fits (shadow_area c) (leaf_at w hs) is → held_of c m p.top is ≡ answer_found w (find is hs) (steps h.tabs [] is)
held_is {c = c} {p = p} {m = m} {w = w} {hs = hs} h a is f = go (find is hs) refl
  where
    go : (o : Option Held) → find is hs ≡ o → held_of c m p.top is ≡ answer_found w o (steps h.tabs [] is)
    go none e = leaf_absent c h is f (leaf_find w hs is ∙ ap (entry_found w) e)
    go (some k) e =
        let q : leaf_at w hs (onto [] is) ≡ w k = leaf_find w hs is ∙ ap (entry_found w) e in
        leaf_found c h is f (leaves_are a) (λ z. present_set (w k) (find_all _ is k hs a.all e).set (sym q ∙ z)) ∙ ap (λ v. Found (page (frame_of v)) (writable v)) q
