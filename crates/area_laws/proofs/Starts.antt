-- Where a list of calls begins: an area with nothing in it, with or without a top table that stays; and paths of one length always fit.
use mathlib.Core.Path.{◌≡◌, refl, sym, ap, ◌∙◌, subst}
use mathlib.Core.Logic.{◌≢◌}
use Prim.Native.Nat.{ℕ, ◌+◌, ◌*◌, ◌<◌, ◌≤◌}
use native.Mathlib.Omega.{arith}
use mathlib.Core.Bool.{Bool, true, false, cond}
use mathlib.Core.List.{List, [], ◌∷◌}
use lib.Dec.{T, leb}
use lib.ListN.{length}
use Rattle.spec.specs.Entry.{present, entry_limit}
use Rattle.spec.specs.Prefix.{same, tables_of}
use Rattle.pool.specs.declared.Area.{Area}
use Rattle.pool.specs.Header.{guest_room}
use Rattle.pool.specs.Pool.{none_of}
use Rattle.area.specs.Tree.{enter_of}
use Rattle.area_laws.specs.Run.{Op, put, cut, see, State, left, answers, Map, get, without, paths, specified}
use Rattle.spec_laws.proofs.Lists.{same_is}
use Rattle.area_laws.proofs.Paths.{onto, onto_long, Small, ext_long, Guests}
use Rattle.area_laws.proofs.Whole.{Holds, Fits, holds_none, holds_top, holds_leaves}
use Rattle.area_laws.proofs.Claim.{leaves, Solid, Tied, Ok, claim}

-- the area lies in the memory, its frames and levels fit a header
pub record Ready (a : Area) (m : List ℕ) : Type 0 where
  pub small : a.base + a.size ≤ 65536
  pub flat : a.levels < 8
  pub long : (a.base + a.size) * 512 ≤ length m

abbrev pub none : List ℕ → State
none m = record { pool = none_of; memory = m }

no_leaves : (y : List ℕ) → 0 ≡ leaves [] y
unfolding get
no_leaves y = refl

-- nothing in use, on any memory: also what a drop of everything leaves
pub start : (a : Area) (guest : List ℕ → ℕ) (m : List ℕ) → Ready a m → Tied a false guest (none m) []
unfolding Solid
start a guest m r = record { holds = holds_leaves (holds_none a guest m r.small r.flat r.long) (leaves []) no_leaves; solid = tt }

-- the same with a top table that stays
pub start_top : (a : Area) (guest : List ℕ → ℕ) (m : List ℕ) → Ready a m → 0 < a.levels → 0 < a.size → guest [] < guest_room
    → Tied a true guest (left (enter_of a none_of m (guest []))) []
unfolding Solid
start_top a guest m r deep room thin =
    let o = holds_top a guest m r.small r.flat r.long deep room thin in
    record {
      holds = subst (λ z. Holds a true z.result.pool z.memory (leaves []) guest) (sym o.done) (holds_leaves o.holds (leaves []) no_leaves);
      solid = tt;
    }

-- ---- paths of one length
pub level_fits_lem : (a : Area) (lv : List ℕ → ℕ) (is : List ℕ) → ((y : List ℕ) → length y ≢ a.levels → lv y ≡ 0) → 0 < a.levels → length is ≡ a.levels → Small is → Fits a lv is
level_fits_lem a lv is even deep l s = record {
  nonempty = omega arith;
  short = omega arith;
  small = s;
  apart = λ y. (
    (λ x. even y (λ q. let u = ext_long y (onto [] is) x in let n = onto_long [] is in omega arith)),
    (λ x. even y (λ q. let u = ext_long (onto [] is) y x in let n = onto_long [] is in omega arith)),
  );
}

unfoldable pub Even : ℕ → Map → Type 0
Even n [] = Unit {0}
Even n (x ∷ es) = (length x.0 ≡ n) × Even n es

even_get : (n : ℕ) (es : Map) (is : List ℕ) → Even n es → length is ≢ n → get es is ≡ 0
unfolding Even get
even_get n [] is h k = refl
even_get n (x ∷ es) is h k = go (same x.0 is) refl (even_get n es is h.1 k)
  where
    go : (t : Bool) → same x.0 is ≡ t → get es is ≡ 0 → cond t x.1 (get es is) ≡ 0
    go true q ih = absurd (k (sym (ap length (same_is x.0 is (subst T (sym q) tt))) ∙ h.0))
    go false q ih = ih

pub even_fits : (a : Area) (es : Map) (is : List ℕ) → Even a.levels es → 0 < a.levels → length is ≡ a.levels → Small is → Fits a (leaves es) is
even_fits a es is h deep l s =
    level_fits_lem a (leaves es) is (λ y n. even_get a.levels es (onto [] y) h (λ q. n (let u = onto_long [] y in omega arith))) deep l s

even_without : (n : ℕ) (es : Map) (is : List ℕ) → Even n es → Even n (without is es)
unfolding Even without
even_without n [] is h = tt
even_without n (x ∷ es) is h = go (same x.0 is) (even_without n es is h.1)
  where
    go : (t : Bool) → Even n (without is es) → Even n (cond t (without is es) (x ∷ without is es))
    go true k = k
    go false k = (h.0, k)

-- each call is of n levels, without guest frames; each entry set is present and has 52 bits
unfoldable pub Level : ℕ → List Op → Type 0
Level n [] = Unit {0}
Level n (put is gs e ∷ os) = (length is ≡ n) × Small is × (gs ≡ []) × (e < entry_limit) × (present e ≡ true) × Level n os
Level n (cut is ∷ os) = (length is ≡ n) × Small is × Level n os
Level n (see is ∷ os) = (length is ≡ n) × Small is × Level n os

pub no_guests : (d : ℕ) (x is : List ℕ) → Guests (λ y. 0) [] d x is
no_guests d x [] = tt
no_guests d x (i ∷ is) = (refl, omega arith, no_guests (d + 1) (i ∷ x) is)

level_ok : (a : Area) (stays : Bool) (es : Map) (os : List Op) → 0 < a.levels → Even a.levels es → Level a.levels os → Ok a (λ y. 0) stays es os
unfolding Level Ok Even
level_ok a stays es [] l h o = tt
level_ok a stays es (put is gs e ∷ os) l h o = (
  even_fits a es is h l o.0 o.1,
  subst (λ z. Guests (λ y. 0) z 0 [] is) (sym o.2) (no_guests 0 [] is),
  o.3,
  o.4,
  go (leb (tables_of (is ∷ paths es)) a.size) (level_ok a stays es os l h o.5) (level_ok a stays ((is, e) ∷ es) os l (o.0, h) o.5),
)
  where
    go : (t : Bool) → Ok a (λ y. 0) stays es os → Ok a (λ y. 0) stays ((is, e) ∷ es) os → Ok a (λ y. 0) stays (cond t ((is, e) ∷ es) es) os
    go true b c = c
    go false b c = b
level_ok a stays es (cut is ∷ os) l h o = (
  even_fits a es is h l o.0 o.1,
  go (present (get es is)) (level_ok a stays es os l h o.2) (level_ok a stays (without is es) os l (even_without a.levels es is h) o.2),
)
  where
    go : (t : Bool) → Ok a (λ y. 0) stays es os → Ok a (λ y. 0) stays (without is es) os → Ok a (λ y. 0) stays (cond t (without is es) es) os
    go true b c = c
    go false b c = b
level_ok a stays es (see is ∷ os) l h o = (even_fits a es is h l o.0 o.1, level_ok a stays es os l h o.2)

-- the two uses: host tables, whose top table stays and whose paths have one index a level; shadow tables
pub host_claim : (a : Area) (m : List ℕ) → Ready a m → 0 < a.levels → 0 < a.size → (os : List Op) → Level a.levels os
    → answers a true (left (enter_of a none_of m 0)) os ≡ specified a.size true [] os
unfolding Even
host_claim a m r deep room os o = claim a (λ y. 0) true (left (enter_of a none_of m 0)) [] (start_top a (λ y. 0) m r deep room (omega arith)) os (level_ok a true [] os deep tt o)

pub shadow_claim : (a : Area) (guest : List ℕ → ℕ) (m : List ℕ) → Ready a m → (os : List Op) → Ok a guest false [] os
    → answers a false (none m) os ≡ specified a.size false [] os
shadow_claim a guest m r os o = claim a guest false (none m) [] (start a guest m r) os o
