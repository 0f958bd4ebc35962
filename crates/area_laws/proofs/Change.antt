-- A function of paths changed at one point.
use mathlib.Core.Path.{◌≡◌, refl, ap}
use mathlib.Core.Logic.{◌≢◌}
use Prim.Native.Nat.{ℕ}
use native.Mathlib.Omega.{arith}
use native.Mathlib.Decide.{ℕ_discrete}
use mathlib.Core.Bool.{true, false}
use mathlib.Core.List.{List, [], ◌∷◌, List-discrete}
use mathlib.Core.Option.{Option, none, some, IsSome}
use lib.ListN.{length}

pick : {A X : Type 0} → Dec A → X → X → X
pick (yes a) x y = x
pick (no n) x y = y

pick_yes : {A X : Type 0} (d : Dec A) (x y : X) → A → pick d x y ≡ x
unfolding pick
pick_yes (yes a) x y h = refl
pick_yes (no n) x y h = absurd (n h)

pick_no : {A X : Type 0} (d : Dec A) (x y : X) → ¬ A → pick d x y ≡ y
unfolding pick
pick_no (yes a) x y h = absurd (h a)
pick_no (no n) x y h = refl

pub eq? : (p q : List ℕ) → Dec (p ≡ q)
eq? = List-discrete ℕ_discrete

-- f, but x at p
pub upd : {X : Type 0} → (List ℕ → X) → List ℕ → X → List ℕ → X
upd f p x q = pick (eq? p q) x (f q)

pub upd_on : {X : Type 0} (f : List ℕ → X) (p : List ℕ) (x : X) (q : List ℕ) → p ≡ q → upd f p x q ≡ x
unfolding upd
upd_on f p x q h = pick_yes (eq? p q) x (f q) h

pub upd_at : {X : Type 0} (f : List ℕ → X) (p : List ℕ) (x : X) → upd f p x p ≡ x
upd_at f p x = upd_on f p x p refl

pub upd_other : {X : Type 0} (f : List ℕ → X) (p : List ℕ) (x : X) (q : List ℕ) → p ≢ q → upd f p x q ≡ f q
unfolding upd
upd_other f p x q h = pick_no (eq? p q) x (f q) h

-- ---- tests, lists and options
pub differ : {X : Type 0} → true ≡ false → X
differ e = let z : ◌≡◌ {A = ℕ} 0 1 = cc in absurd (omega arith)

pub longer : (j : ℕ) (p : List ℕ) → ◌≢◌ {A = List ℕ} p (j ∷ p)
longer j p h = let k = ap length h in omega arith

pub no_empty : (j : ℕ) (p : List ℕ) → ◌≢◌ {A = List ℕ} (j ∷ p) []
no_empty j p h = let k = ap length h in omega arith

pub some_inj : {f g : ℕ} → some f ≡ some g → f ≡ g
some_inj e = cc

pub not_some : {t : Option ℕ} {f : ℕ} → t ≡ none → t ≡ some f → ⊥
not_some e h = let z : ◌≡◌ {A = ℕ} 0 1 = cc in omega arith

pub is_some : {t : Option ℕ} {f : ℕ} → t ≡ some f → IsSome t
is_some e = rw e tt
