-- How many tables a new path adds: its length less the tables that already stand on its way.
-- Assumes nothing.
use mathlib.Core.Path.{◌≡◌, refl, sym, ap, ap₂, ◌∙◌, subst}
use Prim.Native.Nat.{ℕ, zero, suc, ◌+◌, ◌-◌, ◌≤◌, ◌<◌, max}
use native.Mathlib.Omega.{arith}
use mathlib.Core.Bool.{Bool, true, false, not, ◌&&◌, ◌||◌, cond, or_assoc, and-false}
use mathlib.Core.List.{List, [], ◌∷◌, ◌++◌}
use borrow.Author.Tests.{lt-ltb}
use lib.Dec.{T, eqb, ltb, leb-suc-suc}
use lib.ListN.{length, take}
use Rattle.spec.specs.Prefix.{any, same, begins, propers, cons_all, all_propers, distinct, tables_of}
use Rattle.spec_laws.proofs.Lists.{is_false, not_both}
use Rattle.spec_laws.proofs.Distinct.{Once}

-- how many proper prefixes two paths have in common
unfoldable pub shared : List ℕ → List ℕ → ℕ
shared [] q = 0
shared (x ∷ p) [] = 0
shared (x ∷ p) (y ∷ q) = suc (cond (eqb x y) (shared p q) 0)

-- how many proper prefixes of p some path of ps has. A prefix stands with every shorter one, so the path that shares the most has them all
unfoldable pub standing : List ℕ → List (List ℕ) → ℕ
standing p [] = 0
standing p (q ∷ ps) = max (shared p q) (standing p ps)

pub any_append : {A : Type 0} (f : A → Bool) (xs ys : List A) → any f (xs ++ ys) ≡ (any f xs || any f ys)
any_append f [] ys = refl
any_append f (x ∷ xs) ys = ap (λ b. f x || b) (any_append f xs ys) ∙ sym (or_assoc (f x) (any f xs) (any f ys))

-- ---- the different ones of two lists, by those of the first that the second lacks

-- how many of xs are not among ys
unfoldable missing : List (List ℕ) → List (List ℕ) → ℕ
missing [] ys = 0
missing (x ∷ xs) ys = cond (any (same x) ys) 0 1 + missing xs ys

distinct_append : (xs ys : List (List ℕ)) → Once xs → distinct (xs ++ ys) ≡ missing xs ys + distinct ys
unfolding missing
distinct_append [] ys o = omega arith
distinct_append (x ∷ xs) ys o =
    let ih = distinct_append xs ys o.1 in
    let e = any_append (same x) xs ys ∙ ap (λ b. b || any (same x) ys) (is_false (any (same x) xs) (λ h. not_both (any (same x) xs) h o.0)) in
    ap (λ b. cond b 0 1 + distinct (xs ++ ys)) e ∙ ap (λ n. cond (any (same x) ys) 0 1 + n) ih ∙ omega arith

-- so the first list must hold each once, as the proper prefixes of a path do
cons_any : (x y : ℕ) (q : List ℕ) (zs : List (List ℕ)) → any (same (x ∷ q)) (cons_all y zs) ≡ (eqb x y && any (same q) zs)
cons_any x y q [] = sym (and-false (eqb x y))
cons_any x y q (z ∷ zs) = ap (λ b. eqb x y && same q z || b) (cons_any x y q zs) ∙ out (eqb x y) (same q z) (any (same q) zs)
  where
    out : (a b d : Bool) → (a && b || a && d) ≡ (a && (b || d))
    out true b d = refl
    out false b d = refl

empty_any : (y : ℕ) (zs : List (List ℕ)) → any (same []) (cons_all y zs) ≡ false
empty_any y [] = refl
empty_any y (z ∷ zs) = empty_any y zs

cons_once : (x : ℕ) (zs : List (List ℕ)) → Once zs → Once (cons_all x zs)
cons_once x [] o = tt
cons_once x (z ∷ zs) o = (subst (λ b. T (not b)) (sym (cons_any x x z zs)) (go (eqb x x) (any (same z) zs) o.0), cons_once x zs o.1)
  where
    go : (a b : Bool) → T (not b) → T (not (a && b))
    go true b h = h
    go false b h = tt

propers_once : (p : List ℕ) → Once (propers p)
propers_once [] = tt
propers_once (x ∷ p) = (subst (λ b. T (not b)) (sym (empty_any x (propers p))) tt, cons_once x (propers p) (propers_once p))

-- ---- the paths below an index: what stands for a path is asked of them, one index further down

abbrev below : ℕ → List ℕ → List (List ℕ) → List (List ℕ)
below x [] rs = rs
below x (y ∷ q) rs = cond (eqb x y) (q ∷ rs) rs

abbrev under : ℕ → List (List ℕ) → List (List ℕ)
under x [] = []
under x (q ∷ ps) = below x q (under x ps)

-- a path of an index at least has the empty prefix
abbrev longer : List ℕ → Bool
longer [] = false
longer (y ∷ q) = true

under_none : (x : ℕ) (ps : List (List ℕ)) → any longer ps ≡ false → under x ps ≡ []
under_none x [] h = refl
under_none x ([] ∷ ps) h = under_none x ps h
under_none x ((y ∷ q) ∷ ps) h = let z : ◌≡◌ {A = ℕ} 0 1 = cc in absurd (omega arith)

empty_stands : (ps : List (List ℕ)) → any (same []) (all_propers ps) ≡ any longer ps
empty_stands [] = refl
empty_stands ([] ∷ ps) = empty_stands ps
empty_stands ((y ∷ q) ∷ ps) = refl

cons_stands : (x : ℕ) (q : List ℕ) (ps : List (List ℕ)) → any (same (x ∷ q)) (all_propers ps) ≡ any (same q) (all_propers (under x ps))
cons_stands x q [] = refl
cons_stands x q ([] ∷ ps) = cons_stands x q ps
cons_stands x q ((y ∷ r) ∷ ps) =
    any_append (same (x ∷ q)) (cons_all y (propers r)) (all_propers ps)
    ∙ ap₂ (λ a b. a || b) (cons_any x y q (propers r)) (cons_stands x q ps) ∙ go (eqb x y)
  where
    go : (b : Bool) → (b && any (same q) (propers r) || any (same q) (all_propers (under x ps))) ≡ any (same q) (all_propers (cond b (r ∷ under x ps) (under x ps)))
    go true = sym (any_append (same q) (propers r) (all_propers (under x ps)))
    go false = refl

cons_missing : (x : ℕ) (zs ps : List (List ℕ)) → missing (cons_all x zs) (all_propers ps) ≡ missing zs (all_propers (under x ps))
unfolding missing
cons_missing x [] ps = refl
cons_missing x (z ∷ zs) ps = ap₂ (λ b n. cond b 0 1 + n) (cons_stands x z ps) (cons_missing x zs ps)

standing_cons : (x : ℕ) (p : List ℕ) (ps : List (List ℕ)) → standing (x ∷ p) ps ≡ cond (any longer ps) (suc (standing p (under x ps))) 0
unfolding standing shared
standing_cons x p [] = refl
standing_cons x p ([] ∷ ps) = let ih = standing_cons x p ps in omega arith
standing_cons x p ((y ∷ q) ∷ ps) =
    ap (max (suc (cond (eqb x y) (shared p q) 0))) (standing_cons x p ps) ∙ go (eqb x y) (any longer ps) refl
  where
    none_below : any longer ps ≡ false → standing p (under x ps) ≡ 0
    none_below e = ap (standing p) (under_none x ps e)

    go : (b d : Bool) → any longer ps ≡ d
        → max (suc (cond b (shared p q) 0)) (cond d (suc (standing p (under x ps))) 0) ≡ suc (standing p (cond b (q ∷ under x ps) (under x ps)))
    go true true e = omega arith
    go true false e = let z = none_below e in omega arith
    go false true e = omega arith
    go false false e = let z = none_below e in omega arith

-- the tables that a path lacks
missing_propers : (p : List ℕ) (ps : List (List ℕ)) → missing (propers p) (all_propers ps) ≡ length p - standing p ps
unfolding missing standing shared
missing_propers [] ps = omega arith
missing_propers (x ∷ p) ps =
    ap₂ (λ b n. cond b 0 1 + n) (empty_stands ps) (cons_missing x (propers p) ps ∙ missing_propers p (under x ps))
    ∙ go (any longer ps) refl ∙ ap (λ n. suc (length p) - n) (sym (standing_cons x p ps))
  where
    go : (b : Bool) → any longer ps ≡ b → cond b 0 1 + (length p - standing p (under x ps)) ≡ suc (length p) - cond b (suc (standing p (under x ps))) 0
    go true e = omega arith
    go false e = let z : standing p (under x ps) ≡ 0 = ap (standing p) (under_none x ps e) in omega arith

-- ---- the tables in use

-- with one path more
pub tables_added : (p : List ℕ) (ps : List (List ℕ)) → tables_of (p ∷ ps) ≡ tables_of ps + (length p - standing p ps)
tables_added p ps =
    distinct_append (propers p) (all_propers ps) (propers_once p) ∙ ap (λ n. n + distinct (all_propers ps)) (missing_propers p ps) ∙ omega arith

-- of one path alone
pub tables_alone : (p : List ℕ) → tables_of (p ∷ []) ≡ length p
unfolding standing
tables_alone p = tables_added p [] ∙ omega arith

-- ---- standing, by parts and by bounds

pub standing_append : (p : List ℕ) (xs ys : List (List ℕ)) → standing p (xs ++ ys) ≡ max (standing p xs) (standing p ys)
unfolding standing
standing_append p [] ys = omega arith
standing_append p (x ∷ xs) ys = let ih = standing_append p xs ys in omega arith

shared_most : (p q : List ℕ) → shared p q ≤ length p
unfolding shared
shared_most [] q = omega arith
shared_most (x ∷ p) [] = omega arith
shared_most (x ∷ p) (y ∷ q) = go (eqb x y) (shared_most p q)
  where
    go : (b : Bool) → shared p q ≤ length p → suc (cond b (shared p q) 0) ≤ suc (length p)
    go true h = omega arith
    go false h = omega arith

pub standing_most : (p : List ℕ) (ps : List (List ℕ)) → standing p ps ≤ length p
unfolding standing
standing_most p [] = omega arith
standing_most p (q ∷ ps) = let a = shared_most p q in let b = standing_most p ps in omega arith

-- ---- standing, by the prefixes of the path that have a table

-- how many numbers from l on, one after the other and at most k, have the property
unfoldable pub unbroken : (ℕ → Bool) → ℕ → ℕ → ℕ
unbroken f l zero = 0
unbroken f l (suc k) = cond (f l) (suc (unbroken f (suc l) k)) 0

-- tests that agree on them give the same number
unbroken_same : (f g : ℕ → Bool) (l k : ℕ) → ((j : ℕ) → l ≤ j → j < l + k → f j ≡ g j) → unbroken f l k ≡ unbroken g l k
unfolding unbroken
unbroken_same f g l zero h = refl
unbroken_same f g l (suc k) h =
    ap₂ (λ b n. cond b (suc n) 0) (h l (omega arith) (omega arith)) (unbroken_same f g (suc l) k (λ j a b. h j (omega arith) (omega arith)))

unbroken_shift : (f : ℕ → Bool) (l k : ℕ) → unbroken f (suc l) k ≡ unbroken (λ j. f (suc j)) l k
unfolding unbroken
unbroken_shift f l zero = refl
unbroken_shift f l (suc k) = ap (λ n. cond (f (suc l)) (suc n) 0) (unbroken_shift f (suc l) k)

-- the tables on the way of a path, from the top one down, as far as there is one
pub unbroken_standing : (p : List ℕ) (ps : List (List ℕ)) → unbroken (λ l. any (same (take l p)) (all_propers ps)) 0 (length p) ≡ standing p ps
unfolding unbroken
unbroken_standing [] ps = let l = standing_most [] ps in omega arith
unbroken_standing (x ∷ p) ps =
    let f : ℕ → Bool = λ l. any (same (take l (x ∷ p))) (all_propers ps) in
    let g : ℕ → Bool = λ l. any (same (take l p)) (all_propers (under x ps)) in
    let down : unbroken f 1 (length p) ≡ standing p (under x ps) =
    unbroken_shift f 0 (length p)
    ∙ unbroken_same (λ l. f (suc l)) g 0 (length p) (λ j a b. cons_stands x (take j p) ps)
    ∙ unbroken_standing p (under x ps) in
    ap₂ (λ b n. cond b (suc n) 0) (empty_stands ps) down ∙ sym (standing_cons x p ps)

-- ---- the proper prefixes of a path are the shorter ones that it begins with

pub proper_of : (x p : List ℕ) → any (same x) (propers p) ≡ (ltb (length x) (length p) && begins x p)
proper_of [] [] = refl
proper_of [] (y ∷ p) = sym (ap (λ b. b && true) (lt-ltb 0 (suc (length p)) (omega arith)))
proper_of (x ∷ xs) [] = sym (and-false (ltb (suc (length xs)) 0))
proper_of (x ∷ xs) (y ∷ p) =
    cons_any x y xs (propers p) ∙ ap (λ b. eqb x y && b) (proper_of xs p)
    ∙ out (eqb x y) (ltb (length xs) (length p)) (begins xs p)
    ∙ ap (λ b. b && (eqb x y && begins xs p)) (sym (leb-suc-suc (suc (length xs)) (length p)))
  where
    out : (a b d : Bool) → (a && (b && d)) ≡ (b && (a && d))
    out true b d = refl
    out false b d = sym (and-false b)

-- the words that a lookup reads, one in each table that it meets, by the tables in use and those that the path lacks
pub standing_read : (p : List ℕ) (ps : List (List ℕ)) (used lacks read : ℕ) → used ≡ tables_of ps → tables_of (p ∷ ps) ≡ used + lacks → read + lacks ≡ length p
    → read ≡ standing p ps
standing_read p ps used lacks read u t r =
    let a = tables_added p ps in
    let b = standing_most p ps in
    omega (arith, a, b, u, t, r)
