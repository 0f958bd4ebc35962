-- Lists of paths by their members: the same members are as many different ones and need as many tables; more members need no fewer
-- tables; and how many different ones a list has that another lacks.
-- Assumes nothing.
use mathlib.Core.Path.{◌≡◌, refl, sym, ap, ◌∙◌, subst}
use mathlib.Core.Logic.{inl, inr}
use Prim.Native.Nat.{ℕ, ◌+◌, ◌≤◌}
use native.Mathlib.Nat.{le_antisymm}
use native.Mathlib.Omega.{arith}
use mathlib.Core.Bool.{Bool, true, false, not, ◌&&◌, ◌||◌, cond, or-false, or-true}
use mathlib.Core.List.{List, [], ◌∷◌, ◌++◌}
use lib.Dec.{T}
use Rattle.spec.specs.Prefix.{any, keep, same, propers, all_propers, distinct, tables_of}
use Rattle.spec.specs.Quiet.{new_paths}
use Rattle.spec_laws.proofs.Lists.{same_is, or_cases, or_right, is_true}
use Rattle.spec_laws.proofs.Distinct.{In, kept_any, pigeon, dedup, dedup_long, dedup_in, dedup_once, in_head, in_left, in_right, in_split}
use Rattle.spec_laws.proofs.Added.{any_append}

-- every path of ps is one of qs; and both have the same
abbrev pub Within : List (List ℕ) → List (List ℕ) → Type 0
Within ps qs = (p : List ℕ) → In p ps → In p qs

abbrev pub SamePaths : List (List ℕ) → List (List ℕ) → Type 0
SamePaths ps qs = (p : List ℕ) → any (same p) ps ≡ any (same p) qs

same_within : (ps qs : List (List ℕ)) → SamePaths ps qs → Within ps qs
same_within ps qs e p h = subst T (e p) h

-- ---- different ones, and tables

distinct_within : (ps qs : List (List ℕ)) → Within ps qs → distinct ps ≤ distinct qs
distinct_within ps qs h =
    let l = pigeon (dedup ps) (dedup qs) (dedup_once ps) (λ p k. (dedup_in p qs).0 (h p ((dedup_in p ps).1 k))) in
    let a = dedup_long ps in
    let b = dedup_long qs in
    omega arith

pub distinct_same : (ps qs : List (List ℕ)) → SamePaths ps qs → distinct ps ≡ distinct qs
distinct_same ps qs e = le_antisymm (distinct_within ps qs (same_within ps qs e)) (distinct_within qs ps (same_within qs ps (λ p. sym (e p))))

-- a prefix of the list is one of some path's
pub record Of (q : List ℕ) (ps : List (List ℕ)) : Type 0 where
  pub path : List ℕ
  pub listed : In path ps
  pub proper : In q (propers path)

pub all_propers_lem : (q : List ℕ) (ps : List (List ℕ)) → In q (all_propers ps) → Of q ps
all_propers_lem q [] h = absurd h
all_propers_lem q (x ∷ ps) h = elim (in_split q (propers x) (all_propers ps) h) [
  | inl a ↦ record { path = x; listed = in_head x x ps refl; proper = a }
  | inr a ↦ (let t = all_propers_lem q ps a in record { path = t.path; listed = or_right (same t.path x) _ t.listed; proper = t.proper })
]

pub propers_all : (q p : List ℕ) (ps : List (List ℕ)) → In p ps → In q (propers p) → In q (all_propers ps)
propers_all q p [] h k = h
propers_all q p (x ∷ ps) h k = elim (or_cases (same p x) (any (same p) ps) h) [
  | inl a ↦ in_left q (propers x) (all_propers ps) (subst (λ y. In q (propers y)) (same_is p x a) k)
  | inr a ↦ in_right q (propers x) (all_propers ps) (propers_all q p ps a k)
]

pub tables_within : (ps qs : List (List ℕ)) → Within ps qs → tables_of ps ≤ tables_of qs
tables_within ps qs h =
    distinct_within (all_propers ps) (all_propers qs) (λ q k. let t = all_propers_lem q ps k in propers_all q t.path qs (h t.path t.listed) t.proper)

pub tables_same : (ps qs : List (List ℕ)) → SamePaths ps qs → tables_of ps ≡ tables_of qs
tables_same ps qs e = le_antisymm (tables_within ps qs (same_within ps qs e)) (tables_within qs ps (same_within qs ps (λ p. sym (e p))))

-- ---- members that a list adds to another

-- the different ones of both are those of the second, and the new ones of the first
pub distinct_new : (ps hs : List (List ℕ)) → distinct (ps ++ hs) ≡ new_paths hs ps + distinct hs
unfolding new_paths
distinct_new [] hs = omega arith
distinct_new (p ∷ ps) hs = ap (λ b. cond b 0 1 + distinct (ps ++ hs)) (any_append (same p) ps hs) ∙ go (any (same p) hs) refl (distinct_new ps hs)
  where
    new : List (List ℕ)
    new = keep (λ q. not (any (same q) hs)) ps

    go : (b : Bool) → any (same p) hs ≡ b → distinct (ps ++ hs) ≡ distinct new + distinct hs
        → cond (any (same p) ps || b) 0 1 + distinct (ps ++ hs) ≡ distinct (cond (not b) (p ∷ new) new) + distinct hs
    go true e ih = ap (λ b. cond b 0 1 + distinct (ps ++ hs)) (or-true (any (same p) ps)) ∙ omega arith
    go false e ih =
        let k : any (same p) new ≡ any (same p) ps = kept_any (λ q. not (any (same q) hs)) p ps ∙ ap (λ b. not b && any (same p) ps) e in
        ap (λ b. cond b 0 1 + distinct (ps ++ hs)) (or-false (any (same p) ps) ∙ sym k) ∙ ap (λ n. cond (any (same p) new) 0 1 + n) ih ∙ omega arith

-- no path is new that is there
pub none_new : (ps hs : List (List ℕ)) → Within ps hs → new_paths hs ps ≡ 0
none_new ps hs h =
    let n = distinct_new ps hs in
    let e = distinct_same (ps ++ hs) hs (λ p. any_append (same p) ps hs ∙ go (any (same p) ps) (any (same p) hs) (h p)) in
    omega arith
  where
    go : (a b : Bool) → (T a → T b) → (a || b) ≡ b
    go true b k = sym (is_true b (k tt))
    go false b k = refl
