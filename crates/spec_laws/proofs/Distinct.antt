-- How many different prefixes there are: as many as a list has that holds each of them once.
-- Assumes nothing.
use mathlib.Core.Path.{◌≡◌, refl, sym, ap, ◌∙◌, subst}
use mathlib.Core.Logic.{◌⊎◌, inl, inr}
use Prim.Native.Nat.{ℕ, suc, ◌+◌, ◌≤◌, ◌<◌, zero-le}
use native.Mathlib.Nat.{le_antisymm}
use native.Mathlib.Omega.{arith}
use mathlib.Core.Bool.{Bool, true, false, not, ◌&&◌, ◌||◌, cond, and-false}
use mathlib.Core.List.{List, [], ◌∷◌, ◌++◌}
use lib.Dec.{T, T_not, not_T}
use lib.ListN.{length}
use Rattle.spec.specs.Prefix.{any, keep, same, distinct}
use Rattle.spec_laws.proofs.Lists.{and_left, and_right, both, not_both, same_is, same_refl, or_cases, or_left, or_right}

abbrev pub In : List ℕ → List (List ℕ) → Type 0
In p xs = T (any (same p) xs)

abbrev pub Once : List (List ℕ) → Type 0
Once [] = Unit {0}
Once (p ∷ ps) = T (not (any (same p) ps)) × Once ps

-- one element taken out
abbrev pub without : List ℕ → List (List ℕ) → List (List ℕ)
without p xs = keep (λ q. not (same p q)) xs

shorter : (p : List ℕ) (xs : List (List ℕ)) → length (without p xs) ≤ length xs
shorter p [] = zero-le
shorter p (x ∷ xs) = go (same p x) (shorter p xs)
  where
    go : (b : Bool) → length (without p xs) ≤ length xs → length (cond (not b) (x ∷ without p xs) (without p xs)) ≤ suc (length xs)
    go true h = omega arith
    go false h = omega arith

without_less : (p : List ℕ) (xs : List (List ℕ)) → In p xs → length (without p xs) < length xs
without_less p [] h = absurd h
without_less p (x ∷ xs) h = go (same p x) h (without_less p xs) (shorter p xs)
  where
    go : (b : Bool) → T (b || any (same p) xs) → (In p xs → length (without p xs) < length xs) → length (without p xs) ≤ length xs
        → length (cond (not b) (x ∷ without p xs) (without p xs)) < suc (length xs)
    go true k ih s = omega arith
    go false k ih s = let i = ih k in omega arith

-- what is kept are the members that pass
pub kept_any : (f : List ℕ → Bool) (p : List ℕ) (xs : List (List ℕ)) → any (same p) (keep f xs) ≡ (f p && any (same p) xs)
kept_any f p [] = sym (and-false (f p))
kept_any f p (x ∷ xs) = go (same p x) refl (f x) refl (kept_any f p xs)
  where
    alike : (d : Bool) → same p x ≡ true → f x ≡ d → f p ≡ d
    alike d e g = ap f (same_is p x (subst T (sym e) tt)) ∙ g

    go : (b : Bool) → same p x ≡ b → (d : Bool) → f x ≡ d → any (same p) (keep f xs) ≡ (f p && any (same p) xs)
        → any (same p) (cond d (x ∷ keep f xs) (keep f xs)) ≡ (f p && (b || any (same p) xs))
    go true e true g ih = ap (λ b. b || any (same p) (keep f xs)) e ∙ sym (ap (λ b. b && true) (alike true e g))
    go true e false g ih = ih ∙ ap (λ b. b && any (same p) xs) (alike false e g) ∙ sym (ap (λ b. b && true) (alike false e g))
    go false e true g ih = ap (λ b. b || any (same p) (keep f xs)) e ∙ ih
    go false e false g ih = ih

pub without_in : (p q : List ℕ) (xs : List (List ℕ)) → In q xs → (T (same p q) → ⊥) → In q (without p xs)
without_in p q xs h n = subst T (sym (kept_any (λ x. not (same p x)) q xs)) (both (not (same p q)) (any (same q) xs) (not_T (same p q) n) h)

pub without_out : (p q : List ℕ) (xs : List (List ℕ)) → In q (without p xs) → In q xs × (T (same p q) → ⊥)
without_out p q xs h =
    let k = subst T (kept_any (λ x. not (same p x)) q xs) h in
    (and_right (not (same p q)) (any (same q) xs) k, λ e. not_both (same p q) e (and_left (not (same p q)) (any (same q) xs) k))

-- no list that holds each once is longer than one that holds them all
pub pigeon : (ys zs : List (List ℕ)) → Once ys → ((p : List ℕ) → In p ys → In p zs) → length ys ≤ length zs
pigeon [] zs o sub = zero-le
pigeon (y ∷ ys) zs o sub =
    let a = without_less y zs (sub y (or_left (same y y) _ (same_refl y))) in
    let b = pigeon ys (without y zs) o.1 (λ p h. without_in y p zs (sub p (or_right (same p y) _ h))
    (λ e. T_not (any (same y) ys) o.0 (subst (λ q. In q ys) (sym (same_is y p e)) h))) in
    omega arith

-- the different ones of a list, each once
unfoldable pub dedup : List (List ℕ) → List (List ℕ)
dedup [] = []
dedup (p ∷ ps) = cond (any (same p) ps) (dedup ps) (p ∷ dedup ps)

pub dedup_long : (xs : List (List ℕ)) → length (dedup xs) ≡ distinct xs
unfolding dedup
dedup_long [] = refl
dedup_long (p ∷ ps) = go (any (same p) ps) (dedup_long ps)
  where
    go : (b : Bool) → length (dedup ps) ≡ distinct ps → length (cond b (dedup ps) (p ∷ dedup ps)) ≡ cond b 0 1 + distinct ps
    go true h = omega arith
    go false h = omega arith

pub dedup_in : (q : List ℕ) (xs : List (List ℕ)) → (In q xs → In q (dedup xs)) × (In q (dedup xs) → In q xs)
unfolding dedup
dedup_in q [] = (λ h. h, λ h. h)
dedup_in q (p ∷ ps) = go (any (same p) ps) refl (dedup_in q ps)
  where
    go : (b : Bool) → any (same p) ps ≡ b → (In q ps → In q (dedup ps)) × (In q (dedup ps) → In q ps)
        → (T (same q p || any (same q) ps) → In q (cond b (dedup ps) (p ∷ dedup ps))) × (In q (cond b (dedup ps) (p ∷ dedup ps)) → T (same q p || any (same q) ps))
    go true e ih = (
      (λ h. elim (or_cases (same q p) (any (same q) ps) h)
          [ inl a ↦ ih.0 (subst (λ y. In y ps) (sym (same_is q p a)) (subst T (sym e) tt)) | inr b ↦ ih.0 b ]),
      (λ h. or_right (same q p) (any (same q) ps) (ih.1 h)),
    )
    go false e ih = (
      (λ h. elim (or_cases (same q p) (any (same q) ps) h) [ inl a ↦ or_left (same q p) _ a | inr b ↦ or_right (same q p) _ (ih.0 b) ]),
      (λ h. elim (or_cases (same q p) (any (same q) (dedup ps)) h) [ inl a ↦ or_left (same q p) _ a | inr b ↦ or_right (same q p) _ (ih.1 b) ]),
    )

pub dedup_once : (xs : List (List ℕ)) → Once (dedup xs)
unfolding dedup
dedup_once [] = tt
dedup_once (p ∷ ps) = go (any (same p) ps) refl (dedup_once ps)
  where
    go : (b : Bool) → any (same p) ps ≡ b → Once (dedup ps) → Once (cond b (dedup ps) (p ∷ dedup ps))
    go true e ih = ih
    go false e ih = (not_T (any (same p) (dedup ps)) (λ h. subst T e ((dedup_in p ps).1 h)), ih)

-- the count, by any list of the same members
pub distinct_is : (xs ys : List (List ℕ)) → Once ys → ((p : List ℕ) → In p ys → In p xs) → ((p : List ℕ) → In p xs → In p ys) → distinct xs ≡ length ys
distinct_is xs ys o f g =
    sym (dedup_long xs) ∙ le_antisymm (pigeon (dedup xs) ys (dedup_once xs) (λ p h. g p ((dedup_in p xs).1 h)))
    (pigeon ys (dedup xs) o (λ p h. (dedup_in p xs).0 (f p h)))

-- ---- one taken out of a list that holds each once
pub without_once : (p : List ℕ) (xs : List (List ℕ)) → Once xs → Once (without p xs)
without_once p [] o = tt
without_once p (x ∷ xs) o = go (same p x) (without_once p xs o.1)
  where
    go : (b : Bool) → Once (without p xs) → Once (cond (not b) (x ∷ without p xs) (without p xs))
    go true ih = ih
    go false ih = (not_T (any (same x) (without p xs)) (λ h. T_not (any (same x) xs) o.0 (without_out p x xs h).0), ih)

without_none : (p : List ℕ) (xs : List (List ℕ)) → (In p xs → ⊥) → length (without p xs) ≡ length xs
without_none p [] n = refl
without_none p (x ∷ xs) n = go (same p x) refl (without_none p xs (λ h. n (or_right (same p x) _ h)))
  where
    go : (b : Bool) → same p x ≡ b → length (without p xs) ≡ length xs → length (cond (not b) (x ∷ without p xs) (without p xs)) ≡ suc (length xs)
    go true e ih = absurd (n (or_left (same p x) _ (subst T (sym e) tt)))
    go false e ih = ap suc ih

pub without_one : (p : List ℕ) (xs : List (List ℕ)) → Once xs → In p xs → suc (length (without p xs)) ≡ length xs
without_one p [] o h = absurd h
without_one p (x ∷ xs) o h = go (same p x) refl h (without_one p xs o.1)
  where
    go : (b : Bool) → same p x ≡ b → T (b || any (same p) xs) → (In p xs → suc (length (without p xs)) ≡ length xs) → suc (length (cond (not b) (x ∷ without p xs) (without p xs))) ≡ suc (length xs)
    go true e k ih = ap suc (without_none p xs (λ q. T_not (any (same x) xs) o.0 (subst (λ y. In y xs) (same_is p x (subst T (sym e) tt)) q)))
    go false e k ih = ap suc (ih k)

-- ---- members of two lists, one after the other
pub in_head : (y x : List ℕ) (xs : List (List ℕ)) → y ≡ x → In y (x ∷ xs)
in_head y x xs e = or_left (same y x) _ (subst (λ z. T (same y z)) e (same_refl y))

pub in_left : (y : List ℕ) (xs ys : List (List ℕ)) → In y xs → In y (xs ++ ys)
in_left y [] ys h = absurd h
in_left y (x ∷ xs) ys h = elim (or_cases (same y x) (any (same y) xs) h)
    [ inl a ↦ or_left (same y x) _ a | inr a ↦ or_right (same y x) _ (in_left y xs ys a) ]

pub in_right : (y : List ℕ) (xs ys : List (List ℕ)) → In y ys → In y (xs ++ ys)
in_right y [] ys h = h
in_right y (x ∷ xs) ys h = or_right (same y x) _ (in_right y xs ys h)

pub in_split : (y : List ℕ) (xs ys : List (List ℕ)) → In y (xs ++ ys) → In y xs ⊎ In y ys
in_split y [] ys h = inr h
in_split y (x ∷ xs) ys h = elim (or_cases (same y x) (any (same y) (xs ++ ys)) h) [
  | inl a ↦ inl (or_left (same y x) _ a)
  | inr a ↦ elim (in_split y xs ys a) [ inl c ↦ inl (or_right (same y x) _ c) | inr c ↦ inr c ]
]
