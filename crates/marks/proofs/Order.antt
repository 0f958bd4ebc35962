-- What a list says does not turn on its order. `SameMembers` is the same elements, each as often, in any order.
use mathlib.Core.Path.{◌≡◌, refl, sym, ap, ap₂, ◌∙◌, subst}
use mathlib.Core.Bool.{Bool, true, false, not, ◌&&◌, ◌||◌, cond}
use mathlib.Core.List.Permᴰ
use mathlib.Core.List.{List, [], ◌∷◌, map, Permᴰ}
use Prim.Native.Nat.{ℕ, suc, max}
use native.Mathlib.Omega.{arith}
use borrow.Author.Tests.{eq-eqb, not-true}
use lib.ListN.{length}
use Rattle.spec.specs.Prefix.{any, keep, same}
use Rattle.spec.specs.Book.{Mark, same_mark, is_set, level_for, depth}
use Rattle.spec.specs.Refusal.{no_two_alike}
use Rattle.spec_laws.proofs.Lists.{is_true, same_refl, or_swap}
use Rattle.spec_laws.proofs.Indexes.{eqb_sym, same_sym}
use Rattle.marks.proofs.Ascending.{and_left}

abbrev pub SameMembers : {A : Type 0} → List A → List A → Type 0
SameMembers xs ys = Permᴰ xs ys

-- ---- whatever is put together element by element, in an order that does not matter
module _ {A B : Type 0} (F : List A → B) (g : A → B → B) (step : (x : A) (xs : List A) → F (x ∷ xs) ≡ g x (F xs))
    (either : (x y : A) (r : B) → g x (g y r) ≡ g y (g x r)) where
  pub members_fold : {xs ys : List A} → SameMembers xs ys → F xs ≡ F ys
  members_fold Permᴰ.nil = refl
  members_fold (Permᴰ.cons {a} {b} {l₁} {l₂} e d) = step a l₁ ∙ ap₂ g e (members_fold d) ∙ sym (step b l₂)
  members_fold (Permᴰ.swap {a} {b} {a'} {b'} {l} e₁ e₂) =
      step a (b ∷ l) ∙ ap (g a) (step b l) ∙ either a b (F l) ∙ ap₂ (λ x y. g x (g y (F l))) e₂ e₁
      ∙ ap (g a') (sym (step b' l)) ∙ sym (step a' (b' ∷ l))
  members_fold (Permᴰ.trans d₁ d₂) = members_fold d₁ ∙ members_fold d₂

pub members_any : {A : Type 0} (f : A → Bool) {xs ys : List A} → SameMembers xs ys → any f xs ≡ any f ys
members_any f d = members_fold (any f) (λ x r. f x || r) (λ x xs. refl) (λ x y r. or_swap (f x) (f y) r) d

pub members_length : {A : Type 0} {xs ys : List A} → SameMembers xs ys → length xs ≡ length ys
members_length {A} d = members_fold {A = A} length (λ x r. suc r) (λ x xs. refl) (λ x y r. refl) d

pub members_depth : (is : List ℕ) {ms ns : List Mark} → SameMembers ms ns → depth ms is ≡ depth ns is
members_depth is d =
    members_fold (λ ms. depth ms is) (λ m r. max (level_for m is) r) (λ m ms. refl) (λ m n r. omega arith) d

-- ---- lists made from it
pub members_map : {A B : Type 0} (f : A → B) {xs ys : List A} → SameMembers xs ys → SameMembers (map f xs) (map f ys)
members_map f Permᴰ.nil = Permᴰ.nil
members_map f (Permᴰ.cons e d) = Permᴰ.cons (ap f e) (members_map f d)
members_map f (Permᴰ.swap e₁ e₂) = Permᴰ.swap (ap f e₁) (ap f e₂)
members_map f (Permᴰ.trans d₁ d₂) = Permᴰ.trans (members_map f d₁) (members_map f d₂)

-- one element in front that is kept or not
keep_front : {A : Type 0} {a b : A} {xs ys : List A} (t : Bool) → a ≡ b → SameMembers xs ys → SameMembers (cond t (a ∷ xs) xs) (cond t (b ∷ ys) ys)
keep_front true e d = Permᴰ.cons e d
keep_front false e d = d

keep_swap : {A : Type 0} (a b : A) (xs : List A) (s t : Bool)
    → SameMembers (cond s (a ∷ cond t (b ∷ xs) xs) (cond t (b ∷ xs) xs)) (cond t (b ∷ cond s (a ∷ xs) xs) (cond s (a ∷ xs) xs))
keep_swap a b xs true true = Permᴰ.swap refl refl
keep_swap a b xs true false = Permᴰ.refl (a ∷ xs)
keep_swap a b xs false true = Permᴰ.refl (b ∷ xs)
keep_swap a b xs false false = Permᴰ.refl xs

pub members_keep : {A : Type 0} (f : A → Bool) {xs ys : List A} → SameMembers xs ys → SameMembers (keep f xs) (keep f ys)
members_keep f Permᴰ.nil = Permᴰ.nil
members_keep f (Permᴰ.cons {a} {b} {l₁} {l₂} e d) =
    subst (λ t. SameMembers (cond (f a) (a ∷ keep f l₁) (keep f l₁)) (cond t (b ∷ keep f l₂) (keep f l₂))) (ap f e) (keep_front (f a) e (members_keep f d))
members_keep f (Permᴰ.swap {a} {b} {a'} {b'} {l} e₁ e₂) =
    subst (λ y. SameMembers (keep f (a ∷ b ∷ l)) (keep f (y ∷ b' ∷ l))) e₂
    (subst (λ x. SameMembers (keep f (a ∷ b ∷ l)) (keep f (b ∷ x ∷ l))) e₁ (keep_swap a b (keep f l) (f a) (f b)))
members_keep f (Permᴰ.trans d₁ d₂) = Permᴰ.trans (members_keep f d₁) (members_keep f d₂)

-- ---- whether a mark is there twice does not depend on the order
pub alike_sym : (m n : Mark) → same_mark m n ≡ same_mark n m
alike_sym m n = ap₂ ◌&&◌ (eqb_sym m.level n.level) (same_sym m.prefix n.prefix)

pub alike_refl : (m : Mark) → same_mark m m ≡ true
alike_refl m = rw (eq-eqb m.level _ refl) (is_true (same m.prefix m.prefix) (same_refl m.prefix))

alike_either : (s a b r : Bool) → (not (s || a) && (not b && r)) ≡ (not (s || b) && (not a && r))
alike_either true a b r = refl
alike_either false true true r = refl
alike_either false true false r = refl
alike_either false false true r = refl
alike_either false false false r = refl

pub members_alike : {ms ns : List Mark} → SameMembers ms ns → no_two_alike ms ≡ no_two_alike ns
members_alike Permᴰ.nil = refl
members_alike (Permᴰ.cons {a} {b} {l₁} {l₂} e d) =
    ap₂ (λ s t. not s && t) (ap (λ m. is_set m l₁) e ∙ members_any (same_mark b) d) (members_alike d)
members_alike (Permᴰ.swap {a} {b} {a'} {b'} {l} e₁ e₂) =
    alike_either (same_mark a b) (is_set a l) (is_set b l) (no_two_alike l)
    ∙ ap (λ s. not (s || is_set b l) && (not (is_set a l) && no_two_alike l)) (alike_sym a b)
    ∙ ap₂ (λ x y. no_two_alike (x ∷ y ∷ l)) e₂ e₁
members_alike (Permᴰ.trans d₁ d₂) = members_alike d₁ ∙ members_alike d₂

-- where no two are alike, one mark more or less is one mark kept or not
pub kept_others : (m : Mark) (ms : List Mark) → is_set m ms ≡ false → keep (λ y. not (same_mark m y)) ms ≡ ms
kept_others m [] e = refl
kept_others m (x ∷ ms) e = go (same_mark m x) e (kept_others m ms)
  where
    go : (t : Bool) → (t || is_set m ms) ≡ false → (is_set m ms ≡ false → keep (λ y. not (same_mark m y)) ms ≡ ms)
        → cond (not t) (x ∷ keep (λ y. not (same_mark m y)) ms) (keep (λ y. not (same_mark m y)) ms) ≡ x ∷ ms
    go true f ih = absurd (let z : ◌≡◌ {A = ℕ} 0 1 = cc in omega arith)
    go false f ih = ap (λ (r : List Mark). x ∷ r) (ih f)

pub members_without : (m : Mark) (ms ns : List Mark) → SameMembers ms (m ∷ ns) → no_two_alike ms ≡ true
    → SameMembers ns (keep (λ y. not (same_mark m y)) ms)
members_without m ms ns d e =
    let alone : not (is_set m ns) ≡ true = and_left (not (is_set m ns)) (no_two_alike ns) (sym (members_alike d) ∙ e) in
    let others = kept_others m ns (not-true (is_set m ns) alone) in
    let front : keep (λ y. not (same_mark m y)) (m ∷ ns) ≡ ns = rw (alike_refl m) others in
    Permᴰ.symm (rw front at (members_keep (λ y. not (same_mark m y)) d))
