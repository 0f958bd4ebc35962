-- A ring of words that is written round and round shows the last words, the newest first; and what a map makes of it.
use mathlib.Core.Path.{◌≡◌, refl, sym, ap, ap₂, ◌∙◌}
use Prim.Native.Nat.{ℕ, zero, suc, ◌+◌, ◌%◌, ◌<◌}
use native.Mathlib.Omega.{arith}
use native.Mathlib.Decide.{ℕ_discrete}
use mathlib.Core.Bool.{Bool, true, false, cond}
use mathlib.Core.List.{List, [], ◌∷◌, ◌++◌, map, map-append, append_assoc, append-nil, reverse, reverse-cons, reverse-append}
use lib.ListN.{length, take, drop, set, get_or, length-set, length-reverse, length-append, length-drop}
use lib.Seq.{length-take-le, take-length, drop-length, take-append_seam, drop-append_seam, take-append-add, drop-append-add, set_split, split_at}
use Rattle.spec.specs.Prefix.{keep}
use Rattle.choice.specs.Window.{room, unroll}

module _ {A : Type 0} where
  newest : (us : List A) (x : A) (vs : List A) → unroll (suc (length us)) (us ++ x ∷ vs) ≡ x ∷ (reverse us ++ reverse vs)
  unfolding unroll
  newest us x vs =
      let k : suc (length us) ≡ length us + 1 = omega arith in
      ap (λ n. unroll n (us ++ x ∷ vs)) k
      ∙ ap₂ (λ l r. reverse l ++ reverse r) (take-append-add us (x ∷ vs) 1) (drop-append-add us (x ∷ vs) 1)
      ∙ ap (λ l. l ++ reverse vs) (reverse-append us (x ∷ []) ∙ ap (λ l. l ++ reverse us) (reverse-cons x []))

  oldest : (us : List A) (x y : A) (vs : List A) → take (suc (length us + length vs)) (x ∷ unroll (length us) (us ++ y ∷ vs)) ≡ x ∷ (reverse us ++ reverse vs)
  unfolding unroll
  oldest us x y vs =
      let e : unroll (length us) (us ++ y ∷ vs) ≡ (reverse us ++ reverse vs) ++ (y ∷ []) =
      ap₂ (λ l r. reverse l ++ reverse r) (take-append_seam us (y ∷ vs)) (drop-append_seam us (y ∷ vs))
      ∙ ap (λ r. reverse us ++ r) (reverse-cons y vs) ∙ sym (append_assoc (reverse us) (reverse vs) (y ∷ [])) in
      let k : length (reverse us ++ reverse vs) ≡ length us + length vs = length-append (reverse us) (reverse vs) ∙ ap₂ (λ m n. m + n) (length-reverse us) (length-reverse vs) in
      ap (λ l. x ∷ l) (ap (take (length us + length vs)) e ∙ ap (λ n. take n ((reverse us ++ reverse vs) ++ (y ∷ []))) (sym k) ∙ take-append_seam (reverse us ++ reverse vs) (y ∷ []))

  -- one word more: it is the newest, and the oldest is gone
  put : (at : ℕ) (xs : List A) (x : A) → at < length xs → unroll (suc at) (set xs at x) ≡ take (length xs) (x ∷ unroll at xs)
  put at xs x h =
      let us = take at xs in
      let vs = drop (suc at) xs in
      let y = get_or xs at x in
      let la : length us ≡ at = length-take-le at xs (omega arith) in
      let lb = length-drop (suc at) xs in
      let n : length xs ≡ suc (length us + length vs) = omega arith in
      ap₂ unroll (ap suc (sym la)) (set_split xs at x h) ∙ newest us x vs ∙ sym (oldest us x y vs)
      ∙ ap₂ (λ k l. take k (x ∷ l)) (sym n) (ap₂ unroll la (sym (split_at xs at x h)))

  wrap : (xs : List A) → unroll 0 xs ≡ unroll (length xs) xs
  unfolding unroll
  wrap xs = sym (append-nil (reverse xs)) ∙ ap₂ (λ l r. reverse l ++ reverse r) (sym (take-length xs)) (sym (drop-length xs))

  pub ring_put : (at : ℕ) (xs : List A) (x : A) → length xs ≡ room
      → unroll ((at + 1) % room % room) (set xs (at % room) x) ≡ take room (x ∷ unroll (at % room) xs)
  ring_put at xs x long =
      let i = at % room in
      let all : take (length xs) (x ∷ unroll i xs) ≡ take room (x ∷ unroll i xs) = ap (λ n. take n (x ∷ unroll i xs)) long in
      elim (ℕ_discrete (at % room) 63) [
        | yes e ↦
            let next : (at + 1) % room % room ≡ 0 = omega arith in
            let end : length (set xs i x) ≡ suc i = length-set xs i x ∙ omega arith in
            ap (λ n. unroll n (set xs i x)) next ∙ wrap (set xs i x) ∙ ap (λ n. unroll n (set xs i x)) end ∙ put i xs x (omega arith) ∙ all
        | no ne ↦
            let next : (at + 1) % room % room ≡ suc (at % room) = omega arith in
            ap (λ n. unroll n (set xs i x)) next ∙ put i xs x (omega arith) ∙ all
      ]

-- ---- what is kept of a list
module _ {A : Type 0} (g : A → Bool) where
  keep_append : (xs ys : List A) → keep g (xs ++ ys) ≡ keep g xs ++ keep g ys
  keep_append [] ys = refl
  keep_append (x ∷ xs) ys = go (g x) (keep_append xs ys)
    where
      go : (s : Bool) → keep g (xs ++ ys) ≡ keep g xs ++ keep g ys → cond s (x ∷ keep g (xs ++ ys)) (keep g (xs ++ ys)) ≡ cond s (x ∷ keep g xs) (keep g xs) ++ keep g ys
      go true e = ap (λ l. x ∷ l) e
      go false e = e

  pub keep_reverse : (xs : List A) → keep g (reverse xs) ≡ reverse (keep g xs)
  keep_reverse [] = refl
  keep_reverse (x ∷ xs) = ap (keep g) (reverse-cons x xs) ∙ keep_append (reverse xs) (x ∷ []) ∙ ap (λ l. l ++ keep g (x ∷ [])) (keep_reverse xs) ∙ go (g x)
    where
      go : (s : Bool) → reverse (keep g xs) ++ cond s (x ∷ []) [] ≡ reverse (cond s (x ∷ keep g xs) (keep g xs))
      go true = sym (reverse-cons x (keep g xs))
      go false = append-nil (reverse (keep g xs))

-- ---- mapped
module _ {A B : Type 0} (f : A → B) where
  pub map_reverse : (xs : List A) → map f (reverse xs) ≡ reverse (map f xs)
  map_reverse [] = refl
  map_reverse (x ∷ xs) =
      ap (map f) (reverse-cons x xs) ∙ map-append f (reverse xs) (x ∷ []) ∙ ap (λ l. l ++ (f x ∷ [])) (map_reverse xs) ∙ sym (reverse-cons (f x) (map f xs))

  pub map_take : (n : ℕ) (xs : List A) → map f (take n xs) ≡ take n (map f xs)
  map_take zero xs = refl
  map_take (suc n) [] = refl
  map_take (suc n) (x ∷ xs) = ap (λ l. f x ∷ l) (map_take n xs)

  map_drop : (n : ℕ) (xs : List A) → map f (drop n xs) ≡ drop n (map f xs)
  map_drop zero xs = refl
  map_drop (suc n) [] = refl
  map_drop (suc n) (x ∷ xs) = map_drop n xs

  pub map_set : (xs : List A) (i : ℕ) (x : A) → map f (set xs i x) ≡ set (map f xs) i (f x)
  map_set [] i x = refl
  map_set (y ∷ xs) zero x = refl
  map_set (y ∷ xs) (suc i) x = ap (λ l. f y ∷ l) (map_set xs i x)

  pub map_unroll : (at : ℕ) (xs : List A) → map f (unroll at xs) ≡ unroll at (map f xs)
  unfolding unroll
  map_unroll at xs =
      map-append f (reverse (take at xs)) (reverse (drop at xs))
      ∙ ap₂ (λ l r. l ++ r) (map_reverse (take at xs) ∙ ap reverse (map_take at xs)) (map_reverse (drop at xs) ∙ ap reverse (map_drop at xs))

  pub keep_map : (g : B → Bool) (xs : List A) → keep g (map f xs) ≡ map f (keep (λ x. g (f x)) xs)
  keep_map g [] = refl
  keep_map g (x ∷ xs) = go (g (f x)) (keep_map g xs)
    where
      go : (s : Bool) → keep g (map f xs) ≡ map f (keep (λ x. g (f x)) xs)
          → cond s (f x ∷ keep g (map f xs)) (keep g (map f xs)) ≡ map f (cond s (x ∷ keep (λ x. g (f x)) xs) (keep (λ x. g (f x)) xs))
      go true e = ap (λ l. f x ∷ l) e
      go false e = e
