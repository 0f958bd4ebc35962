-- The first of a list by numbers is the last of the least. So of the automatic marks with the fewest charges the oldest leaves (Ages); and the
-- lowest prefix is found on numbers, in whatever order the tables are visited.
-- Assumes nothing.
use mathlib.Core.Path.{◌≡◌, refl, sym, ap, ◌∙◌, subst}
use Prim.Native.Nat.{ℕ, suc, ◌*◌, ◌^◌, ◌≤◌, ◌<◌}
use native.Mathlib.Omega.{arith}
use mathlib.Core.Bool.{Bool, true, false, not, ◌||◌, cond}
use mathlib.Core.List.{List, [], ◌∷◌, ◌++◌}
use mathlib.Core.Option.{Option, none, some}
use lib.Dec.{T, eqb, eqb→eq, ltb, ltb→lt, nleb→lt}
use Rattle.spec.specs.Entry.{indexes}
use Rattle.spec.specs.Prefix.{any}
use Rattle.spec.specs.Choice.{better, first_of, lower}
use Rattle.spec.specs.Prefix.{All}
use Rattle.spec_laws.proofs.Lists.{all_map, all_append}
use Rattle.spec_laws.proofs.Charges.{IfSome, first_has}
use Rattle.spec_laws.proofs.Lower.{lower_is}

-- ---- the last of the least

-- x is the last of the least in a list
pub record LastLeast {A : Type 0} (f : A → ℕ) (xs : List A) (x : A) : Type 0 where
  pub before : List A
  pub behind : List A
  pub split : xs ≡ before ++ x ∷ behind
  pub least : All (λ y. f x ≤ f y) before
  pub last : All (λ y. f x < f y) behind

module _ {A : Type 0} (f : A → ℕ) where
  abbrev less : A → A → Bool
  less x y = ltb (f x) (f y)

  abbrev Found : List A → Option A → Type 0
  Found xs none = xs ≡ []
  Found xs (some x) = LastLeast f xs x

  found : (xs : List A) → Found xs (first_of less xs)
  found [] = refl
  found (x ∷ xs) = go (first_of less xs) (found xs)
    where
      pick : (y : A) (b : Bool) → less x y ≡ b → LastLeast f xs y → LastLeast f (x ∷ xs) (cond b x y)
      pick y true e l =
          let h : f x < f y = ltb→lt (f x) (f y) (subst T (sym e) tt) in
          record {
            before = [];
            behind = xs;
            split = refl;
            least = tt;
            last = subst (All (λ z. f x < f z)) (sym l.split) (all_append (λ z. f x < f z) l.before (y ∷ l.behind)
                (all_map (λ z. f y ≤ f z) (λ z. f x < f z) l.before (λ z k. omega arith) l.least)
                (h, all_map (λ z. f y < f z) (λ z. f x < f z) l.behind (λ z k. omega arith) l.last));
          }
      pick y false e l =
          let h : f y < suc (f x) = nleb→lt (suc (f x)) (f y) (subst (λ b. T (not b)) (sym e) tt) in
          record { before = x ∷ l.before; behind = l.behind; split = ap (λ zs. x ∷ zs) l.split; least = (omega arith, l.least); last = l.last }

      go : (o : Option A) → Found xs o → LastLeast f (x ∷ xs) (better less x o)
      go none e = record { before = []; behind = []; split = ap (λ zs. x ∷ zs) e; least = tt; last = tt }
      go (some y) l = pick y (less x y) refl l

  pub last_least : (xs : List A) → IfSome (LastLeast f xs) (first_of less xs)
  last_least xs = go (first_of less xs) (found xs)
    where
      go : (o : Option A) → Found xs o → IfSome (LastLeast f xs) o
      go none h = tt
      go (some x) h = h

-- ---- prefixes as numbers

abbrev pub prefixes : ℕ → List ℕ → List (List ℕ)
prefixes k [] = []
prefixes k (n ∷ ns) = indexes k n ∷ prefixes k ns

abbrev pub prefix_of : ℕ → Option ℕ → Option (List ℕ)
prefix_of k none = none
prefix_of k (some n) = some (indexes k n)

-- the lowest of some prefixes is that of the least number
pub lowest_is : (k : ℕ) (ns : List ℕ) → All (λ n. n < 2 ^ (9 * k)) ns → first_of lower (prefixes k ns) ≡ prefix_of k (first_of ltb ns)
lowest_is k [] a = refl
lowest_is k (n ∷ ns) a = ap (λ o. some (better lower (indexes k n) o)) (lowest_is k ns a.1) ∙ go (first_of ltb ns) (first_has (λ m. m < 2 ^ (9 * k)) ltb ns a.1)
  where
    pick : (m : ℕ) (b : Bool) → cond b (indexes k n) (indexes k m) ≡ indexes k (cond b n m)
    pick m true = refl
    pick m false = refl

    go : (o : Option ℕ) → IfSome (λ m. m < 2 ^ (9 * k)) o → ◌≡◌ {A = Option (List ℕ)} (some (better lower (indexes k n) (prefix_of k o))) (some (indexes k (better ltb n o)))
    go none h = refl
    go (some m) h = ap (λ b. some (cond b (indexes k n) (indexes k m))) (lower_is k n m a.0 h) ∙ ap (λ p. some p) (pick m (ltb n m))

-- ---- the least of two lists with the same members

abbrev pub Within : List ℕ → List ℕ → Type 0
Within xs ys = All (λ x. T (any (eqb x) ys)) xs

in_has : (P : ℕ → Type 0) (n : ℕ) (ys : List ℕ) → All P ys → T (any (eqb n) ys) → P n
in_has P n [] a h = absurd h
in_has P n (y ∷ ys) a h = go (eqb n y) refl h (in_has P n ys a.1)
  where
    go : (b : Bool) → eqb n y ≡ b → T (b || any (eqb n) ys) → (T (any (eqb n) ys) → P n) → P n
    go true e k ih = subst P (sym (eqb→eq n y (subst T (sym e) tt))) a.0
    go false e k ih = ih k

least_all : (xs : List ℕ) (x : ℕ) → LastLeast (λ n. n) xs x → All (λ y. x ≤ y) xs
least_all xs x l =
    subst (All (λ y. x ≤ y)) (sym l.split) (all_append (λ y. x ≤ y) l.before (x ∷ l.behind) l.least
    (omega arith, all_map (λ y. x < y) (λ y. x ≤ y) l.behind (λ y h. omega arith) l.last))

least_in : (P : ℕ → Type 0) (xs : List ℕ) (x : ℕ) → LastLeast (λ n. n) xs x → All P xs → P x
least_in P xs x l a = go l.before (subst (All P) l.split a)
  where
    go : (us : List ℕ) → All P (us ++ x ∷ l.behind) → P x
    go [] b = b.0
    go (u ∷ us) b = go us b.1

-- the order in which they are visited does not matter
pub least_same : (xs ys : List ℕ) → Within xs ys → Within ys xs → first_of ltb xs ≡ first_of ltb ys
least_same [] [] f g = refl
least_same [] (y ∷ ys) f g = absurd g.0
least_same (x ∷ xs) [] f g = absurd f.0
least_same (x ∷ xs) (y ∷ ys) f g =
    let a = better ltb x (first_of ltb xs) in
    let b = better ltb y (first_of ltb ys) in
    let la : LastLeast (λ n. n) (x ∷ xs) a = last_least (λ n. n) (x ∷ xs) in
    let lb : LastLeast (λ n. n) (y ∷ ys) b = last_least (λ n. n) (y ∷ ys) in
    let u : b ≤ a = in_has (λ n. b ≤ n) a (y ∷ ys) (least_all (y ∷ ys) b lb) (least_in (λ n. T (any (eqb n) (y ∷ ys))) (x ∷ xs) a la f) in
    let v : a ≤ b = in_has (λ n. a ≤ n) b (x ∷ xs) (least_all (x ∷ xs) a la) (least_in (λ n. T (any (eqb n) (x ∷ xs))) (y ∷ ys) b lb g) in
    let e : a ≡ b = omega arith in
    ap (λ n. some n) e
