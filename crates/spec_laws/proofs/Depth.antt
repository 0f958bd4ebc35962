-- The depth of an address rests on the indexes above it alone, and no held path is a proper prefix of another.
-- Assumes nothing.
use mathlib.Core.Path.{◌≡◌, refl, sym, ap, ap₂, ◌∙◌, subst}
use Prim.Native.Nat.{ℕ, zero, suc, ◌-◌, max, ◌<◌, ◌≤◌}
use native.Mathlib.Nat.{le_of_suc-le-suc, not-suc-le-zero}
use native.Mathlib.Omega.{arith}
use mathlib.Core.Bool.{Bool, true, false, not, ◌&&◌, cond}
use mathlib.Core.Logic.{◌⊎◌, inl, inr}
use mathlib.Core.List.{List, [], ◌∷◌}
use lib.Dec.{T, eqb, eqb→eq, leb, leb→le, nleb→lt}
use lib.ListN.{length, take}
use lib.Seq.{take-take, length-take-le}
use Rattle.spec.specs.Prefix.{begins, keep}
use Rattle.spec.specs.Book.{Mark, level_for, depth}
use Rattle.spec.specs.Prefix.{All}
use Rattle.spec_laws.proofs.Lists.{and_left, and_right, begins_refl}

-- a prefix no longer than k is seen in the first k
begins_take : (p xs : List ℕ) (k : ℕ) → length p ≤ k → begins p xs ≡ begins p (take k xs)
begins_take [] xs k h = refl
begins_take (x ∷ p) xs zero h = absurd (not-suc-le-zero h)
begins_take (x ∷ p) [] (suc k) h = refl
begins_take (x ∷ p) (y ∷ xs) (suc k) h = ap (λ b. eqb x y && b) (begins_take p xs k (le_of_suc-le-suc h))

pub begins_is : (p xs : List ℕ) → T (begins p xs) → take (length p) xs ≡ p
begins_is [] xs h = refl
begins_is (x ∷ p) [] h = absurd h
begins_is (x ∷ p) (y ∷ xs) h =
    ap₂ (λ a l. a ∷ l) (sym (eqb→eq x y (and_left (eqb x y) (begins p xs) h))) (begins_is p xs (and_right (eqb x y) (begins p xs) h))

take_less : (k j : ℕ) (xs ys : List ℕ) → j ≤ k → take k xs ≡ take k ys → take j xs ≡ take j ys
take_less k j xs ys h e = sym (take-take j k xs h) ∙ ap (take j) e ∙ take-take j k ys h

-- of two prefixes of one list the shorter is a prefix of the longer
begins_both : (a b xs : List ℕ) → T (begins a xs) → T (begins b xs) → length a ≤ length b → T (begins a b)
begins_both a b xs ha hb l = subst T (begins_take a xs (length b) l ∙ ap (begins a) (begins_is b xs hb)) ha

-- a mark of n levels of tables: it keeps the indexes that its level leaves
pub record MarkFits (n : ℕ) (m : Mark) : Type 0 where
  pub kept : length m.prefix ≡ n - m.level
  pub bound : m.level ≤ suc n

max_left : (e a b c : ℕ) → max e a ≡ max e b → max e (max a c) ≡ max e (max b c)
max_left e a b c h = omega arith

max_right : (e a c d : ℕ) → max e c ≡ max e d → max e (max a c) ≡ max e (max a d)
max_right e a c d h = omega arith

level_most : (n : ℕ) (m : Mark) (is : List ℕ) → m.level ≤ n → level_for m is ≤ n
level_most n m is h = go (begins m.prefix is)
  where
    go : (b : Bool) → cond b m.level 0 ≤ n
    go true = h
    go false = omega arith

pub depth_bound : (n : ℕ) (ms : List Mark) (is : List ℕ) → All (MarkFits n) ms → depth ms is ≤ suc n
depth_bound n [] is a = omega arith
depth_bound n (m ∷ ms) is a =
    let h = level_most (suc n) m is a.0.bound in
    let k = depth_bound n ms is a.1 in
    omega arith

module _ (n e : ℕ) (is js : List ℕ) (same : take (n - suc e) is ≡ take (n - suc e) js) where
  -- above level e the marks are the same
  level_same : (m : Mark) → MarkFits n m → max e (level_for m is) ≡ max e (level_for m js)
  level_same m ok = go (leb (suc e) m.level) refl
    where
      at_most : (b : Bool) → m.level ≤ e → max e (cond b m.level 0) ≡ e
      at_most true h = omega arith
      at_most false h = omega arith

      go : (b : Bool) → leb (suc e) m.level ≡ b → max e (level_for m is) ≡ max e (level_for m js)
      go true h =
          let l : suc e ≤ m.level = leb→le (suc e) m.level (subst T (sym h) tt) in
          let k : length m.prefix ≤ n - suc e = omega (arith, ok.kept) in
          ap (λ b. max e (cond b m.level 0))
          (begins_take m.prefix is (n - suc e) k ∙ ap (begins m.prefix) same ∙ sym (begins_take m.prefix js (n - suc e) k))
      go false h =
          let l : m.level < suc e = nleb→lt (suc e) m.level (subst (λ b. T (not b)) (sym h) tt) in
          at_most (begins m.prefix is) (omega arith) ∙ sym (at_most (begins m.prefix js) (omega arith))

  pub depth_above : (ms : List Mark) → All (MarkFits n) ms → max e (depth ms is) ≡ max e (depth ms js)
  depth_above [] a = refl
  depth_above (m ∷ ms) a =
      max_left e (level_for m is) (level_for m js) (depth ms is) (level_same m a.0) ∙ max_right e (level_for m js) (depth ms is) (depth ms js) (depth_above ms a.1)

-- two addresses that agree on the first N − d indexes, d being the depth of one, have the same depth
pub depth_same : (n : ℕ) (ms : List Mark) (is js : List ℕ) → All (MarkFits n) ms
    → take (n - depth ms is) is ≡ take (n - depth ms is) js → depth ms js ≡ depth ms is
depth_same n ms is js ok h = go (depth ms is) refl
  where
    go : (d : ℕ) → depth ms is ≡ d → depth ms js ≡ depth ms is
    go zero e =
        let s = take_less (n - depth ms is) (n - 1) is js (omega arith) h in
        let a = depth_above n 0 is js s ms ok in
        omega arith
    go (suc d) e =
        let a = depth_above n d is js (subst (λ x. take (n - x) is ≡ take (n - x) js) e h) ms ok in
        omega arith

-- a held path whose walk read k guest entries: every address that begins with it has one depth by the marks. It keeps the indexes above that
-- depth; or it has all n, and its walk, into a large page, read no entry of a marked level
pub record PathFits (n : ℕ) (ms : List Mark) (p : List ℕ) (k : ℕ) : Type 0 where
  pub at : ℕ
  pub long : ((at ≤ n) × (length p ≡ n - at)) ⊎ ((length p ≡ n) × (k ≤ n - at))
  pub deep : (is : List ℕ) → T (begins p is) → depth ms is ≡ at

begins_long : (p q : List ℕ) → T (begins p q) → length p ≤ length q
begins_long [] q h = omega arith
begins_long (x ∷ p) [] h = absurd h
begins_long (x ∷ p) (y ∷ q) h = let l = begins_long p q (and_right (eqb x y) (begins p q) h) in omega (arith, l)

-- no such path is a proper prefix of another, if the walk of that would read an entry more
pub no_proper_prefix : (n : ℕ) (ms : List Mark) (p q : List ℕ) (j k : ℕ) → PathFits n ms p j → PathFits n ms q k
    → (T (begins p q) → length p < length q → length p < k) → T (begins p q) → p ≡ q
no_proper_prefix n ms p q j k f g beyond h = sym (begins_is p q h) ∙ ap (λ x. take x q) (same f.long g.long) ∙ begins_is q q (begins_refl q)
  where
    alike : f.at ≡ g.at
    alike = sym (f.deep q h) ∙ g.deep q (begins_refl q)

    most : length p ≤ length q
    most = begins_long p q h

    same : ((f.at ≤ n) × (length p ≡ n - f.at)) ⊎ ((length p ≡ n) × (j ≤ n - f.at))
        → ((g.at ≤ n) × (length q ≡ n - g.at)) ⊎ ((length q ≡ n) × (k ≤ n - g.at)) → length p ≡ length q
    same (inl x) (inl y) = omega (arith, x.1, y.1, alike)
    same (inr x) (inl y) = omega (arith, x.0, y.1, most)
    same (inr x) (inr y) = x.0 ∙ sym y.0
    same (inl x) (inr y) = go (leb (length q) (length p)) refl
      where
        go : (b : Bool) → leb (length q) (length p) ≡ b → length p ≡ length q
        go true e = let l = leb→le (length q) (length p) (subst T (sym e) tt) in omega (arith, l, most)
        go false e =
            let l = nleb→lt (length q) (length p) (subst (λ b. T (not b)) (sym e) tt) in
            let z = beyond h l in
            absurd (omega (arith, z, x.1, y.1, alike))

-- a path that is filled is one
pub fill_fits : (n : ℕ) (ms : List Mark) (is : List ℕ) (k : ℕ) → All (MarkFits n) ms → length is ≡ n → depth ms is ≤ n → PathFits n ms (take (n - depth ms is) is) k
fill_fits n ms is k ok l b =
    let e : length (take (n - depth ms is) is) ≡ n - depth ms is = length-take-le (n - depth ms is) is (omega arith) in
    record { at = depth ms is; long = inl (b, e); deep = λ js h. depth_same n ms is js ok (sym (rw e at (begins_is (take (n - depth ms is) is) js h))) }

-- and so is one of a large page above the marked levels
pub large_fits : (n : ℕ) (ms : List Mark) (is : List ℕ) (k : ℕ) → All (MarkFits n) ms → length is ≡ n → k ≤ n - depth ms is → PathFits n ms is k
large_fits n ms is k ok l b = record {
  at = depth ms is;
  long = inr (l, b);
  deep = λ js h.
      let e : take n js ≡ is = subst (λ x. take x js ≡ is) l (begins_is is js h) in
      let a : take n is ≡ is = subst (λ x. take x is ≡ is) l (begins_is is is (begins_refl is)) in
      depth_same n ms is js ok (take_less n (n - depth ms is) is js (omega arith) (a ∙ sym e));
}

-- ---- a mark is set or cleared: a path that does not begin with its prefix is as deep as it was

module _ (n : ℕ) (ms : List Mark) (p : List ℕ) (k : ℕ) (f : PathFits n ms p k) where
  -- a mark whose prefix the path does not begin with has a lower level wherever it counts
  lower_mark : (m : Mark) (is : List ℕ) → MarkFits n m → (T (begins m.prefix p) → ⊥) → T (begins p is) → T (begins m.prefix is) → m.level < f.at
  lower_mark m is ok off hp hm = go (leb (length m.prefix) (length p)) refl
    where
      go : (b : Bool) → leb (length m.prefix) (length p) ≡ b → m.level < f.at
      go true e = absurd (off (begins_both m.prefix p is hm hp (leb→le (length m.prefix) (length p) (subst T (sym e) tt))))
      go false e =
          let l = nleb→lt (length m.prefix) (length p) (subst (λ b. T (not b)) (sym e) tt) in
          elim f.long [ inl x ↦ omega (arith, l, ok.kept, x.0, x.1) | inr x ↦ absurd (omega (arith, l, ok.kept, x.0)) ]

  level_low : (m : Mark) (is : List ℕ) → MarkFits n m → (T (begins m.prefix p) → ⊥) → T (begins p is) → level_for m is ≤ f.at - 1
  level_low m is ok off hp = go (begins m.prefix is) refl
    where
      go : (b : Bool) → begins m.prefix is ≡ b → cond b m.level 0 ≤ f.at - 1
      go true e = let l = lower_mark m is ok off hp (subst T (sym e) tt) in omega arith
      go false e = omega arith

  pub set_fits : (m : Mark) → MarkFits n m → (T (begins m.prefix p) → ⊥) → PathFits n (m ∷ ms) p k
  set_fits m ok off = record {
    at = f.at;
    long = f.long;
    deep = λ is h. let a = f.deep is h in let b = level_low m is ok off h in omega arith;
  }

  -- marks that are taken away, none of which the path begins with, leave the greatest where it is
  kept_depth : (q : Mark → Bool) (ks : List Mark) (is : List ℕ) → All (MarkFits n) ks
      → All (λ m. T (not (q m)) → T (begins m.prefix p) → ⊥) ks → T (begins p is)
      → (max (f.at - 1) (depth (keep q ks) is) ≡ max (f.at - 1) (depth ks is)) × (depth (keep q ks) is ≤ depth ks is)
  kept_depth q [] is ok off hp = (refl, omega arith)
  kept_depth q (m ∷ ks) is ok off hp = go (q m) refl (kept_depth q ks is ok.1 off.1 hp)
    where
      go : (b : Bool) → q m ≡ b
          → (max (f.at - 1) (depth (keep q ks) is) ≡ max (f.at - 1) (depth ks is)) × (depth (keep q ks) is ≤ depth ks is)
          → (max (f.at - 1) (depth (cond b (m ∷ keep q ks) (keep q ks)) is) ≡ max (f.at - 1) (depth (m ∷ ks) is))
          × (depth (cond b (m ∷ keep q ks) (keep q ks)) is ≤ depth (m ∷ ks) is)
      go true e ih = (max_right (f.at - 1) (level_for m is) (depth (keep q ks) is) (depth ks is) ih.0, omega (arith, ih.1))
      go false e ih =
          let l = level_low m is ok.0 (off.0 (subst (λ b. T (not b)) (sym e) tt)) hp in
          (omega (arith, ih.0), omega (arith, ih.1))

  pub clear_fits : (q : Mark → Bool) → All (MarkFits n) ms → All (λ m. T (not (q m)) → T (begins m.prefix p) → ⊥) ms → PathFits n (keep q ms) p k
  clear_fits q ok off = record {
    at = f.at;
    long = f.long;
    deep = λ is h.
        let a = f.deep is h in
        let z = kept_depth q ms is ok off h in
        omega (arith, z.0, z.1);
  }
