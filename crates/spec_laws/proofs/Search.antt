-- The search among the marks finds the depth, and what it reads: all marks where none is of level N + 1, else those up to that one,
-- whatever the address is.
-- Assumes nothing.
use mathlib.Core.Path.{◌≡◌, refl, sym, ap, ◌∙◌, subst}
use Prim.Native.Nat.{ℕ, suc, ◌+◌, ◌-◌, max}
use native.Mathlib.Omega.{arith}
use mathlib.Core.Bool.{Bool, true, false, ◌||◌, cond}
use mathlib.Core.List.{List, [], ◌∷◌, ◌++◌, append-nil}
use lib.Dec.{T, eqb→eq}
use lib.ListN.{length}
use Rattle.spec.specs.Prefix.{begins, any, All}
use Rattle.spec.specs.Book.{Mark, level_for, depth}
use Rattle.spec.specs.Search.{nothing, ends, search}
use Rattle.spec_laws.proofs.Depth.{MarkFits, depth_bound}

-- a mark that ends the search keeps no index, so it holds for every address
ends_holds : (n : ℕ) (m : Mark) (is : List ℕ) → MarkFits n m → ends n m ≡ true → level_for m is ≡ suc n
ends_holds n m is ok e =
    let l : m.level ≡ suc n = eqb→eq m.level (suc n) (subst T (sym e) tt) in
    ap (λ b. cond b m.level 0) (holds m.prefix (ok.kept ∙ ap (λ k. n - k) l)) ∙ l
  where
    holds : (p : List ℕ) → length p ≡ n - suc n → begins p is ≡ true
    holds [] h = refl
    holds (i ∷ p) h = absurd (omega arith)

pub search_depth : (n : ℕ) (ms : List Mark) (is : List ℕ) → All (MarkFits n) ms → (search n ms is).depth ≡ depth ms is
search_depth n [] is a = refl
search_depth n (m ∷ ms) is a = go (ends n m) refl (search_depth n ms is a.1)
  where
    go : (b : Bool) → ends n m ≡ b → (search n ms is).depth ≡ depth ms is
        → max (level_for m is) (cond b nothing (search n ms is)).depth ≡ max (level_for m is) (depth ms is)
    go true e ih = omega (arith, ends_holds n m is a.0 e, depth_bound n ms is a.1)
    go false e ih = ap (max (level_for m is)) ih

-- ---- how many marks are read

-- the address does not matter
pub search_read : (n : ℕ) (ms : List Mark) (is js : List ℕ) → (search n ms is).read ≡ (search n ms js).read
search_read n [] is js = refl
search_read n (m ∷ ms) is js = ap suc (go (ends n m) (search_read n ms is js))
  where
    go : (b : Bool) → (search n ms is).read ≡ (search n ms js).read → (cond b nothing (search n ms is)).read ≡ (cond b nothing (search n ms js)).read
    go true ih = refl
    go false ih = ih

-- marks of which none ends it are all read, and then as many of the others as a search among those reads
pub search_over : (n : ℕ) (us vs : List Mark) (is : List ℕ) → any (ends n) us ≡ false → (search n (us ++ vs) is).read ≡ length us + (search n vs is).read
search_over n [] vs is none = omega arith
search_over n (u ∷ us) vs is none = ap suc (go (ends n u) none (search_over n us vs is)) ∙ omega arith
  where
    go : (b : Bool) → (b || any (ends n) us) ≡ false → (any (ends n) us ≡ false → (search n (us ++ vs) is).read ≡ length us + (search n vs is).read)
        → (cond b nothing (search n (us ++ vs) is)).read ≡ length us + (search n vs is).read
    go true e ih = absurd (let z : ◌≡◌ {A = ℕ} 0 1 = cc in omega arith)
    go false e ih = ih e

-- all that are set, where none ends it
pub search_all : (n : ℕ) (ms : List Mark) (is : List ℕ) → any (ends n) ms ≡ false → (search n ms is).read ≡ length ms
search_all n ms is none = ap (λ l. (search n l is).read) (sym (append-nil ms)) ∙ search_over n ms [] is none ∙ omega arith

-- else those up to the one that ends it and with it: us stand at the places before it
pub search_stops : (n : ℕ) (us vs : List Mark) (m : Mark) (is : List ℕ) → any (ends n) us ≡ false → ends n m ≡ true
    → (search n (us ++ m ∷ vs) is).read ≡ suc (length us)
search_stops n us vs m is none last = search_over n us (m ∷ vs) is none ∙ rw last (omega arith)
