-- Laws of `zeroed`: one more word, its length, and its words.
-- Assumes nothing.
use Prim.Native.Nat.{ℕ, zero, suc, ◌+◌, ◌≤◌, ◌<◌}
use mathlib.Core.Path.{◌≡◌, refl, ◌∙◌}
use mathlib.Core.List.{List}
use native.Mathlib.Numerals.{add-one}
use native.Mathlib.Omega.{arith}
use mathlib.Core.Bool.{Bool, true, false}
use lib.Dec.{eqb}
use borrow.Author.Tests.{eqb-true, eqb-false}
use lib.ListN.{length, get_or, set, length-set}
use lib.Seq.{get_or-set_same, get_or-set_other}
use Rattle.words.specs.Words.{zeroed}

pub zeroed_none : (m : List ℕ) (place : ℕ) → zeroed m place 0 ≡ m
unfolding zeroed
zeroed_none m place = refl

pub zeroed_more : (m : List ℕ) (place n : ℕ) → set (zeroed m place n) (place + n) 0 ≡ zeroed m place (n + 1)
unfolding zeroed
zeroed_more m place n = rw add-one

pub zeroed_length : (m : List ℕ) (place n : ℕ) → length (zeroed m place n) ≡ length m
unfolding zeroed
zeroed_length m place zero = refl
zeroed_length m place (suc n) = length-set (zeroed m place n) (place + n) 0 ∙ zeroed_length m place n

-- below the part
pub zeroed_below : (m : List ℕ) (place n j : ℕ) → j < place → get_or (zeroed m place n) j 0 ≡ get_or m j 0
unfolding zeroed
zeroed_below m place zero j l = refl
zeroed_below m place (suc n) j l =
    get_or-set_other (zeroed m place n) (place + n) j 0 0 (omega arith) ∙ zeroed_below m place n j l

-- above it
pub zeroed_above : (m : List ℕ) (place n j : ℕ) → place + n ≤ j → get_or (zeroed m place n) j 0 ≡ get_or m j 0
unfolding zeroed
zeroed_above m place zero j l = refl
zeroed_above m place (suc n) j l =
    get_or-set_other (zeroed m place n) (place + n) j 0 0 (omega arith) ∙ zeroed_above m place n j (omega arith)

-- in it
pub zeroed_inside : (m : List ℕ) (place n j : ℕ) → place ≤ j → j < place + n → j < length m → get_or (zeroed m place n) j 0 ≡ 0
unfolding zeroed
zeroed_inside m place zero j a b l = absurd (omega arith)
zeroed_inside m place (suc n) j a b l = go (eqb j (place + n)) refl (λ h. zeroed_inside m place n j a h l)
  where
    go : (t : Bool) → eqb j (place + n) ≡ t → (j < place + n → get_or (zeroed m place n) j 0 ≡ 0)
        → get_or (set (zeroed m place n) (place + n) 0) j 0 ≡ 0
    go true q k =
        let e = eqb-true j (place + n) q in
        rw (← e) (get_or-set_same (zeroed m place n) j 0 0 (rw zeroed_length l))
    go false q k =
        let ne = eqb-false j (place + n) q in
        get_or-set_other (zeroed m place n) (place + n) j 0 0 ne ∙ k (omega arith)
