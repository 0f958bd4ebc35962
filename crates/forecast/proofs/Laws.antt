-- Steps of the definitions, as the loops take them.
use mathlib.Core.Path.{◌≡◌, refl, ap, ◌∙◌}
use Prim.Native.Nat.{ℕ, zero, suc, ◌+◌, ◌-◌, ◌/◌, ◌<◌}
use native.Mathlib.Omega.{arith}
use mathlib.Core.Bool.{Bool, false, ◌||◌, cond}
use mathlib.Core.List.{List}
use lib.ListN.{get_or, length, drop}
use lib.Seq.{drop-cons}
use Rattle.spec.specs.Config.{Config}
use Rattle.spec.specs.Prefix.{any}
use Rattle.marks.specs.Key.{key_at}
use Rattle.translate.specs.declared.Held.{Held}
use Rattle.forecast.specs.declared.Outlook.{Outlook}
use Rattle.forecast.specs.Forecast.{newest, passes, met_from, address_of, onward, list_of}

pub any_step : (f : ℕ → Bool) (ks : List ℕ) (n : ℕ) → 0 < n → any f (newest ks n) ≡ (f (get_or ks (n - 1) 0) || any f (newest ks (n - 1)))
unfolding newest
any_step f ks zero l = absurd (omega arith)
any_step f ks (suc n) l = let z : suc n - 1 ≡ n = omega arith in rw z

pub any_none : (f : ℕ → Bool) (ks : List ℕ) → any f (newest ks 0) ≡ false
unfolding newest
any_none f ks = refl

pub met_step : (qs : List ℕ) (levels a d k : ℕ) → 0 < k
    → met_from qs levels a d k ≡ cond (any (passes (d + k) (key_at levels (d + k) a / 8)) qs) (suc (met_from qs levels a d (k - 1))) 0
unfolding met_from
met_step qs levels a d zero l = absurd (omega arith)
met_step qs levels a d (suc k) l = let z : suc k - 1 ≡ k = omega arith in rw z

pub met_none : (qs : List ℕ) (levels a d : ℕ) → met_from qs levels a d 0 ≡ 0
unfolding met_from
met_none qs levels a d = refl

-- the address at place i, and the list after it
pub list_step : (c : Config) (ht : ℕ) (m : List ℕ) (h : Held) (root : ℕ) (marks ks : List ℕ) (o : Outlook) (xs : List ℕ) (i : ℕ) → i < length xs
    → let n = address_of c ht m h root marks ks o (get_or xs i 0) in
    list_of c ht m h root marks ks o (drop i xs) ≡ onward n.result (λ u. list_of c ht m h root marks n.memory u (drop (i + 1) xs))
unfolding list_of
list_step c ht m h root marks ks o xs i l =
    let n = address_of c ht m h root marks ks o (get_or xs i 0) in
    let z : suc i ≡ i + 1 = omega arith in
    ap (list_of c ht m h root marks ks o) (drop-cons xs i 0 l) ∙ ap (λ j. onward n.result (λ u. list_of c ht m h root marks n.memory u (drop j xs))) z
