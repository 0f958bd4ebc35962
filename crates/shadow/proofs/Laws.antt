-- Bits of an entry, and the steps of the search for a watched frame.
use mathlib.Core.Path.{◌≡◌, refl}
use Prim.Native.Nat.{ℕ, zero, suc, ◌+◌, ◌-◌, ◌≤◌, ◌<◌}
use native.Mathlib.Omega.{arith}
use mathlib.Core.Bool.{Bool, true, false, cond}
use mathlib.Core.List.{List}
use Rattle.shadow.specs.Watch.{watches_of, watched_from}

pub bit_small : (b : Bool) (v : ℕ) → cond b v 0 ≤ v
bit_small true v = omega arith
bit_small false v = omega arith

-- ---- watched frames
pub watched_step : (m : List ℕ) (b t k : ℕ) → 0 < k → watched_from m b t k ≡ cond (watches_of m (b + (k - 1)) t) true (watched_from m b t (k - 1))
unfolding watched_from
watched_step m b t zero l = absurd (omega arith)
watched_step m b t (suc k) l =
    let d : suc k - 1 ≡ k = omega arith in
    rw d

pub watched_none : (m : List ℕ) (b t : ℕ) → watched_from m b t 0 ≡ false
unfolding watched_from
watched_none m b t = refl
