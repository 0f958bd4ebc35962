-- Headers in range, and the frames that an entry or a pool hands out, which lie in the area.
use mathlib.Core.Path.{◌≡◌, refl}
use mathlib.Core.Logic.{◌≢◌}
use Prim.Native.Nat.{ℕ, zero, suc, ◌+◌, ◌*◌, ◌-◌, ◌/◌, ◌%◌, ◌≤◌, ◌<◌}
use native.Mathlib.Omega.{arith}
use native.Mathlib.Decide.{ℕ_discrete}
use mathlib.Core.Bool.{Bool, true, false, cond}
use mathlib.Core.List.{List}
use lib.Dec.{eqb, ltb}
use borrow.Author.Tests.{eq-eqb, ne_eqb, ltb-true, ltb-false}
use Rattle.spec.specs.Entry.{present, frame_of, frame_limit}
use Rattle.words.specs.Words.{zeroed}
use Rattle.pool.specs.declared.Area.{Area}
use Rattle.pool.specs.declared.Pool.{Pool}
use Rattle.pool.specs.declared.Way.{Way}
use Rattle.pool.specs.declared.Way.TheVariants.{To, Not, Damaged}
use Rattle.pool.specs.Header.{entry_at_of, parent_of, slot_of, inside_of, bare_of}
use Rattle.pool.specs.Pool.{follow_of, on_way, end, pool_of, fresh_of, freed_of, take_of}

-- ---- headers
pub parent_small : (m : List ℕ) (f : ℕ) → parent_of m f < 65536
unfolding parent_of
parent_small m f = omega arith

-- two numbers by their low 16 bits and the rest
pub low_same : (l u g : ℕ) → l ≡ g % 65536 → eqb u (g / 65536) ≡ eqb (l + 65536 * u) g
low_same l u g e = go (ℕ_discrete u (g / 65536))
  where
    go : Dec (u ≡ g / 65536) → eqb u (g / 65536) ≡ eqb (l + 65536 * u) g
    go (yes q) = rw (eq-eqb u (g / 65536) q, eq-eqb (l + 65536 * u) g (omega arith))
    go (no q) = rw (ne_eqb u (g / 65536) q, ne_eqb (l + 65536 * u) g (λ r. q (omega arith)))

pub low_other : (l u g : ℕ) → l < 65536 → l ≢ g % 65536 → eqb (l + 65536 * u) g ≡ false
low_other l u g s n = ne_eqb (l + 65536 * u) g (λ r. n (omega arith))

pub slot_small : (m : List ℕ) (f : ℕ) → slot_of m f < 512
unfolding slot_of
slot_small m f = omega arith

pub bare_more : (m : List ℕ) (f k : ℕ) → 0 < k → bare_of m f k ≡ cond (present (entry_at_of m f (k - 1))) false (bare_of m f (k - 1))
unfolding bare_of
bare_more m f zero l = absurd (omega arith)
bare_more m f (suc k) l =
    let e : suc k - 1 ≡ k = omega arith in
    rw e

pub bare_none : (m : List ℕ) (f k : ℕ) → k ≡ 0 → bare_of m f k ≡ true
unfolding bare_of
bare_none m f k e = rw e

-- ---- what is handed out, or hopped to, lies in the area
abbrev pub WayGood : ℕ → ℕ → Way → Type 0
WayGood b s (To f) = (b ≤ f) × (f < b + s)
WayGood b s Not = Unit {0}
WayGood b s Damaged = Unit {0}

pub inside_true : (b s f : ℕ) → inside_of b s f ≡ true → (b ≤ f) × (f < b + s)
unfolding inside_of
inside_true b s f = go (ltb f b) (ltb (f - b) s) refl refl
  where
    go : (x y : Bool) → ltb f b ≡ x → ltb (f - b) s ≡ y → cond x false y ≡ true → (b ≤ f) × (f < b + s)
    go true y q r z = let w : ◌≡◌ {A = ℕ} 0 1 = cc in absurd (omega arith)
    go false true q r z =
        let l = ltb-false f b q in
        let n = ltb-true (f - b) s r in
        (l, omega arith)
    go false false q r z = let w : ◌≡◌ {A = ℕ} 0 1 = cc in absurd (omega arith)

pub way_inside : (b s f : ℕ) (t : Bool) → inside_of b s f ≡ t → WayGood b s (cond t (To f) Damaged)
way_inside b s f true q = inside_true b s f q
way_inside b s f false q = tt

pub follow_good : (b s e : ℕ) → WayGood b s (follow_of b s e)
unfolding follow_of
follow_good b s e = go (present e)
  where
    go : (t : Bool) → WayGood b s (cond t (cond (inside_of b s (frame_of e)) (To (frame_of e)) Damaged) Not)
    go true = way_inside b s (frame_of e) (inside_of b s (frame_of e)) refl
    go false = tt

abbrev pub Small : Way → Type 0
Small (To f) = f < frame_limit
Small Not = Unit {0}
Small Damaged = Unit {0}

-- wherever the area lies
pub follow_small : (b s e : ℕ) → Small (follow_of b s e)
unfolding follow_of frame_of
follow_small b s e = go (present e) (inside_of b s (frame_of e))
  where
    go : (t u : Bool) → Small (cond t (cond u (To (frame_of e)) Damaged) Not)
    go true true = omega arith
    go true false = tt
    go false u = tt

abbrev pub AreaGood : Area → Way → Type 0
AreaGood a w = WayGood a.base a.size w

fresh_good : (a : Area) (p : Pool) (m : List ℕ) → AreaGood a (fresh_of a p m).result.way
unfolding fresh_of
fresh_good a p m = go (ltb p.fresh a.size) refl
  where
    go : (t : Bool) → ltb p.fresh a.size ≡ t
        → AreaGood a (cond t (end (pool_of (p.fresh + 1) p.free (p.used + 1) p.top) (To (a.base + p.fresh)) (zeroed m ((a.base + p.fresh) * 512) 512)) (end p Damaged m)).result.way
    go true q =
        let l = ltb-true p.fresh a.size q in
        (omega arith, omega arith)
    go false q = tt

pub take_good : (a : Area) (p : Pool) (m : List ℕ) → AreaGood a (take_of a p m).result.way
unfolding take_of freed_of
take_good a p m = go (ltb p.used a.size) (follow_of a.base a.size p.free) (follow_good a.base a.size p.free)
  where
    go : (t : Bool) (w : Way) → AreaGood a w → AreaGood a (cond t (on_way w (fresh_of a p m) (end p Damaged m) (freed_of p m)) (end p Not m)).result.way
    go true (To f) g = g
    go true Not g = fresh_good a p m
    go true Damaged g = tt
    go false w g = tt
