-- The steps of the loops' definitions, and what a table given back and a search always satisfy.
use mathlib.Core.Path.{◌≡◌, refl, ap}
use Prim.Native.Nat.{ℕ, zero, suc, ◌-◌, ◌<◌}
use native.Mathlib.Omega.{arith}
use mathlib.Core.Bool.{Bool, true, false}
use mathlib.Core.List.{List, [], ◌∷◌}
use Rattle.spec.specs.Entry.{index, indexes}
use Rattle.pool.specs.declared.Area.{Area}
use Rattle.pool.specs.declared.Pool.{Pool}
use Rattle.pool.specs.declared.Way.{Way}
use Rattle.pool.specs.declared.Way.TheVariants.{To, Not, Damaged}
use Rattle.pool.specs.Header.{entry_at_of, parent_of, inside_of, bare_of}
use Rattle.spec_laws.proofs.Indexes.{indexes_step}
use Rattle.pool.specs.Pool.{follow_of, on_way, end}
use Rattle.prune.specs.Remove.{detach_of, release_top, release_of, last_table_of, last_index}
use Rattle.pool.proofs.Laws.{inside_true, Small, follow_small, AreaGood}

pub indexes_last : (k g : ℕ) → last_index (index k g) (indexes k g) ≡ index 0 g
unfolding last_index indexes
indexes_last zero g = refl
indexes_last (suc k) g = indexes_last k g

pub detach_good : (a : Area) (p : Pool) (m : List ℕ) (f : ℕ) → AreaGood a (detach_of a p m f).result.way
unfolding detach_of
detach_good a p m f = go (bare_of m f 512) (inside_of a.base a.size (parent_of m f)) refl refl
  where
    go : (t u : Bool) → bare_of m f 512 ≡ t → inside_of a.base a.size (parent_of m f) ≡ u → AreaGood a (detach_of a p m f).result.way
    go true true q r = rw (q, r) (inside_true a.base a.size (parent_of m f) r)
    go true false q r = rw (q, r) tt
    go false u q r = rw q tt

pub release_step : (a : Area) (stays : Bool) (p : Pool) (m : List ℕ) (k f : ℕ) → 0 < k
    → release_of a stays p m k f
    ≡ (let t = detach_of a p m f in
    on_way t.result.way (end t.result.pool (To f) t.memory) (end t.result.pool Damaged t.memory) (λ h. release_of a stays t.result.pool t.memory (k - 1) h))
unfolding release_of
release_step a stays p m zero f l = absurd (omega arith)
release_step a stays p m (suc k) f l =
    let d : suc k - 1 ≡ k = omega arith in
    simp d

pub release_none : (a : Area) (stays : Bool) (p : Pool) (m : List ℕ) (f : ℕ) → release_of a stays p m 0 f ≡ release_top stays p m f
unfolding release_of
release_none a stays p m f = refl

pub last_step : (b s : ℕ) (m : List ℕ) (e g left : ℕ) → 0 < left
    → last_table_of b s m e (index left g) (indexes left g)
    ≡ on_way (follow_of b s e) Not Damaged (λ f. last_table_of b s m (entry_at_of m f (index left g)) (index (left - 1) g) (indexes (left - 1) g))
unfolding last_table_of
last_step b s m e g left l = ap (λ is. last_table_of b s m e (index left g) is) (indexes_step left g l)

pub last_none : (b s : ℕ) (m : List ℕ) (e g : ℕ) → last_table_of b s m e (index 0 g) (indexes 0 g) ≡ follow_of b s e
unfolding last_table_of indexes
last_none b s m e g = refl

pub last_small : (b s : ℕ) (m : List ℕ) (e i : ℕ) (is : List ℕ) → Small (last_table_of b s m e i is)
unfolding last_table_of
last_small b s m e i [] = follow_small b s e
last_small b s m e i (j ∷ is) = go (follow_of b s e) (λ f. last_small b s m (entry_at_of m f i) j is)
  where
    go : (w : Way) → ((f : ℕ) → Small (last_table_of b s m (entry_at_of m f i) j is)) → Small (on_way w Not Damaged (λ f. last_table_of b s m (entry_at_of m f i) j is))
    go (To f) h = h f
    go Not h = tt
    go Damaged h = tt
