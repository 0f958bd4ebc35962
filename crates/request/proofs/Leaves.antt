-- What the drops of a store leave, whatever the memory holds: no word outside the shadow tables' area changes; and where it drops nothing.
use mathlib.Core.Path.{◌≡◌, sym, ap}
use Prim.Native.Nat.{ℕ, ◌≤◌}
use native.Mathlib.Nat.{add-zero}
use native.Mathlib.Omega.{arith}
use mathlib.Core.Bool.{Bool, true, false, cond}
use mathlib.Core.List.{List}
use Rattle.spec.specs.declared.Answer.TheVariants as answer
use Rattle.spec.specs.Config.{Config}
use Rattle.words.specs.After.{After}
use Rattle.pool.specs.declared.Pool.{Pool}
use Rattle.pool.specs.Outside.{SameOutside}
use Rattle.pool.proofs.Outside.{out_refl}
use Rattle.layout.specs.Layout.{page}
use Rattle.drops.specs.declared.Left.{Left}
use Rattle.drops.specs.declared.Cut.TheVariants.{Word}
use Rattle.drops.specs.Drop.{scan_of}
use Rattle.drops.proofs.Outside.{scan_out}
use Rattle.drops.proofs.Fresh.{scan_fits}
use Rattle.shadow.specs.Watch.{watched_of}
use Rattle.request.specs.declared.Put.{Put}
use Rattle.translate.specs.declared.Held.{Held}
use Rattle.request.specs.Access.{serving, put, dropped_by, dropped_of, bytes_in, written_by}

pub record Drops (c : Config) (m : List ℕ) (o : After Put) : Type 0 where
  pub same : SameOutside c.hosts c.shadows m o.memory
  pub fresh : o.result.pool.fresh ≤ c.shadows
  pub exits : o.result.exits ≤ 1

pub drop_leaves : (c : Config) (m : List ℕ) (p : Pool) (t i : ℕ) → p.fresh ≤ c.shadows → Drops c m (dropped_of c m p t i)
unfolding dropped_of
drop_leaves c m p t i h = go (watched_of c m p.fresh t)
  where
    o : After Left
    o = scan_of c (Word (page t) i) p m

    by : (b : Bool) → Drops c m (cond b (put o.result.pool 1 true o.memory) (put p 0 false o.memory))
    by true = record { same = scan_out c (Word (page t) i) p m h; fresh = scan_fits c (Word (page t) i) p m h; exits = omega arith }
    by false = record { same = scan_out c (Word (page t) i) p m h; fresh = h; exits = omega arith }

    go : (b : Bool) → Drops c m (cond b (dropped_by p o) (put p 0 true m))
    go true = by o.result.ok
    go false = record { same = out_refl c.hosts c.shadows m; fresh = h; exits = omega arith }

-- the store to a frame that is not watched leaves what is held
pub written_plainly : (h held : Held) (n e t a w v : ℕ) (m : List ℕ) → serving held (answer.Done n e) (bytes_in m t a w v) ≡ written_by h held n e t a w v (λ x. x) (put held.pool 0 true m)
written_plainly h held n e t a w v m = ap (λ k. serving held (answer.Done n k) (bytes_in m t a w v)) (sym (add-zero e))
