-- The places that a walk hands out, step by step.
use mathlib.Core.Path.{◌≡◌, refl, ap, ◌∙◌}
use Prim.Native.Nat.{ℕ, zero, suc, pred, ◌+◌, ◌-◌, ◌<◌, ◌≤◌}
use native.Mathlib.Omega.{arith}
use mathlib.Core.Bool.{Bool, true, false}
use mathlib.Core.List.{List, [], ◌∷◌}
use mathlib.Core.Option.{Option, none, some}
use lib.ListN.{get_or, set, length, length-set, replicate}
use lib.Seq.{get_or-set_same, get_or-set_other}
use Rattle.spec.specs.declared.Fault.{Fault}
use Rattle.spec.specs.declared.Fault.TheVariants.{Absent, Malformed, Protected, HostAbsent, HostReadOnly}
use Rattle.spec.specs.Config.{Config}
use Rattle.spec.specs.Entry.{index, indexes}
use Rattle.spec.specs.Walk.{Walk, done, ◌>>=◌, World, Result, granted, failed, trace}
use Rattle.spec.specs.Plain.{Place, mapped, hosted, next, turn, levels}
use Rattle.spec_laws.proofs.Indexes.{indexes_step}
use Rattle.layout.specs.declared.HostWalk.{HostWalk}
use Rattle.layout.specs.declared.HostWalk.TheVariants as host
use Rattle.layout.specs.Layout.{page}
use Rattle.host.specs.Walk.{host_walk_of}
use Rattle.walk.specs.declared.Trail.{Trail}
use Rattle.walk.specs.declared.Walked.{Walked}
use Rattle.walk.specs.declared.Walked.TheVariants as walked
use Rattle.walk.specs.Memory.{memory_world, absent_by, walked_by, walked_of, noted, passed_by, passed, passed_root, trail_from, trail_of, root_trail}
use Rattle.walk.proofs.Laws.{then_walked, levels_step, levels_end, walk_step}

-- ---- what is handed out: on from where a step arrived, or ts and the step's end
abbrev pub then_trail : Walked → List ℕ → (ℕ → Bool → ℕ → Trail) → Trail
then_trail (walked.Arrived w p n) ts f = f p.0 w n
then_trail (walked.Faulted x n) ts f = record { walked = walked.Faulted x n; tables = ts }
then_trail walked.Damaged ts f = record { walked = walked.Damaged; tables = ts }

-- the tables ts are noted, then the walk goes on, as f, through g
joined : (c : Config) (ht : ℕ) (m ts : List ℕ) (d n : ℕ) (x : Result Fault Place) (f : ℕ → Bool → Walk Fault Place) (g : Place → List ℕ) (t : Trail)
    → t.walked ≡ then_walked (walked_by c ht m x n) (λ u v k. walked_of c ht m k (f u v)) → t.tables ≡ noted ts d (passed_by x g)
    → t ≡ then_trail (walked_by c ht m x n) ts (λ u v k. record { walked = walked_of c ht m k (f u v); tables = noted ts d (g (u, v)) })
unfolding noted
joined c ht m ts d n (granted r) f g t a b = λ i. record { walked = a i; tables = b i }
joined c ht m ts d n (failed x) f g t a b = stopped x a
  where
    stopped : (x : Fault) → t.walked ≡ then_walked (walked_by c ht m (failed x) n) (λ u v k. walked_of c ht m k (f u v))
        → t ≡ then_trail (walked_by c ht m (failed x) n) ts (λ u v k. record { walked = walked_of c ht m k (f u v); tables = noted ts d (g (u, v)) })
    stopped (Absent l) e = λ i. record { walked = e i; tables = b i }
    stopped (Malformed l) e = λ i. record { walked = e i; tables = b i }
    stopped (Protected l) e = λ i. record { walked = e i; tables = b i }
    stopped (HostAbsent h) e = ends (host_walk_of c ht m h) e
      where
        ends : (y : HostWalk) → t.walked ≡ then_walked (absent_by y (walked.Faulted (HostAbsent h) n)) (λ u v k. walked_of c ht m k (f u v))
            → t ≡ then_trail (absent_by y (walked.Faulted (HostAbsent h) n)) ts (λ u v k. record { walked = walked_of c ht m k (f u v); tables = noted ts d (g (u, v)) })
        ends (host.Found p v) z = λ i. record { walked = z i; tables = b i }
        ends (host.Absent j) z = λ i. record { walked = z i; tables = b i }
        ends host.Damaged z = λ i. record { walked = z i; tables = b i }
    stopped (HostReadOnly h) e = λ i. record { walked = e i; tables = b i }

-- one level, and the indexes that are left
trail_level : (c : Config) (ht : ℕ) (m ts : List ℕ) (d n : ℕ) (st : Bool) (level t i : ℕ) (is : List ℕ) (right : Bool)
    → trail_from c ht m ts d n st level t right (i ∷ is)
    ≡ then_trail (walked_of c ht m n (turn c st level t i right)) (set ts d t) (λ u v k. trail_from c ht m (set ts d t) (d + 1) k st (pred level) u v is)
unfolding trail_from noted passed walked_of
trail_level c ht m ts d n st level t i is right =
    joined c ht m (set ts d t) (d + 1) _ (trace (memory_world c ht m) (turn c st level t i right)).result (λ u v. levels c st (pred level) u v is)
    (λ r. passed c ht m st (pred level) r.0 r.1 is) (trail_from c ht m ts d n st level t right (i ∷ is))
    (levels_step c ht m n st level t i is right) refl

-- the loop's turn, with k indexes left and the levels below them
pub trail_step : (c : Config) (ht : ℕ) (m ts : List ℕ) (d n : ℕ) (st : Bool) (below k t path : ℕ) (right : Bool) → 0 < k
    → trail_from c ht m ts d n st (below + k) t right (indexes k path)
    ≡ then_trail (walked_of c ht m n (turn c st (below + (k - 1) + 1) t (index (k - 1) path) right)) (set ts d t)
    (λ u v j. trail_from c ht m (set ts d t) (d + 1) j st (below + (k - 1)) u v (indexes (k - 1) path))
trail_step c ht m ts d n st below k t path right h =
    let up : below + k ≡ below + (k - 1) + 1 = omega arith in
    let down : pred (below + (k - 1) + 1) ≡ below + (k - 1) = omega arith in
    ap (λ is. trail_from c ht m ts d n st (below + k) t right is) (indexes_step k path h)
    ∙ ap (λ l. trail_from c ht m ts d n st l t right (index (k - 1) path ∷ indexes (k - 1) path)) up
    ∙ trail_level c ht m ts d n st (below + (k - 1) + 1) t (index (k - 1) path) (indexes (k - 1) path) right
    ∙ ap (λ l. then_trail (walked_of c ht m n (turn c st (below + (k - 1) + 1) t (index (k - 1) path) right)) (set ts d t) (λ u v j. trail_from c ht m (set ts d t) (d + 1) j st l u v (indexes (k - 1) path))) down

pub trail_end : (c : Config) (ht : ℕ) (m ts : List ℕ) (d n : ℕ) (st : Bool) (below k t path : ℕ) (right : Bool) → k ≡ 0
    → trail_from c ht m ts d n st (below + k) t right (indexes k path) ≡ record { walked = walked.Arrived right (page t) n; tables = ts }
unfolding indexes trail_from noted passed
trail_end c ht m ts d n st below k t path right z =
    ap (λ j. trail_from c ht m ts d n st (below + j) t right (indexes j path)) z
    ∙ ap (λ x. record { walked = x; tables = ts }) (levels_end c ht m n st (below + 0) t right)

-- from the root
root_passed : (w : World) (root : ℕ) (g : Place → List ℕ)
    → passed_by (trace w (hosted root)).result (λ r. g (r.0, true)) ≡ passed_by (trace w (next false false root true)).result g
unfolding next hosted trace
root_passed w root g = go (w.host_at root)
  where
    go : (o : Option Place) → passed_by (trace w (mapped root o)).result (λ r. g (r.0, true)) ≡ passed_by (trace w (mapped root o >>= λ r. done (r.0, true))).result g
    go none = refl
    go (some r) = refl

pub trail_root : (c : Config) (ht : ℕ) (m : List ℕ) (st : Bool) (root : ℕ) (is : List ℕ)
    → root_trail c ht m st root is
    ≡ then_trail (walked_of c ht m 0 (next false false root true)) (replicate 8 0) (λ u v k. trail_of c ht m k st c.levels u true is)
unfolding root_trail trail_from passed_root walked_of
trail_root c ht m st root is =
    joined c ht m (replicate 8 0) 0 _ (trace (memory_world c ht m) (next false false root true)).result (λ u v. levels c st c.levels u true is)
    (λ r. passed c ht m st c.levels r.0 true is) (root_trail c ht m st root is)
    (walk_step c ht m 0 st root is) (ap (noted (replicate 8 0) 0) (root_passed (memory_world c ht m) root (λ r. passed c ht m st c.levels r.0 true is)))

-- ---- what stands where

noted_below : (fs ts : List ℕ) (d j : ℕ) → j < d → get_or (noted ts d fs) j 0 ≡ get_or ts j 0
unfolding noted
noted_below [] ts d j l = refl
noted_below (f ∷ fs) ts d j l = noted_below fs (set ts d f) (d + 1) j (omega arith) ∙ get_or-set_other ts d j f 0 (λ e. omega arith)

pub noted_at : (fs ts : List ℕ) (d j : ℕ) → d + length fs ≤ length ts → j < length fs → get_or (noted ts d fs) (d + j) 0 ≡ get_or fs j 0
unfolding noted
noted_at [] ts d j r l = absurd (omega arith)
noted_at (f ∷ fs) ts d zero r l =
    let here : d + 0 ≡ d = omega arith in
    rw here (noted_below fs (set ts d f) (d + 1) d (omega arith) ∙ get_or-set_same ts d f 0 (omega arith))
noted_at (f ∷ fs) ts d (suc j) r l =
    let next : d + suc j ≡ d + 1 + j = omega arith in
    rw next (noted_at fs (set ts d f) (d + 1) j (omega (arith, length-set ts d f)) (omega arith))
