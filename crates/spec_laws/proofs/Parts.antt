-- The plain walk is its shadow part, and from there its direct part: the same questions, so the same trace.
-- Assumes nothing.
use mathlib.Core.Path.{◌≡◌, refl, sym, ap, ◌∙◌}
use Prim.Native.Nat.{ℕ, pred, ◌+◌, ◌-◌, ◌≤◌}
use native.Mathlib.Omega.{arith}
use mathlib.Core.Bool.{Bool, true}
use mathlib.Core.List.{List, [], ◌∷◌, ◌++◌}
use lib.ListN.{length, take, drop}
use lib.ListN.{take-append-drop}
use lib.Seq.{length-take-le}
use Rattle.spec.specs.declared.Fault.{Fault}
use Rattle.spec.specs.Config.{Config}
use Rattle.spec.specs.Walk.{Walk, ◌>>=◌, World, Trace, granted, failed, trace}
use Rattle.spec.specs.Plain.{Place, hosted, turn, levels, walk, shadow_part, direct_part}
use Rattle.spec_laws.proofs.Bind.{and_then, onto, more, trace_bind, bind_assoc, bind_cong}

-- the level that is left after some indexes
abbrev pub lower : ℕ → List ℕ → ℕ
lower n [] = n
lower n (x ∷ xs) = lower (pred n) xs

pub lower_is : (n : ℕ) (xs : List ℕ) → lower n xs ≡ n - length xs
lower_is n [] = omega arith
lower_is n (x ∷ xs) = let ih = lower_is (pred n) xs in omega arith

pub levels_split : (c : Config) (st : Bool) (n t : ℕ) (w : Bool) (xs ys : List ℕ)
    → levels c st n t w (xs ++ ys) ≡ (levels c st n t w xs >>= λ r. levels c st (lower n xs) r.0 r.1 ys)
unfolding levels
levels_split c st n t w [] ys = refl
levels_split c st n t w (i ∷ xs) ys =
    bind_cong (turn c st n t i w) (λ r. levels c st (pred n) r.0 r.1 (xs ++ ys)) (λ r. up r >>= down)
    (λ r. levels_split c st (pred n) r.0 r.1 xs ys)
    ∙ sym (bind_assoc (turn c st n t i w) up down)
  where
    up : Place → Walk Fault Place
    up r = levels c st (pred n) r.0 r.1 xs

    down : Place → Walk Fault Place
    down r = levels c st (lower (pred n) xs) r.0 r.1 ys

pub walk_split : (c : Config) (st : Bool) (root : ℕ) (xs ys : List ℕ)
    → walk c st root (xs ++ ys) ≡ (walk c st root xs >>= λ r. levels c st (lower c.levels xs) r.0 r.1 ys)
unfolding walk
walk_split c st root xs ys =
    bind_cong (hosted root) (λ q. levels c st c.levels q.0 true (xs ++ ys)) (λ q. levels c st c.levels q.0 true xs >>= down)
    (λ q. levels_split c st c.levels q.0 true xs ys)
    ∙ sym (bind_assoc (hosted root) (λ q. levels c st c.levels q.0 true xs) down)
  where
    down : Place → Walk Fault Place
    down r = levels c st (lower c.levels xs) r.0 r.1 ys

-- the plain walk is its shadow part, down to the guest table of level d, and its direct part, which goes on from there
pub plain_parts : (c : Config) (st : Bool) (d root : ℕ) (is : List ℕ) → length is ≡ c.levels → d ≤ c.levels
    → walk c st root is ≡ (shadow_part c st d root is >>= λ r. direct_part c st d r is)
plain_parts c st d root is l b =
    let n = c.levels - d in
    let e : length (take n is) ≡ n = length-take-le n is (omega arith) in
    let k : lower c.levels (take n is) ≡ d = lower_is c.levels (take n is) ∙ omega arith in
    ap (walk c st root) (sym (take-append-drop n is)) ∙ walk_split c st root (take n is) (drop n is)
    ∙ ap (λ x. walk c st root (take n is) >>= λ r. levels c st x r.0 r.1 (drop n is)) k

-- so result and count: a fault in the shadow part is the plain walk's, with its count; else the direct part's result, and
-- the counts add
pub parts_trace : (w : World) (c : Config) (st : Bool) (d root : ℕ) (is : List ℕ) → length is ≡ c.levels → d ≤ c.levels
    → trace w (walk c st root is) ≡ and_then (trace w (shadow_part c st d root is)) (λ r. trace w (direct_part c st d r is))
parts_trace w c st d root is l b =
    ap (trace w) (plain_parts c st d root is l b) ∙ trace_bind w (shadow_part c st d root is) (λ r. direct_part c st d r is)

pub shadow_fault : (w : World) (c : Config) (st : Bool) (d root : ℕ) (is : List ℕ) (x : Fault) → length is ≡ c.levels → d ≤ c.levels
    → (trace w (shadow_part c st d root is)).result ≡ failed x
    → ((trace w (walk c st root is)).result ≡ failed x) × ((trace w (walk c st root is)).count ≡ (trace w (shadow_part c st d root is)).count)
shadow_fault w c st d root is x l b h =
    let s = trace w (shadow_part c st d root is) in
    let e = parts_trace w c st d root is l b ∙ ap (λ y. onto y s.count s.reads s.uses (λ r. trace w (direct_part c st d r is))) h in
    (ap (λ (t : Trace Fault Place). t.result) e, ap (λ (t : Trace Fault Place). t.count) e)

-- the whole trace past a granted shadow part
pub direct_trace : (w : World) (c : Config) (st : Bool) (d root : ℕ) (is : List ℕ) (r : Place) → length is ≡ c.levels → d ≤ c.levels
    → let s = trace w (shadow_part c st d root is) in
    s.result ≡ granted r → trace w (walk c st root is) ≡ more s.count s.reads s.uses (trace w (direct_part c st d r is))
direct_trace w c st d root is r l b h =
    let s = trace w (shadow_part c st d root is) in
    parts_trace w c st d root is l b ∙ ap (λ y. onto y s.count s.reads s.uses (λ q. trace w (direct_part c st d q is))) h

pub direct_result : (w : World) (c : Config) (st : Bool) (d root : ℕ) (is : List ℕ) (r : Place) → length is ≡ c.levels → d ≤ c.levels
    → (trace w (shadow_part c st d root is)).result ≡ granted r
    → ((trace w (walk c st root is)).result ≡ (trace w (direct_part c st d r is)).result)
    × ((trace w (walk c st root is)).count ≡ (trace w (shadow_part c st d root is)).count + (trace w (direct_part c st d r is)).count)
direct_result w c st d root is r l b h =
    let e = direct_trace w c st d root is r l b h in
    (ap (λ (t : Trace Fault Place). t.result) e, ap (λ (t : Trace Fault Place). t.count) e)
