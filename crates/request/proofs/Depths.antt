-- The depth of a request whose marks give d, by the path held at d: at such a depth every path that is found serves.
use mathlib.Core.Path.{◌≡◌, refl, sym, ap, ◌∙◌}
use Prim.Native.Nat.{ℕ, ◌<◌, ◌≤◌}
use native.Mathlib.Omega.{arith}
use borrow.Author.Tests.{eq-eqb, eqb-true, ltb-true}
use mathlib.Core.Bool.{Bool, true, false, not, ◌||◌, cond, false≢true}
use mathlib.Core.List.{List}
use lib.Dec.{eqb, ltb}
use Rattle.spec.specs.Config.{Config}
use Rattle.layout.specs.declared.HostWalk.{HostWalk}
use Rattle.layout.specs.declared.HostWalk.TheVariants as host
use Rattle.translate.specs.declared.Held.{Held}
use Rattle.spec.specs.Plain.{is_span, walk}
use Rattle.walk.specs.Memory.{walked_of}
use Rattle.entry.specs.declared.HostPhysical.{HostPhysical}
use Rattle.walk.specs.declared.Walked.{Walked}
use Rattle.walk.specs.declared.Walked.TheVariants as walked
use Rattle.translate.specs.Translate.{serves_of, path_indexes, found_of, soon_by, walked_depth, may_turn, turned_depth, depth_by, depth_of}
use Rattle.request.specs.Access.{serving_by, path_held_of}

turn_some : (d : ℕ) → may_turn d ≡ true → eqb d 0 ≡ false
unfolding may_turn
turn_some d e = go (eqb d 0) refl e
  where
    go : (b : Bool) → eqb d 0 ≡ b → cond b false (ltb d 3) ≡ true → eqb d 0 ≡ false
    go true q k = absurd (false≢true k)
    go false q k = q

pub turn_none : (d : ℕ) → d ≡ 0 → may_turn d ≡ false
unfolding may_turn
turn_none d e = ap (λ b. cond b false (ltb d 3)) (eq-eqb d 0 e)

-- it is a level of tables of that many
pub turn_low : (n d : ℕ) → 2 ≤ n → may_turn d ≡ true → d ≤ n
unfolding may_turn
turn_low n d many e = omega (arith, many, ltb-true d 3 (sym (ap (λ b. cond b false (ltb d 3)) (turn_some d e)) ∙ e))

module _ (c : Config) (ht : ℕ) (m : List ℕ) (h : Held) (root a d : ℕ) where
  -- marks of another depth are at it
  pub depth_kept : may_turn d ≡ false → depth_of c ht m h root a d ≡ d
  unfolding depth_of
  depth_kept e = ap (λ b. cond b (depth_by c ht m root a d (found_of c m h a d)) d) e

  pub depth_by_lem : (st : Bool) (x : HostWalk) → may_turn d ≡ true → path_held_of c m h st a d ≡ x → depth_of c ht m h root a d ≡ depth_by c ht m root a d x
  unfolding depth_of path_held_of serves_of
  depth_by_lem st x e k =
      ap (λ b. cond b (depth_by c ht m root a d (found_of c m h a d)) d) e ∙ ap (depth_by c ht m root a d) (sym (serves (found_of c m h a d)) ∙ k)
    where
      serves : (y : HostWalk) → serving_by st d y ≡ y
      serves (host.Found t w) = ap (λ b. cond (cond b (not st || w) true) (host.Found t w) (host.Absent 0)) (turn_some d e)
      serves (host.Absent n) = refl
      serves host.Damaged = refl

  -- what is found there says it,
  pub depth_found : (st : Bool) (t : HostPhysical) (w : Bool) → path_held_of c m h st a d ≡ host.Found t w → depth_of c ht m h root a d ≡ d
  depth_found st t w e = go (may_turn d) refl
    where
      go : (b : Bool) → may_turn d ≡ b → depth_of c ht m h root a d ≡ d
      go true k = depth_by_lem st (host.Found t w) k e
      go false k = depth_kept k

  -- and where nothing is the walk does, which is in a large page above the marked levels or leaves it
  turned_by : (b : Bool) → may_turn d ≡ b → turned_depth c ht m root a d ≡ cond b (walked_depth c ht m root a d) d
  unfolding turned_depth
  turned_by b k = ap (λ y. cond y (walked_depth c ht m root a d) d) k

  pub depth_missed : (st : Bool) (n : ℕ) → path_held_of c m h st a d ≡ host.Absent n → depth_of c ht m h root a d ≡ turned_depth c ht m root a d
  depth_missed st n e = go (may_turn d) refl
    where
      go : (b : Bool) → may_turn d ≡ b → depth_of c ht m h root a d ≡ turned_depth c ht m root a d
      go true k = depth_by_lem st (host.Absent n) k e ∙ sym (turned_by true k)
      go false k = depth_kept k ∙ sym (turned_by false k)

  pub turned_same : not (eqb (turned_depth c ht m root a d) d) ≡ false → turned_depth c ht m root a d ≡ d
  turned_same e = go (eqb (turned_depth c ht m root a d) d) refl e
    where
      go : (b : Bool) → eqb (turned_depth c ht m root a d) d ≡ b → not b ≡ false → turned_depth c ht m root a d ≡ d
      go true k e = eqb-true (turned_depth c ht m root a d) d k
      go false k e = absurd (false≢true (sym e))

  pub turned_zero : not (eqb (turned_depth c ht m root a d) d) ≡ true → turned_depth c ht m root a d ≡ 0
  unfolding walked_depth
  turned_zero e = go (may_turn d) refl
    where
      other : turned_depth c ht m root a d ≡ d → ⊥
      other k = false≢true (sym (ap not (eq-eqb (turned_depth c ht m root a d) d k)) ∙ e)

      soon : (x : Walked) → turned_depth c ht m root a d ≡ soon_by c d x → turned_depth c ht m root a d ≡ 0
      soon (walked.Arrived w t n) k = by (is_span c t.0) k
        where
          by : (b : Bool) → turned_depth c ht m root a d ≡ cond b 0 d → turned_depth c ht m root a d ≡ 0
          by true k = k
          by false k = absurd (other k)
      soon (walked.Faulted x n) k = absurd (other k)
      soon walked.Damaged k = absurd (other k)

      go : (b : Bool) → may_turn d ≡ b → turned_depth c ht m root a d ≡ 0
      go true k = soon (walked_of c ht m 0 (walk c false root (path_indexes c d a))) (turned_by true k)
      go false k = absurd (other (turned_by false k))

  -- a depth at which nothing is shadowed stays
  pub depth_high : 2 ≤ c.levels → c.levels < d → depth_of c ht m h root a d ≡ d
  depth_high many out = go (may_turn d) refl
    where
      go : (b : Bool) → may_turn d ≡ b → depth_of c ht m h root a d ≡ d
      go true k = absurd (omega (arith, out, turn_low c.levels d many k))
      go false k = depth_kept k
