-- A request by the path held for it: through it, without it, or on damage. And that what it comes to is in range.
use mathlib.Core.Path.{◌≡◌, refl, sym, ap, ap₂, ◌∙◌, subst}
use Prim.Native.Nat.{ℕ, ◌+◌, ◌<◌, ◌≤◌}
use native.Mathlib.Nat.{zero-add}
use native.Mathlib.Omega.{arith}
use borrow.Author.Tests.{lt-ltb, le-ltb, eq-eqb, eqb-true}
use mathlib.Core.Bool.{Bool, true, false, not, cond}
use mathlib.Core.List.{List}
use lib.Dec.{eqb}
use Rattle.spec.specs.Config.{Config}
use Rattle.spec.specs.declared.Answer.TheVariants as answer
use Rattle.spec.specs.Entry.{word_of, frame_limit}
use Rattle.spec.specs.Bytes.{bytes_at}
use Rattle.words.specs.Words.{word_in}
use Rattle.words.specs.After.{After, yields}
use Rattle.entry.specs.declared.HostPhysical.{HostPhysical}
use Rattle.layout.specs.declared.HostWalk.{HostWalk}
use Rattle.layout.specs.declared.HostWalk.TheVariants as host
use Rattle.layout.proofs.Laws.{area_small}
use Rattle.walk.specs.declared.Walked.{Walked}
use Rattle.walk.specs.declared.Walked.TheVariants as walked
use Rattle.translate.specs.declared.Held.{Held}
use Rattle.translate.specs.declared.Translated.{Translated}
use Rattle.translate.specs.Translate.{HeldFits, translation, exit_by, direct_of, served_of, damaged, checked_of, judged_by, bitless_of, lacking_of, through_of, unshadowed_of, serves_of, found_of, missed_of, found_by, translate_of, unserved_of}
use Rattle.translate.proofs.Fits.{ArrivedIn, FoundIs, found_is}
use Rattle.translate.proofs.Bits.{through_part, direct_page, bitless_none}
use Rattle.translate.proofs.Leaves.{Leaves, translate_leaves}
use Rattle.drops.specs.declared.Cut.TheVariants.{Word}
use Rattle.drops.specs.Drop.{scan_of}
use Rattle.shadow.specs.Watch.{watched_of}
use Rattle.layout.specs.Layout.{page}
use Rattle.request.specs.Access.{ReachesFrame, serving, set_by, settled_of, put, dropped_by, dropped_of, bytes_in, serving_by, path_held_of, load_by, load_from, load_of, written_by, store_by, store_from, store_of, plainly_by, plainly_of}

-- in the guest area, so below the limit
reaches : (c : Config) (r : Walked) → c.frames ≤ 65536 → ArrivedIn c r → ReachesFrame r
reaches c (walked.Arrived w t n) few g = omega (arith, g.1)
reaches c (walked.Faulted x n) few g = tt
reaches c walked.Damaged few g = tt

module _ (c : Config) (ht : ℕ) (m : List ℕ) (h : Held) (root : ℕ) (st : Bool) (a d : ℕ) where
  -- what a request comes to through the path that leads to t
  abbrev pub through : HostPhysical → Bool → After Translated
  through t w = yields (through_of c ht m h root st a d t.0 w) m

  at_depth : d ≤ c.levels → translate_of c ht m h root st a d ≡ found_by c ht m h root st a d (found_of c m h a d)
  unfolding translate_of
  at_depth l = ap (λ b. cond b (yields (unshadowed_of c ht m h root st a d) m) (found_by c ht m h root st a d (found_of c m h a d))) (le-ltb c.levels d l)

  serves : (t : HostPhysical) (w : Bool) (x : HostWalk) → serving_by st d x ≡ host.Found t w → found_by c ht m h root st a d x ≡ through t w
  serves t w (host.Absent n) e = let z : ◌≡◌ {A = ℕ} 0 1 = cc in absurd (omega arith)
  serves t w host.Damaged e = let z : ◌≡◌ {A = ℕ} 0 1 = cc in absurd (omega arith)
  serves t w (host.Found u v) e = go (serves_of st d v) refl
    where
      go : (b : Bool) → serves_of st d v ≡ b → found_by c ht m h root st a d (host.Found u v) ≡ through t w
      go true q =
          let f : host.Found u v ≡ host.Found t w = sym (ap (λ b. cond b (host.Found u v) (host.Absent 0)) q) ∙ e in
          let p : u ≡ t = cc in
          let r : v ≡ w = cc in
          ap (λ b. cond b (yields (through_of c ht m h root st a d u.0 v) m) (missed_of c ht m h root st a d)) q
          ∙ ap₂ (λ x y. yields (through_of c ht m h root st a d x.0 y) m) p r
      go false q =
          let f : host.Absent 0 ≡ host.Found t w = sym (ap (λ b. cond b (host.Found u v) (host.Absent 0)) q) ∙ e in
          let z : ◌≡◌ {A = ℕ} 0 1 = cc in absurd (omega arith)

  pub path_serves : (t : HostPhysical) (w : Bool) → d ≤ c.levels → path_held_of c m h st a d ≡ host.Found t w → translate_of c ht m h root st a d ≡ through t w
  unfolding path_held_of
  path_serves t w l e = at_depth l ∙ serves t w (found_of c m h a d) e

  -- where its direct part lacks no bit it comes to what that came to, and is judged by its bits where one lacks
  pub path_plainly : (t : HostPhysical) (w : Bool) → lacking_of c ht m st a d t.0 w ≡ false → d ≤ c.levels → path_held_of c m h st a d ≡ host.Found t w
      → let r = direct_of c ht m st a d t.0 w in translate_of c ht m h root st a d ≡ yields (translation h (exit_by r) r false) m
  unfolding served_of
  path_plainly t w none l e =
      let r = direct_of c ht m st a d t.0 w in
      path_serves t w l e ∙ ap (λ x. yields x m) (through_part c ht m h root st a d t.0 w)
      ∙ ap (λ b. yields (cond b (judged_by h true (checked_of c ht m root st a d) r) (translation h (0 + exit_by r) r false)) m) none
      ∙ ap (λ x. yields (translation h x r false) m) (zero-add (exit_by r))

  pub path_judged : (t : HostPhysical) (w : Bool) → lacking_of c ht m st a d t.0 w ≡ true → d ≤ c.levels → path_held_of c m h st a d ≡ host.Found t w
      → translate_of c ht m h root st a d ≡ yields (judged_by h true (checked_of c ht m root st a d) (direct_of c ht m st a d t.0 w)) m
  path_judged t w some l e =
      path_serves t w l e ∙ ap (λ x. yields x m) (through_part c ht m h root st a d t.0 w)
      ∙ ap (λ b. yields (cond b (judged_by h true (checked_of c ht m root st a d) (direct_of c ht m st a d t.0 w)) (served_of c ht m h st a d t.0 w 0)) m) some

  misses : (n : ℕ) (x : HostWalk) → serving_by st d x ≡ host.Absent n → found_by c ht m h root st a d x ≡ missed_of c ht m h root st a d
  misses n (host.Absent k) e = refl
  misses n host.Damaged e = let z : ◌≡◌ {A = ℕ} 0 1 = cc in absurd (omega arith)
  misses n (host.Found u v) e = go (serves_of st d v) refl
    where
      go : (b : Bool) → serves_of st d v ≡ b → found_by c ht m h root st a d (host.Found u v) ≡ missed_of c ht m h root st a d
      go true q =
          let f : host.Found u v ≡ host.Absent n = sym (ap (λ b. cond b (host.Found u v) (host.Absent 0)) q) ∙ e in
          let z : ◌≡◌ {A = ℕ} 0 1 = cc in absurd (omega arith)
      go false q = ap (λ b. cond b (yields (through_of c ht m h root st a d u.0 v) m) (missed_of c ht m h root st a d)) q

  -- no path serves: none does, or the depth is more than all levels
  pub path_missed : (n : ℕ) → d ≤ c.levels → path_held_of c m h st a d ≡ host.Absent n → translate_of c ht m h root st a d ≡ unserved_of c ht m h root st a d
  unfolding path_held_of unserved_of
  path_missed n l e =
      at_depth l ∙ misses n (found_of c m h a d) e
      ∙ sym (ap (λ b. cond b (yields (unshadowed_of c ht m h root st a d) m) (missed_of c ht m h root st a d)) (le-ltb c.levels d l))

  pub path_none : c.levels < d → translate_of c ht m h root st a d ≡ unserved_of c ht m h root st a d
  unfolding translate_of unserved_of
  path_none l =
      ap (λ b. cond b (yields (unshadowed_of c ht m h root st a d) m) (found_by c ht m h root st a d (found_of c m h a d))) (lt-ltb c.levels d l)
      ∙ sym (ap (λ b. cond b (yields (unshadowed_of c ht m h root st a d) m) (missed_of c ht m h root st a d)) (lt-ltb c.levels d l))

  breaks : (x : HostWalk) → serving_by st d x ≡ host.Damaged → found_by c ht m h root st a d x ≡ damaged h m
  breaks (host.Absent k) e = let z : ◌≡◌ {A = ℕ} 0 1 = cc in absurd (omega arith)
  breaks host.Damaged e = refl
  breaks (host.Found u v) e = go (serves_of st d v) refl
    where
      go : (b : Bool) → serves_of st d v ≡ b → found_by c ht m h root st a d (host.Found u v) ≡ damaged h m
      go true q =
          let f : host.Found u v ≡ host.Damaged = sym (ap (λ b. cond b (host.Found u v) (host.Absent 0)) q) ∙ e in
          let z : ◌≡◌ {A = ℕ} 0 1 = cc in absurd (omega arith)
      go false q =
          let f : host.Absent 0 ≡ host.Damaged = sym (ap (λ b. cond b (host.Found u v) (host.Absent 0)) q) ∙ e in
          let z : ◌≡◌ {A = ℕ} 0 1 = cc in absurd (omega arith)

  pub path_broken : d ≤ c.levels → path_held_of c m h st a d ≡ host.Damaged → translate_of c ht m h root st a d ≡ damaged h m
  unfolding path_held_of
  path_broken l e = at_depth l ∙ breaks (found_of c m h a d) e

  -- ---- ranges

  pub path_small : c.frames ≤ 65536 → h.frame.0 < frame_limit → (t : HostPhysical) (w : Bool) → path_held_of c m h st a d ≡ host.Found t w → t.0 < frame_limit
  unfolding path_held_of
  path_small few top t w e = by (found_of c m h a d) (found_is c (λ f. f < frame_limit) (area_small c few) m h a d (λ z. top)) e
    where
      by : (x : HostWalk) → FoundIs c (λ f. f < frame_limit) (area_small c few) x → serving_by st d x ≡ host.Found t w → t.0 < frame_limit
      by (host.Absent k) g e = let z : ◌≡◌ {A = ℕ} 0 1 = cc in absurd (omega arith)
      by host.Damaged g e = let z : ◌≡◌ {A = ℕ} 0 1 = cc in absurd (omega arith)
      by (host.Found u v) g e = go (serves_of st d v) refl
        where
          go : (b : Bool) → serves_of st d v ≡ b → t.0 < frame_limit
          go true q =
              let f : host.Found u v ≡ host.Found t w = sym (ap (λ b. cond b (host.Found u v) (host.Absent 0)) q) ∙ e in
              let p : u ≡ t = cc in
              subst (λ (x : HostPhysical). x.0 < frame_limit) p g
          go false q =
              let f : host.Absent 0 ≡ host.Found t w = sym (ap (λ b. cond b (host.Found u v) (host.Absent 0)) q) ∙ e in
              let z : ◌≡◌ {A = ℕ} 0 1 = cc in absurd (omega arith)

  module _ (f : HeldFits c h) (five : c.levels ≤ 5) where
    -- what a translation leaves, told of an equal one
    pub leaves_as : (o : After Translated) → translate_of c ht m h root st a d ≡ o → Leaves c m o
    leaves_as o e = subst (Leaves c m) e (translate_leaves c ht m st h f root a d five)

    pub reaches_as : (o : After Translated) → c.frames ≤ 65536 → translate_of c ht m h root st a d ≡ o → ReachesFrame o.result.walked
    reaches_as o few e = reaches c o.result.walked few (leaves_as o e).arrived

-- ---- with no bit to set

module _ (c : Config) (ht root : ℕ) (h k : Held) (a w : ℕ) where
  -- a load whose bits, if any, are set is as one with none to set, in the memory that they leave
  pub load_said : (e : ℕ) (r : Walked) (sets : Bool) (m : List ℕ)
      → load_by h a w (λ x. x) (yields (translation k e r false) (set_by r (settled_of c ht root false a sets m) m)) r ≡ load_from c ht root h a w (yields (translation k e r sets) m)
  load_said e (walked.Arrived y t n) sets m = refl
  load_said e (walked.Faulted x n) sets m = refl
  load_said e walked.Damaged sets m = refl

  pub load_plainly : (e : ℕ) (r : Walked) (m : List ℕ) → load_by h a w (λ x. x) (yields (translation k e r false) m) r ≡ load_from c ht root h a w (yields (translation k e r false) m)
  unfolding settled_of
  load_plainly e (walked.Arrived y t n) m = refl
  load_plainly e (walked.Faulted x n) m = refl
  load_plainly e walked.Damaged m = refl

  pub store_plainly : (v e : ℕ) (r : Walked) (m : List ℕ) → store_by c h a w v (λ x. x) (yields (translation k e r false) m) r ≡ store_from c ht root h a w v (yields (translation k e r false) m)
  unfolding settled_of
  store_plainly v e (walked.Arrived y t n) m = refl
  store_plainly v e (walked.Faulted x n) m = refl
  store_plainly v e walked.Damaged m = refl

-- at depth 0 the path held for a request leads to its page, and no bit is looked at
pub page_reached : (c : Config) (ht : ℕ) (m : List ℕ) (h : Held) (root : ℕ) (st : Bool) (a d : ℕ) (t : HostPhysical) (y : Bool) → d ≡ 0 → path_held_of c m h st a d ≡ host.Found t y
    → translate_of c ht m h root st a d ≡ yields (translation h 0 (walked.Arrived y t c.levels) false) m
unfolding bitless_of
page_reached c ht m h root st a d t y e found =
    let none = bitless_none c ht m st a d t.0 y (ap (λ b. cond b true (not c.bits)) (eq-eqb d 0 e)) in
    path_plainly c ht m h root st a d t y none (omega (arith, e)) found ∙ ap (λ (r : Walked). yields (translation h (exit_by r) r false) m) (direct_page c ht m st a d t.0 y e)

pub load_page : (c : Config) (ht : ℕ) (m : List ℕ) (h : Held) (root a w d : ℕ) (t : HostPhysical) (y : Bool) → d ≡ 0 → path_held_of c m h false a d ≡ host.Found t y
    → serving h (answer.Value (bytes_at a w (word_in m t.0 (word_of a))) c.levels 0) m ≡ load_of c ht m h root a w d
unfolding load_of settled_of
load_page c ht m h root a w d t y e found = ap (load_from c ht root h a w) (sym (page_reached c ht m h root false a d t y e found))

-- ---- the common case of a store

-- what it is when it is one
pub record Plain (c : Config) (m : List ℕ) (h : Held) (a w d v : ℕ) (n : List ℕ) : Type 0 where
  pub page : HostPhysical
  pub writable : Bool
  pub none : d ≡ 0
  pub found : path_held_of c m h true a d ≡ host.Found page writable
  pub unwatched : watched_of c m h.pool.fresh page.0 ≡ false
  pub bytes : n ≡ bytes_in m page.0 a w v

module _ (c : Config) (m : List ℕ) (h : Held) (a w d v : ℕ) where
  pub plainly_one : (n : List ℕ) → yields true n ≡ plainly_of c m h a w d v → Plain c m h a w d v n
  unfolding plainly_of
  plainly_one n k = by (eqb d 0) refl k
    where
      no : {A : Type 0} {x : List ℕ} → yields true n ≡ yields false x → A
      no q = absurd (subst (λ b. cond b (Unit {0}) ⊥) (ap (λ (z : After Bool). z.result) q) tt)

      at : (t : HostPhysical) (y b : Bool) → d ≡ 0 → path_held_of c m h true a d ≡ host.Found t y → watched_of c m h.pool.fresh t.0 ≡ b
          → yields true n ≡ cond b (yields false m) (yields true (bytes_in m t.0 a w v)) → Plain c m h a w d v n
      at t y true e f q k = no k
      at t y false e f q k = record { page = t; writable = y; none = e; found = f; unwatched = q; bytes = ap (λ (z : After Bool). z.memory) k }

      go : (x : HostWalk) → d ≡ 0 → path_held_of c m h true a d ≡ x → yields true n ≡ plainly_by c m h a w v x → Plain c m h a w d v n
      go (host.Found t y) e f k = at t y (watched_of c m h.pool.fresh t.0) e f refl k
      go (host.Absent i) e f k = no k
      go host.Damaged e f k = no k

      by : (b : Bool) → eqb d 0 ≡ b → yields true n ≡ cond b (plainly_by c m h a w v (path_held_of c m h true a d)) (yields false m) → Plain c m h a w d v n
      by true e k = go (path_held_of c m h true a d) (eqb-true d 0 e) refl k
      by false e k = no k

  -- any other has changed nothing
  pub plainly_keeps : (n : List ℕ) → yields false n ≡ plainly_of c m h a w d v → n ≡ m
  unfolding plainly_of
  plainly_keeps n k = by (eqb d 0) k
    where
      no : {x : List ℕ} → yields false n ≡ yields true x → n ≡ m
      no q = absurd (subst (λ b. cond b ⊥ (Unit {0})) (ap (λ (z : After Bool). z.result) q) tt)

      at : (b : Bool) (t : HostPhysical) → yields false n ≡ cond b (yields false m) (yields true (bytes_in m t.0 a w v)) → n ≡ m
      at true t k = ap (λ (z : After Bool). z.memory) k
      at false t k = no k

      go : (x : HostWalk) → yields false n ≡ plainly_by c m h a w v x → n ≡ m
      go (host.Found t y) k = at (watched_of c m h.pool.fresh t.0) t k
      go (host.Absent i) k = ap (λ (z : After Bool). z.memory) k
      go host.Damaged k = ap (λ (z : After Bool). z.memory) k

      by : (b : Bool) → yields false n ≡ cond b (plainly_by c m h a w v (path_held_of c m h true a d)) (yields false m) → n ≡ m
      by true k = go (path_held_of c m h true a d) k
      by false k = ap (λ (z : After Bool). z.memory) k

-- then it is a store
pub plainly_stores : (c : Config) (ht : ℕ) (m : List ℕ) (h : Held) (root a w d v : ℕ) (n : List ℕ) → yields true n ≡ plainly_of c m h a w d v → serving h (answer.Done c.levels 0) n ≡ store_of c ht m h root a w d v
unfolding store_of settled_of dropped_of
plainly_stores c ht m h root a w d v n k =
    let p = plainly_one c m h a w d v n k in
    let t = p.page in
    ap (serving h (answer.Done c.levels 0)) p.bytes
    ∙ ap (λ b. written_by h h c.levels 0 t.0 a w v (λ x. x) (cond b (dropped_by h.pool (scan_of c (Word (page t.0) (word_of a)) h.pool m)) (put h.pool 0 true m))) (sym p.unwatched)
    ∙ ap (store_from c ht root h a w v) (sym (page_reached c ht m h root true a d t p.writable p.none p.found))

pub set_none : (r : Walked) (m : List ℕ) → set_by r m m ≡ m
set_none (walked.Arrived y t n) m = refl
set_none (walked.Faulted x n) m = refl
set_none walked.Damaged m = refl
