-- Where a translation arrives, whatever the memory holds: a frame of the guest area.
use mathlib.Core.Path.{◌≡◌, refl, sym, ◌∙◌, subst}
use mathlib.Core.Logic.{inl, inr}
use Prim.Native.Nat.{ℕ, suc, pred, ◌+◌, ◌-◌, ◌*◌, ◌<◌, ◌≤◌}
use native.Mathlib.Omega.{arith}
use native.Mathlib.Nat.{mul-suc, mul-le-mul}
use mathlib.Core.Bool.{Bool, true, false, cond, false≢true}
use mathlib.Core.List.{List, [], ◌∷◌}
use lib.Dec.{eqb, ltb}
use lib.ListN.{length}
use Rattle.spec.specs.declared.Fault.TheVariants as fault
use Rattle.spec.specs.Config.{Config}
use Rattle.spec.specs.Entry.{present, writable, frame_of, indexes, page_of, frame_limit}
use Rattle.spec.specs.Refusal.{in_guest_area}
use Rattle.spec.specs.Prefix.{All}
use Rattle.spec.specs.Plain.{Place, is_span, next, turn, levels, walk}
use Rattle.area.specs.declared.Look.{Look}
use Rattle.area.specs.declared.Look.TheVariants.{Seen, Damaged}
use Rattle.area.specs.Tree.{lookup_of}
use Rattle.layout.specs.declared.HostWalk.{HostWalk}
use Rattle.layout.specs.declared.HostWalk.TheVariants as host
use Rattle.layout.specs.Layout.{page, leaf_of, named_by}
use Rattle.layout.proofs.Laws.{in_guest_area_lem}
use Rattle.walk.specs.declared.Walked.{Walked}
use Rattle.walk.specs.declared.Walked.TheVariants as walked
use Rattle.walk.specs.Memory.{memory_world, absent_by, walked_by, walked_of}
use Rattle.walk.proofs.Laws.{then_walked, TurnFits, table_fits, NearBy, span_from, Few, StepFits, turn_fits, levels_step, levels_end, walk_step}
use Rattle.shadow.specs.Held.{held_of}
use Rattle.translate.specs.declared.Held.{Held}
use Rattle.translate.specs.Translate.{exit_by, path_of, path_indexes, HeldFits, ReadsMost, ReadsFrom, direct_of, found_of, soon_by, walked_depth}
use Rattle.spec.specs.declared.Fault.{Fault}
use Rattle.spec.specs.Walk.{Walk, Result, granted, failed, trace}
use Rattle.spec_laws.proofs.Indexes.{indexes_length, indexes_all}
use Rattle.host.specs.Walk.{host_walk_of}
use Rattle.spec_laws.proofs.Keeps.{InGuestArea, area_real, PlaceIn}
use Rattle.spec_laws.proofs.Parts.{lower, lower_is}
use Rattle.spec_laws.proofs.Asks.{asks_trace, AnswerIn, Guest, placed_page, placed_frame, levels_asks}
use Rattle.accessed.proofs.Walks.{answers_in}

pub exit_small : (r : Walked) → exit_by r ≤ 1
exit_small (walked.Arrived w t n) = omega arith
exit_small (walked.Faulted (fault.Absent l) n) = omega arith
exit_small (walked.Faulted (fault.Malformed l) n) = omega arith
exit_small (walked.Faulted (fault.Protected l) n) = omega arith
exit_small (walked.Faulted (fault.HostAbsent g) n) = omega arith
exit_small (walked.Faulted (fault.HostReadOnly g) n) = omega arith
exit_small walked.Damaged = omega arith

-- so that more can be added
pub exit_few : (r : Walked) → exit_by r ≤ 65536
exit_few r = let k = exit_small r in omega arith

-- ---- walks
abbrev pub ArrivedIn : Config → Walked → Type 0
ArrivedIn c (walked.Arrived w p n) = InGuestArea c p.0
ArrivedIn c (walked.Faulted x n) = Unit {0}
ArrivedIn c walked.Damaged = Unit {0}

module _ (c : Config) (ht : ℕ) (m : List ℕ) where
  -- a walk whose indexes end at the page comes to a frame there
  page_arrives : (n : ℕ) (p : Walk Fault Place) (k : ℕ) → k ≡ 0 → Guest c (InGuestArea c) (area_real c) p (λ r. PlaceIn c k r.0) → ArrivedIn c (walked_of c ht m n p)
  unfolding walked_of
  page_arrives n p k z a =
      go (trace (memory_world c ht m) p).result (n + (trace (memory_world c ht m) p).count)
      (λ r e. placed_page c (InGuestArea c) (area_real c) r.0 (subst (λ j. PlaceIn c j r.0) z
      ((asks_trace (AnswerIn (InGuestArea c)) _ _ _ (memory_world c ht m) p _ (answers_in c ht m) a).grants r e)))
    where
      absent : (h : HostWalk) (g j : ℕ) → ArrivedIn c (absent_by h (walked.Faulted (fault.HostAbsent g) j))
      absent (host.Found q v) g j = tt
      absent (host.Absent i) g j = tt
      absent host.Damaged g j = tt

      go : (x : Result Fault Place) (j : ℕ) → ((r : Place) → x ≡ granted r → InGuestArea c r.0) → ArrivedIn c (walked_by c ht m x j)
      go (granted q) j f = f q refl
      go (failed (fault.Absent i)) j f = tt
      go (failed (fault.Malformed i)) j f = tt
      go (failed (fault.Protected i)) j f = tt
      go (failed (fault.HostAbsent g)) j f = absent (host_walk_of c ht m g) g j
      go (failed (fault.HostReadOnly g)) j f = tt

  module _ (st : Bool) where
    levels_in : (n d number t : ℕ) (w : Bool) → d ≤ c.levels → InGuestArea c t → ArrivedIn c (walked_of c ht m n (levels c st d t w (indexes d number)))
    levels_in n d number t w l g =
        page_arrives n (levels c st d t w (indexes d number)) (lower d (indexes d number)) (lower_is d (indexes d number) ∙ omega (arith, indexes_length d number))
        (levels_asks c (InGuestArea c) (area_real c) st d t w (indexes d number) l (placed_frame c (InGuestArea c) (area_real c) d t g) (indexes_all d number))

    pub walk_in : (n root number : ℕ) → ArrivedIn c (walked_of c ht m n (walk c st root (indexes c.levels number)))
    walk_in n root number =
        rw (walk_step c ht m n st root (indexes c.levels number))
        (go (walked_of c ht m n (next false false root true)) (table_fits c ht m n false root true))
      where
        go : (r : Walked) → TurnFits c n r → ArrivedIn c (then_walked r (λ u v k. walked_of c ht m k (levels c st c.levels u true (indexes c.levels number))))
        go (walked.Arrived w p k) f = levels_in k c.levels number p.0 true (omega arith) f.0
        go (walked.Faulted x k) f = tt
        go walked.Damaged f = tt

    pub direct_in : (a d t : ℕ) (w : Bool) → d ≤ c.levels → InGuestArea c t → ArrivedIn c (direct_of c ht m st a d t w)
    unfolding direct_of
    direct_in a d t w l g =
        let z : 0 + d ≡ d = omega arith in
        subst (λ n. ArrivedIn c (walked_of c ht m (c.levels - d) (levels c st n t w (indexes d (page_of a))))) (sym z) (levels_in (c.levels - d) d (page_of a) t w l g)

-- where a walk to a table ends in no span, it ends in a frame there
module _ (c : Config) (ht : ℕ) (m : List ℕ) (st : Bool) where
  abbrev pub ArrivedNear : Walked → Type 0
  ArrivedNear (walked.Arrived w p n) = is_span c p.0 ≡ false → InGuestArea c p.0
  ArrivedNear (walked.Faulted x n) = Unit {0}
  ArrivedNear walked.Damaged = Unit {0}

  levels_near : (is : List ℕ) (n level t : ℕ) (right : Bool) → All (λ i. i < 512) is → level ≤ 5 → (is_span c t ≡ false → InGuestArea c t) → ArrivedNear (walked_of c ht m n (levels c st level t right is))
  levels_near [] n level t right s l g = rw (levels_end c ht m n st level t right) g
  levels_near (i ∷ is) n level t right s l g =
      rw (levels_step c ht m n st level t i is right)
      (go (walked_of c ht m n (turn c st level t i right)) (turn_fits c ht m n st level t i right) (λ k u v. levels_near is k (pred level) u v s.1 (omega (arith, l))))
    where
      near : (u : ℕ) → NearBy c t u → is_span c u ≡ false → InGuestArea c u
      near u (inl h) e = h
      near u (inr h) e = absurd (false≢true (sym e ∙ span_from c u h.0))

      go : (r : Walked) → StepFits c (Few level i) n t r
          → ((k u : ℕ) (v : Bool) → (is_span c u ≡ false → InGuestArea c u) → ArrivedNear (walked_of c ht m k (levels c st (pred level) u v is)))
          → ArrivedNear (then_walked r (λ u v k. walked_of c ht m k (levels c st (pred level) u v is)))
      go (walked.Arrived w p k) f on = on k p.0 w (near p.0 (f.0 (l, s.0)))
      go (walked.Faulted x k) f on = tt
      go walked.Damaged f on = tt

  pub shadow_near : (n root : ℕ) (is : List ℕ) → All (λ i. i < 512) is → c.levels ≤ 5 → ArrivedNear (walked_of c ht m n (walk c st root is))
  shadow_near n root is s l =
      rw (walk_step c ht m n st root is)
      (go (walked_of c ht m n (next false false root true)) (table_fits c ht m n false root true))
    where
      go : (r : Walked) → TurnFits c n r → ArrivedNear (then_walked r (λ u v k. walked_of c ht m k (levels c st c.levels u true is)))
      go (walked.Arrived w p k) f = levels_near is k c.levels p.0 true s l (λ _. f.0)
      go (walked.Faulted x k) f = tt
      go walked.Damaged f = tt

-- a walk to no level ends in the root's table, which is no span
pub walked_above : (c : Config) (ht : ℕ) (m : List ℕ) (root a d : ℕ) → c.levels < d → walked_depth c ht m root a d ≡ d
unfolding walked_depth indexes
walked_above c ht m root a d l =
    let z : c.levels - d ≡ 0 = omega arith in
    rw (z, walk_step c ht m 0 false root [])
    (go (walked_of c ht m 0 (next false false root true)) (table_fits c ht m 0 false root true))
  where
    go : (r : Walked) → TurnFits c 0 r → soon_by c d (then_walked r (λ u v k. walked_of c ht m k (levels c false c.levels u true []))) ≡ d
    go (walked.Arrived w p k) f = rw (levels_end c ht m k false c.levels p.0 true, area_real c p.0 f.0)
    go (walked.Faulted x k) f = refl
    go walked.Damaged f = refl

-- ---- how many words a walk reads

module _ (c : Config) (ht : ℕ) (m : List ℕ) (st : Bool) where
  pub levels_most : (is : List ℕ) (n level t : ℕ) (right : Bool) (k : ℕ) → n + (1 + c.levels) * length is ≤ k
      → ReadsMost k (walked_of c ht m n (levels c st level t right is))
  levels_most [] n level t right k l = rw (levels_end c ht m n st level t right) (omega arith)
  levels_most (i ∷ is) n level t right k l =
      rw (levels_step c ht m n st level t i is right)
      (go (walked_of c ht m n (turn c st level t i right)) (turn_fits c ht m n st level t i right) (λ j u v e. levels_most is j (pred level) u v k e))
    where
      one : (1 + c.levels) * suc (length is) ≡ 1 + c.levels + (1 + c.levels) * length is
      one = let z = mul-suc (1 + c.levels) (length is) in omega (arith, z)

      go : (r : Walked) → StepFits c (Few level i) n t r
          → ((j u : ℕ) (v : Bool) → j + (1 + c.levels) * length is ≤ k → ReadsMost k (walked_of c ht m j (levels c st (pred level) u v is)))
          → ReadsMost k (then_walked r (λ u v j. walked_of c ht m j (levels c st (pred level) u v is)))
      go (walked.Arrived w p j) f on = on j p.0 w (omega (arith, f.2, one, l))
      go (walked.Faulted x j) f on = omega (arith, f, one, l)
      go walked.Damaged f on = tt

  pub walk_most : (n root : ℕ) (is : List ℕ) (k : ℕ) → n + c.levels + (1 + c.levels) * length is ≤ k → ReadsMost k (walked_of c ht m n (walk c st root is))
  walk_most n root is k l =
      rw (walk_step c ht m n st root is)
      (go (walked_of c ht m n (next false false root true)) (table_fits c ht m n false root true))
    where
      go : (r : Walked) → TurnFits c n r → ReadsMost k (then_walked r (λ u v j. walked_of c ht m j (levels c st c.levels u true is)))
      go (walked.Arrived w p j) f = levels_most is j c.levels p.0 true k (omega (arith, f.1, l))
      go (walked.Faulted x j) f = omega (arith, f, l)
      go walked.Damaged f = tt

  pub shadow_most : (root a d : ℕ) → c.levels ≤ 5 → ReadsMost 65536 (walked_of c ht m 0 (walk c st root (path_indexes c d a)))
  shadow_most root a d five =
      let long : length (path_indexes c d a) ≡ c.levels - d = indexes_length (c.levels - d) (path_of d a) in
      let wide : 1 + c.levels ≤ 6 = omega arith in
      let steps : length (path_indexes c d a) ≤ 5 = omega (arith, long) in
      let many : (1 + c.levels) * length (path_indexes c d a) ≤ 6 * 5 = mul-le-mul wide steps in
      walk_most 0 root (path_indexes c d a) 65536 (omega arith)

  -- and no fewer than it began with
  walked_least : (n : ℕ) (p : Walk Fault Place) (k : ℕ) → ReadsMost k (walked_of c ht m n p) → k ≤ 65536 → ReadsFrom n (walked_of c ht m n p)
  unfolding walked_of
  walked_least n p k = go (trace (memory_world c ht m) p).result (n + (trace (memory_world c ht m) p).count) (omega arith)
    where
      absent : (h : HostWalk) (g j : ℕ) → n ≤ j → ReadsMost k (absent_by h (walked.Faulted (fault.HostAbsent g) j)) → k ≤ 65536 → ReadsFrom n (absent_by h (walked.Faulted (fault.HostAbsent g) j))
      absent (host.Found q v) g j l b d = (l, omega arith)
      absent (host.Absent i) g j l b d = (l, omega arith)
      absent host.Damaged g j l b d = tt

      go : (x : Result Fault Place) (j : ℕ) → n ≤ j → ReadsMost k (walked_by c ht m x j) → k ≤ 65536 → ReadsFrom n (walked_by c ht m x j)
      go (granted q) j l b d = (l, omega arith)
      go (failed (fault.Absent i)) j l b d = (l, omega arith)
      go (failed (fault.Malformed i)) j l b d = (l, omega arith)
      go (failed (fault.Protected i)) j l b d = (l, omega arith)
      go (failed (fault.HostAbsent g)) j l b d = absent (host_walk_of c ht m g) g j l b d
      go (failed (fault.HostReadOnly g)) j l b d = (l, omega arith)

  pub direct_reads : (a d t : ℕ) (w : Bool) → c.levels ≤ 5 → d ≤ c.levels → ReadsFrom (c.levels - d) (direct_of c ht m st a d t w)
  unfolding direct_of
  direct_reads a d t w five low =
      let wide : 1 + c.levels ≤ 6 = omega arith in
      let steps : length (indexes d (page_of a)) ≤ 5 = omega (arith, indexes_length d (page_of a)) in
      let many : (1 + c.levels) * length (indexes d (page_of a)) ≤ 6 * 5 = mul-le-mul wide steps in
      walked_least (c.levels - d) (levels c st (0 + d) t w (indexes d (page_of a))) 65536 (levels_most (indexes d (page_of a)) (c.levels - d) (0 + d) t w 65536 (omega arith)) (omega arith)

-- ---- held paths: what is true of every frame of the guest area, and of the frame in the record, is true of a frame found
module _ (c : Config) (P : ℕ → Type 0) (all : (f : ℕ) → InGuestArea c f → P f) where
  abbrev pub FoundIs : HostWalk → Type 0
  FoundIs (host.Found p w) = P p.0
  FoundIs (host.Absent n) = Unit {0}
  FoundIs host.Damaged = Unit {0}

  leaf_is : (e n : ℕ) → FoundIs (leaf_of c e n)
  unfolding leaf_of
  leaf_is e n = go (present e) (in_guest_area c (frame_of e)) refl
    where
      go : (p a : Bool) → in_guest_area c (frame_of e) ≡ a → FoundIs (cond p (cond a (host.Found (page (frame_of e)) (writable e)) host.Damaged) (host.Absent n))
      go true true q = all (frame_of e) (in_guest_area_lem c (frame_of e) (rw q tt))
      go true false q = tt
      go false a q = tt

  held_is : (m : List ℕ) (top : ℕ) (is : List ℕ) → FoundIs (held_of c m top is)
  unfolding held_of
  held_is m top is = go (lookup_of c.hosts c.shadows m top is 0)
    where
      go : (r : Look) → FoundIs (named_by c r)
      go (Seen e n) = leaf_is e n
      go Damaged = tt

  pub found_is : (m : List ℕ) (h : Held) (a d : ℕ) → (eqb h.frame.0 0 ≡ false → P h.frame.0) → FoundIs (found_of c m h a d)
  unfolding found_of
  found_is m h a d k = go (ltb d c.levels) (eqb h.frame.0 0) refl
    where
      go : (b z : Bool) → eqb h.frame.0 0 ≡ z → FoundIs (cond b (held_of c m h.pool.top (path_indexes c d a)) (cond z (host.Absent 0) (host.Found h.frame true)))
      go true z q = held_is m h.pool.top (path_indexes c d a)
      go false true q = tt
      go false false q = k q

-- the frame in the record, as a number that a place of a word can be made of
pub held_small : (c : Config) (h : Held) → HeldFits c h → c.frames ≤ 65536 → h.frame.0 < frame_limit
held_small c h f l = elim f.1 [ inl z ↦ omega (arith, z) | inr g ↦ omega (arith, g.1) ]
