-- Walks and large pages: from a span nothing is read, a walk that ends at a table has read an entry for each index, and the depth of a
-- request is where its shadow part ends in the guest area.
-- Assumes nothing.
use mathlib.Core.Path.{◌≡◌, refl, sym, ap, ◌∙◌, subst}
use Prim.Native.Nat.{ℕ, pred, ◌+◌, ◌*◌, ◌-◌, ◌<◌, ◌≤◌}
use native.Mathlib.Omega.{arith}
use mathlib.Core.Bool.{Bool, true, false, ◌&&◌, cond, and-false, false≢true}
use mathlib.Core.Logic.{◌⊎◌, inl, inr}
use mathlib.Core.Option.{some}
use mathlib.Core.List.{List, [], ◌∷◌, ◌++◌}
use borrow.Author.Tests.{le-leb, ne_eqb, le-ltb}
use lib.Dec.{eqb, ltb}
use lib.ListN.{length, take, drop, length-append, length-drop, take-append-drop}
use lib.Seq.{length-take-le}
use Rattle.spec.specs.declared.Fault.{Fault}
use Rattle.spec.specs.Config.{Config}
use Rattle.spec.specs.Entry.{bit_set, writable, frame_of, large, frames_below}
use Rattle.spec.specs.Walk.{Walk, ◌>>=◌, World, Trace, granted, trace}
use Rattle.spec.specs.Plain.{Place, Lead, to, into, span, is_span, first_frame, hosted, entry, next, entry_lead, span_lead, onward, turn, levels, walk, shadow_part}
use Rattle.spec_laws.proofs.Granted.{granted_is, through, then_trace, hosted_granted, level_reads, lead_at, Reaches, level_granted, same_bind, walk_same}
use Rattle.spec_laws.proofs.Parts.{lower, lower_is, walk_split}

-- the number of a span says so
pub span_is : (c : Config) (g : ℕ) → is_span c (span c g) ≡ true
unfolding is_span span
span_is c g = le-leb c.frames (c.frames + g) (omega arith)

-- a level reads an entry at most
pub level_most : (c : Config) (t i : ℕ) → length (level_reads c t i) ≤ 1
level_most c t i = go (is_span c t)
  where
    go : (b : Bool) → length (cond {A = List (ℕ × ℕ)} b [] ((t, i) ∷ [])) ≤ 1
    go true = omega arith
    go false = omega arith

pub levels_most : (w : World) (c : Config) (st : Bool) (n t : ℕ) (v : Bool) (is : List ℕ) (r : Place)
    → (trace w (levels c st n t v is)).result ≡ granted r → length (trace w (levels c st n t v is)).reads ≤ length is
unfolding levels trace
levels_most w c st n t v [] r h = omega arith
levels_most w c st n t v (i ∷ is) r h =
    let l = level_granted w c st n t v i is r h in
    let ih = levels_most w c st (pred n) l.at.0 l.at.1 is r l.next in
    let e = ap (λ (x : Trace Fault Place). length x.reads) l.whole ∙ length-append (level_reads c t i) _ in
    omega (arith, ih, e, level_most c t i)

-- where a level leads from a span: into a smaller one, and at level 1 to a frame
pub span_into : (w : World) (c : Config) (n t i : ℕ) (r : Place) → 1 < n → is_span c t ≡ true → Reaches w c (lead_at w c n t i) r → is_span c r.0 ≡ true
unfolding span_lead
span_into w c n t i r b s h =
    let g = first_frame c t + i * frames_below n in
    let e : lead_at w c n t i ≡ into g = ap (λ x. cond x (span_lead c n t i) (entry_lead n (w.word_at t i))) s ∙ ap (λ x. cond x (to g) (into g)) (ne_eqb n 1 (omega (arith, b))) in
    ap (is_span c) (subst (λ x. Reaches w c x r) e h) ∙ span_is c g

span_level : (c : Config) (t i : ℕ) → is_span c t ≡ true → level_reads c t i ≡ []
span_level c t i s = ap (λ x. cond {A = List (ℕ × ℕ)} x [] ((t, i) ∷ [])) s

-- it reads nothing, to the page
pub span_reads : (w : World) (c : Config) (st : Bool) (n t : ℕ) (v : Bool) (is : List ℕ) (r : Place) → is_span c t ≡ true → length is ≤ n
    → (trace w (levels c st n t v is)).result ≡ granted r → (trace w (levels c st n t v is)).reads ≡ []
unfolding levels trace
span_reads w c st n t v [] r s b h = refl
span_reads w c st n t v (i ∷ []) r s b h =
    let l = level_granted w c st n t v i [] r h in
    ap (λ (x : Trace Fault Place). x.reads) l.whole ∙ ap (λ (x : List (ℕ × ℕ)). x ++ []) (span_level c t i s)
span_reads w c st n t v (i ∷ j ∷ is) r s b h =
    let l = level_granted w c st n t v i (j ∷ is) r h in
    let rest = trace w (levels c st (pred n) l.at.0 l.at.1 (j ∷ is)) in
    ap (λ (x : Trace Fault Place). x.reads) l.whole ∙ ap (λ (x : List (ℕ × ℕ)). x ++ rest.reads) (span_level c t i s)
    ∙ span_reads w c st (pred n) l.at.0 l.at.1 (j ∷ is) r (span_into w c n t i l.at (omega (arith, b)) s l.reaches) (omega (arith, b)) l.next

-- a walk that ends above the page, and not in a span, was in none
pub real_reads : (w : World) (c : Config) (st : Bool) (n t : ℕ) (v : Bool) (is : List ℕ) (r : Place) → length is < n → is_span c r.0 ≡ false
    → (trace w (levels c st n t v is)).result ≡ granted r
    → (is_span c t ≡ false) × (length (trace w (levels c st n t v is)).reads ≡ length is)
unfolding levels trace
real_reads w c st n t v [] r b o h =
    (ap (λ (x : Place). is_span c x.0) (granted_is {X = Fault} (t, v) r h) ∙ o, refl)
real_reads w c st n t v (i ∷ is) r b o h =
    let l = level_granted w c st n t v i is r h in
    let ih = real_reads w c st (pred n) l.at.0 l.at.1 is r (omega (arith, b)) o l.next in
    let s = start l.at l.reaches ih.0 in
    let e = ap (λ (x : Trace Fault Place). length x.reads) l.whole ∙ length-append (level_reads c t i) _ in
    let k : length (level_reads c t i) ≡ 1 = ap (λ x. length (cond {A = List (ℕ × ℕ)} x [] ((t, i) ∷ []))) s in
    (s, omega (arith, e, k, ih.1))
  where
    start : (q : Place) → Reaches w c (lead_at w c n t i) q → is_span c q.0 ≡ false → is_span c t ≡ false
    start q z s = go (is_span c t) refl
      where
        go : (x : Bool) → is_span c t ≡ x → is_span c t ≡ false
        go false e = e
        go true e = absurd (false≢true (sym s ∙ span_into w c n t i q (omega (arith, b)) e z))

-- ---- the whole walk

-- past the host walk of the root
record Rooted (w : World) (c : Config) (st : Bool) (root : ℕ) (is : List ℕ) (r : Place) : Type 0 where
  at : Place
  next : (trace w (levels c st c.levels at.0 true is)).result ≡ granted r
  reads : (trace w (walk c st root is)).reads ≡ (trace w (levels c st c.levels at.0 true is)).reads

walk_granted : (w : World) (c : Config) (st : Bool) (root : ℕ) (is : List ℕ) (r : Place) → (trace w (walk c st root is)).result ≡ granted r → Rooted w c st root is r
unfolding walk
walk_granted w c st root is r h =
    let f : Place → Walk Fault Place = λ q. levels c st c.levels q.0 true is in
    let t = through w (hosted root) f r h in
    let a = hosted_granted w root t.mid t.first in
    record { at = t.mid; next = t.next; reads = ap (λ (x : Trace Fault Place). x.reads) (then_trace w (hosted root) f (w.host_cost root) [] (root ∷ []) t.mid a.1) }

-- a granted walk is a load's
pub walk_loads : (w : World) (c : Config) (st : Bool) (root : ℕ) (is : List ℕ) (r : Place) → (trace w (walk c st root is)).result ≡ granted r
    → trace w (walk c false root is) ≡ trace w (walk c st root is)
walk_loads w c true root is r h = walk_same w c root is r h
walk_loads w c false root is r h = refl

-- a walk of at most n indexes from the root reads an entry for each, at most
pub walk_most : (w : World) (c : Config) (st : Bool) (root : ℕ) (is : List ℕ) (r : Place)
    → (trace w (walk c st root is)).result ≡ granted r → length (trace w (walk c st root is)).reads ≤ length is
unfolding walk
walk_most w c st root is r h =
    let t = walk_granted w c st root is r h in
    subst (λ (xs : List (ℕ × ℕ)). length xs ≤ length is) (sym t.reads) (levels_most w c st c.levels t.at.0 true is r t.next)

-- exactly one where it ends above the page, and not in a span
pub walk_real : (w : World) (c : Config) (st : Bool) (root : ℕ) (is : List ℕ) (r : Place) → length is < c.levels → is_span c r.0 ≡ false
    → (trace w (walk c st root is)).result ≡ granted r → length (trace w (walk c st root is)).reads ≡ length is
walk_real w c st root is r b o h =
    let t = walk_granted w c st root is r h in
    ap length t.reads ∙ (real_reads w c st c.levels t.at.0 true is r b o t.next).1

-- where the walk down to level d is in a span, the whole walk reads no entry more
pub walk_span : (w : World) (c : Config) (st : Bool) (d root : ℕ) (is : List ℕ) (q r : Place) → length is ≡ c.levels
    → (trace w (shadow_part c false d root is)).result ≡ granted q → is_span c q.0 ≡ true → (trace w (walk c st root is)).result ≡ granted r
    → length (trace w (walk c st root is)).reads ≤ c.levels - d
walk_span w c st d root is q r l e s h =
    let load = walk_loads w c st root is r h in
    let g : (trace w (walk c false root is)).result ≡ granted r = ap (λ (x : Trace Fault Place). x.result) load ∙ h in
    subst (λ (x : Trace Fault Place). length x.reads ≤ c.levels - d) load (by g)
  where
    n : ℕ
    n = c.levels - d

    by : (trace w (walk c false root is)).result ≡ granted r → length (trace w (walk c false root is)).reads ≤ c.levels - d
    by g =
        let split : walk c false root is ≡ (walk c false root (take n is) >>= λ p. levels c false (lower c.levels (take n is)) p.0 p.1 (drop n is)) =
        ap (walk c false root) (sym (take-append-drop n is)) ∙ walk_split c false root (take n is) (drop n is) in
        let t = through w (walk c false root (take n is)) (λ p. levels c false (lower c.levels (take n is)) p.0 p.1 (drop n is)) r
        (subst (λ p. (trace w p).result ≡ granted r) split g) in
        let same : t.mid ≡ q = granted_is {X = Fault} t.mid q (sym t.first ∙ e) in
        let low = lower_is c.levels (take n is) in
        let long : length (take n is) ≡ n = length-take-le n is (omega (arith, l)) in
        let none = span_reads w c false (lower c.levels (take n is)) t.mid.0 t.mid.1 (drop n is) r (ap (λ (p : Place). is_span c p.0) same ∙ s)
        (omega (arith, low, long, length-drop n is, l)) t.next in
        let eq : (trace w (walk c false root is)).reads ≡ (trace w (walk c false root (take n is))).reads ++ [] =
        ap (λ p. (trace w p).reads) split ∙ ap (λ (x : Trace Fault Place). x.reads) t.whole ∙ ap (λ ys. (trace w (walk c false root (take n is))).reads ++ ys) none in
        let most = walk_most w c false root (take n is) t.mid t.first in
        let k = ap length eq ∙ length-append (trace w (walk c false root (take n is))).reads [] in
        omega (arith, k, most, long)

-- ---- above the page, and in no large page, a store walks as a load

onward_stores : (w : World) (c : Config) (n : ℕ) (x : Lead) (v : Bool) (q : Place) → 1 < n → is_span c q.0 ≡ false → (trace w (onward c false n x v)).result ≡ granted q
    → trace w (onward c true n x v) ≡ trace w (onward c false n x v)
unfolding onward next trace
onward_stores w c n (to g) v q b s h =
    let f : eqb n 1 ≡ false = ne_eqb n 1 (omega (arith, b)) in
    ap (λ x. trace w (next true x g v)) f ∙ sym (ap (λ x. trace w (next false x g v)) f)
onward_stores w c n (into g) v q b s h = absurd (false≢true (sym s ∙ ap (λ (x : Place). is_span c x.0) (sym (granted_is {X = Fault} (span c g, v) q h)) ∙ span_is c g))

turn_stores : (w : World) (c : Config) (n t i : ℕ) (v : Bool) (q : Place) → 1 < n → is_span c t ≡ false → is_span c q.0 ≡ false → (trace w (turn c false n t i v)).result ≡ granted q
    → trace w (turn c true n t i v) ≡ trace w (turn c false n t i v)
unfolding turn
turn_stores w c n t i v q b r s h = go (is_span c t) r h
  where
    by : Bool → Bool → Walk Fault Place
    by x st = cond x (onward c st n (span_lead c n t i) v) (entry c n t i >>= λ e. onward c st n (entry_lead n e) (v && writable e))

    go : (x : Bool) → x ≡ false → (trace w (by x false)).result ≡ granted q → trace w (by x true) ≡ trace w (by x false)
    go true z k = absurd (false≢true (sym z))
    go false z k = same_bind w (entry c n t i) (entry c n t i) _ _ q (λ _ _. refl) (λ e y. onward_stores w c n (entry_lead n e) (v && writable e) q b s y) k

levels_stores : (w : World) (c : Config) (n t : ℕ) (v : Bool) (is : List ℕ) (r : Place) → length is < n → is_span c r.0 ≡ false
    → (trace w (levels c false n t v is)).result ≡ granted r → trace w (levels c true n t v is) ≡ trace w (levels c false n t v is)
unfolding levels
levels_stores w c n t v [] r b s h = refl
levels_stores w c n t v (i ∷ is) r b s h =
    let a = through w (turn c false n t i v) (λ q. levels c false (pred n) q.0 q.1 is) r h in
    let here = (real_reads w c false n t v (i ∷ is) r b s h).0 in
    same_bind w (turn c false n t i v) (turn c true n t i v) _ _ r
    (λ q k. turn_stores w c n t i v q (omega (arith, b)) here (below q k a.mid a.first (real_reads w c false (pred n) a.mid.0 a.mid.1 is r (omega (arith, b)) s a.next).0) k)
    (λ q k. levels_stores w c (pred n) q.0 q.1 is r (omega (arith, b)) s k) h
  where
    below : (q : Place) → (trace w (turn c false n t i v)).result ≡ granted q → (p : Place) → (trace w (turn c false n t i v)).result ≡ granted p → is_span c p.0 ≡ false → is_span c q.0 ≡ false
    below q k p e z = ap (λ (x : Place). is_span c x.0) (granted_is {X = Fault} q p (sym k ∙ e)) ∙ z

pub walk_stores : (w : World) (c : Config) (root : ℕ) (is : List ℕ) (r : Place) → length is < c.levels → is_span c r.0 ≡ false
    → (trace w (walk c false root is)).result ≡ granted r → trace w (walk c true root is) ≡ trace w (walk c false root is)
unfolding walk
walk_stores w c root is r b s h =
    same_bind w (hosted root) (hosted root) _ _ r (λ _ _. refl) (λ q k. levels_stores w c c.levels q.0 true is r b s k) h

-- ---- no depth above 2 turns: large pages are at levels 2 and 3

-- a walk that ends at a table of level 3 or more is in no span, where the host leads to none
-- the entry of a level above 3 leads to a table
high_lead : (n e : ℕ) → 4 ≤ n → entry_lead n e ≡ to (frame_of e)
unfolding entry_lead large
high_lead n e b =
    ap (λ x. cond x (into (frame_of e)) (to (frame_of e))) (ap (λ x. ltb 1 n && (x && bit_set 7 e)) (le-ltb n 4 b) ∙ and-false (ltb 1 n))

-- a walk that ends at a table of level 3 or more is in no span, where the host leads to none
levels_high : (w : World) (c : Config) → ((g : ℕ) (r : Place) → w.host_at g ≡ some r → is_span c r.0 ≡ false) → (n t : ℕ) (v : Bool) (is : List ℕ) (r : Place)
    → 3 + length is ≤ n → is_span c t ≡ false → (trace w (levels c false n t v is)).result ≡ granted r → is_span c r.0 ≡ false
unfolding levels trace
levels_high w c real n t v [] r b s h = ap (λ (x : Place). is_span c x.0) (sym (granted_is {X = Fault} (t, v) r h)) ∙ s
levels_high w c real n t v (i ∷ is) r b s h =
    let l = level_granted w c false n t v i is r h in
    levels_high w c real (pred n) l.at.0 l.at.1 is r (omega (arith, b)) (next l.at l.reaches) l.next
  where
    next : (q : Place) → Reaches w c (lead_at w c n t i) q → is_span c q.0 ≡ false
    next q z =
        let e : lead_at w c n t i ≡ to (frame_of (w.word_at t i)) =
        ap (λ x. cond x (span_lead c n t i) (entry_lead n (w.word_at t i))) s ∙ high_lead n (w.word_at t i) (omega (arith, b)) in
        let k = subst (λ x. Reaches w c x q) e z in
        real (frame_of (w.word_at t i)) (q.0, k.0) k.1

pub walk_high : (w : World) (c : Config) → ((g : ℕ) (r : Place) → w.host_at g ≡ some r → is_span c r.0 ≡ false) → (root : ℕ) (is : List ℕ) (r : Place)
    → (3 + length is ≤ c.levels) ⊎ (length is ≡ 0) → (trace w (walk c false root is)).result ≡ granted r → is_span c r.0 ≡ false
unfolding walk levels trace
walk_high w c real root is r b h =
    let f : Place → Walk Fault Place = λ q. levels c false c.levels q.0 true is in
    let t = through w (hosted root) f r h in
    let a = hosted_granted w root t.mid t.first in
    by b t.mid (real root t.mid a.0) t.next
  where
    by : (3 + length is ≤ c.levels) ⊎ (length is ≡ 0) → (q : Place) → is_span c q.0 ≡ false → (trace w (levels c false c.levels q.0 true is)).result ≡ granted r → is_span c r.0 ≡ false
    by (inl l) q s k = levels_high w c real c.levels q.0 true is r l s k
    by (inr z) q s k = none is z k
      where
        none : (js : List ℕ) → length js ≡ 0 → (trace w (levels c false c.levels q.0 true js)).result ≡ granted r → is_span c r.0 ≡ false
        none [] z k = ap (λ (x : Place). is_span c x.0) (sym (granted_is {X = Fault} (q.0, true) r k)) ∙ s
        none (j ∷ js) z k = absurd (omega (arith, z))
