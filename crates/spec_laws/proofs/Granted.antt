-- What a granted walk did, level by level; and that a granted store walks as a load does.
-- Assumes nothing.
use mathlib.Core.Path.{◌≡◌, refl, sym, ap, ap₂, ◌∙◌, subst}
use Prim.Native.Nat.{ℕ, pred, ◌+◌, ◌*◌}
use native.Mathlib.Nat.{add-zero, zero-add}
use native.Mathlib.Omega.{arith}
use mathlib.Core.Bool.{Bool, true, false, not, ◌&&◌, ◌||◌, cond}
use mathlib.Core.List.{List, [], ◌∷◌}
use mathlib.Core.Option.{Option, none, some}
use borrow.Author.Tests.{not-true}
use lib.Dec.{eqb}
use lib.ListN.{length}
use Rattle.spec.specs.declared.Fault.{Fault}
use Rattle.spec.specs.declared.Fault.TheVariants.{Protected, HostReadOnly}
use Rattle.spec.specs.Config.{Config}
use Rattle.spec.specs.Entry.{present, writable, frame_of, large, frames_below, malformed}
use Rattle.spec.specs.Walk.{Walk, done, ◌>>=◌, ◌>>◌, World, Trace, Result, granted, failed, trace}
use Rattle.spec.specs.Plain.{Place, Lead, to, into, span, is_span, first_frame, must, mapped, hosted, entry, next, entry_lead, span_lead, onward, turn, levels, walk}
use Rattle.spec_laws.proofs.Lists.{and_first, and_second}
use Rattle.spec_laws.proofs.Bind.{and_then, onto, more, trace_bind}

pub no_grant : {X A : Type 0} {x : X} {a : A} → ◌≡◌ {A = Result X A} (failed x) (granted a) → ⊥
no_grant e = let z : ◌≡◌ {A = ℕ} 0 1 = cc in omega arith

pub granted_is : {X A : Type 0} (a b : A) → ◌≡◌ {A = Result X A} (granted a) (granted b) → a ≡ b
granted_is a b h = cc

pub failed_is : {X A : Type 0} (x y : X) → ◌≡◌ {A = Result X A} (failed x) (failed y) → x ≡ y
failed_is x y h = cc

-- a granted trace, by its parts
abbrev pub ran : {X A : Type 0} → ℕ → List (ℕ × ℕ) → List ℕ → A → Trace X A
ran n rs us a = record { result = granted a; count = n; reads = rs; uses = us }

-- forwards: what comes after a granted walk
pub then_trace : {X A B : Type 0} (w : World) (p : Walk X A) (f : A → Walk X B) (n : ℕ) (rs : List (ℕ × ℕ)) (us : List ℕ) (a : A)
    → trace w p ≡ ran n rs us a → trace w (p >>= f) ≡ more n rs us (trace w (f a))
then_trace w p f n rs us a e = trace_bind w p f ∙ ap (λ r. and_then r (λ x. trace w (f x))) e

-- backwards: a granted walk of p >>= f went through p, and on from its result
pub record Through {X A B : Type 0} (w : World) (p : Walk X A) (f : A → Walk X B) (b : B) : Type 0 where
  pub mid : A
  pub first : (trace w p).result ≡ granted mid
  pub next : (trace w (f mid)).result ≡ granted b
  pub whole : trace w (p >>= f) ≡ more (trace w p).count (trace w p).reads (trace w p).uses (trace w (f mid))

pub through : {X A B : Type 0} (w : World) (p : Walk X A) (f : A → Walk X B) (b : B) → (trace w (p >>= f)).result ≡ granted b → Through w p f b
through {X} {A} {B} w p f b h = go (trace w p).result refl
  where
    go : (x : Result X A) → (trace w p).result ≡ x → Through w p f b
    go (failed x) e =
        absurd (no_grant (sym (ap (λ (r : Trace X B). r.result) (trace_bind w p f)
        ∙ ap (λ y. (onto y (trace w p).count (trace w p).reads (trace w p).uses (λ a. trace w (f a))).result) e) ∙ h))
    go (granted a) e =
        let eq : trace w (p >>= f) ≡ more (trace w p).count (trace w p).reads (trace w p).uses (trace w (f a)) =
        trace_bind w p f ∙ ap (λ y. onto y (trace w p).count (trace w p).reads (trace w p).uses (λ a. trace w (f a))) e in
        record { mid = a; first = e; next = sym (ap (λ (r : Trace X B). r.result) eq) ∙ h; whole = eq }

must_granted : {B : Type 0} (w : World) (b : Bool) (x : Fault) (p : Walk Fault B) (r : B) → (trace w (must b x >> p)).result ≡ granted r
    → (b ≡ true) × ((trace w p).result ≡ granted r) × (trace w (must b x >> p) ≡ trace w p)
unfolding trace
must_granted w true x p r h = (refl, h, refl)
must_granted w false x p r h = absurd (no_grant h)

mapped_granted : (w : World) (g : ℕ) (x : Option Place) (r : Place) → (trace w (mapped g x)).result ≡ granted r
    → (x ≡ some r) × (trace w (mapped g x) ≡ ran 0 [] [] r)
unfolding trace
mapped_granted w g none r h = absurd (no_grant h)
mapped_granted w g (some q) r h = let e = granted_is q r h in (ap some e, ap (ran 0 [] []) e)

pub hosted_granted : (w : World) (g : ℕ) (r : Place) → (trace w (hosted g)).result ≡ granted r
    → (w.host_at g ≡ some r) × (trace w (hosted g) ≡ ran (w.host_cost g) [] (g ∷ []) r)
unfolding hosted trace
hosted_granted w g r h =
    let s = mapped_granted w g (w.host_at g) r h in
    (s.0, ap (more (w.host_cost g) [] (g ∷ [])) s.1 ∙ ap (λ n. ran n [] (g ∷ []) r) (add-zero (w.host_cost g)))

pub entry_granted : (w : World) (c : Config) (n t i e : ℕ) → (trace w (entry c n t i)).result ≡ granted e
    → (trace w (entry c n t i) ≡ ran 1 ((t, i) ∷ []) [] e) × (e ≡ w.word_at t i) × (malformed c n (w.word_at t i) ≡ false)
unfolding entry trace
entry_granted w c n t i e h =
    let x = w.word_at t i in
    let a = must_granted w (present x) _ _ e h in
    let b = must_granted w (not (malformed c n x)) _ _ e a.1 in
    let q : x ≡ e = granted_is x e b.1 in
    (ap (more 1 ((t, i) ∷ []) []) (a.2 ∙ b.2) ∙ ap (ran 1 ((t, i) ∷ []) []) q, sym q, not-true (malformed c n x) b.0)

-- past the host walk of an entry's frame
pub record Arrived (w : World) (st last : Bool) (g : ℕ) (v : Bool) (r : Place) : Type 0 where
  pub right : Bool
  pub found : w.host_at g ≡ some (r.0, right)
  pub whole : trace w (next st last g v) ≡ ran (w.host_cost g) [] (g ∷ []) r

on_granted : (w : World) (g : ℕ) (r : Place) (k : Place → Walk Fault Place)
    → ((q : Place) → (trace w (k q)).result ≡ granted r → (q.0 ≡ r.0) × (trace w (k q) ≡ ran 0 [] [] r))
    → (trace w (hosted g >>= k)).result ≡ granted r
    → (right : Bool) × (w.host_at g ≡ some (r.0, right)) × (trace w (hosted g >>= k) ≡ ran (w.host_cost g) [] (g ∷ []) r)
on_granted w g r k f h =
    let t = through w (hosted g) k r h in
    let a = hosted_granted w g t.mid t.first in
    let b = f t.mid t.next in (
      t.mid.1,
      a.0 ∙ ap (λ x. some (x, t.mid.1)) b.0,
      then_trace w (hosted g) k (w.host_cost g) [] (g ∷ []) t.mid a.1 ∙ ap (more (w.host_cost g) [] (g ∷ [])) b.1
          ∙ ap (λ n. ran n [] (g ∷ []) r) (add-zero (w.host_cost g)),
    )

pub next_granted : (w : World) (st last : Bool) (g : ℕ) (v : Bool) (r : Place) → (trace w (next st last g v)).result ≡ granted r → Arrived w st last g v r
unfolding next trace
next_granted w st false g v r h =
    let a = on_granted w g r (λ q. done (q.0, v))
    (λ q e. let z : (q.0, v) ≡ r = granted_is (q.0, v) r e in (ap (λ x. x.0) z, ap (ran 0 [] []) z)) h in
    record { right = a.0; found = a.1; whole = a.2 }
next_granted w st true g v r h =
    let m = must_granted w (not st || v) _ _ r h in
    let a = on_granted w g r _ (λ q e.
    let z = must_granted w (not st || q.1) _ (done (q.0, (v && q.1))) r e in
    let y : (q.0, (v && q.1)) ≡ r = granted_is (q.0, (v && q.1)) r z.1 in
    (ap (λ x. x.0) y, z.2 ∙ ap (ran 0 [] []) y)) m.1 in
    record { right = a.0; found = a.1; whole = m.2 ∙ a.2 }

-- ---- one level

-- the words that one level reads, from the table or span t by index i, and where it leads
abbrev pub level_reads : Config → ℕ → ℕ → List (ℕ × ℕ)
level_reads c t i = cond (is_span c t) [] ((t, i) ∷ [])

abbrev pub lead_at : World → Config → ℕ → ℕ → ℕ → Lead
lead_at w c n t i = cond (is_span c t) (span_lead c n t i) (entry_lead n (w.word_at t i))

-- the mappings that a lead uses, and what they cost
abbrev pub lead_uses : Lead → List ℕ
lead_uses (to g) = g ∷ []
lead_uses (into g) = []

abbrev pub lead_cost : World → Lead → ℕ
lead_cost w (to g) = w.host_cost g
lead_cost w (into g) = 0

-- a place that a lead comes to
abbrev pub Reaches : World → Config → Lead → Place → Type 0
Reaches w c (to g) r = (right : Bool) × (w.host_at g ≡ some (r.0, right))
Reaches w c (into g) r = r.0 ≡ span c g

onward_granted : (w : World) (c : Config) (st : Bool) (n : ℕ) (x : Lead) (v : Bool) (r : Place) → (trace w (onward c st n x v)).result ≡ granted r
    → (Reaches w c x r) × (trace w (onward c st n x v) ≡ ran (lead_cost w x) [] (lead_uses x) r)
unfolding onward trace
onward_granted w c st n (to g) v r h =
    let a = next_granted w st (eqb n 1) g v r h in
    ((a.right, a.found), a.whole)
onward_granted w c st n (into g) v r h =
    let m = must_granted w (not st || v) _ (done (span c g, v)) r h in
    let e : (span c g, v) ≡ r = granted_is (span c g, v) r m.1 in
    (sym (ap (λ (x : Place). x.0) e), m.2 ∙ ap (ran 0 [] []) e)

pub record Turned (w : World) (c : Config) (st : Bool) (n t i : ℕ) (v : Bool) (r : Place) : Type 0 where
  pub reaches : Reaches w c (lead_at w c n t i) r
  pub whole : trace w (turn c st n t i v)
      ≡ ran (length (level_reads c t i) + lead_cost w (lead_at w c n t i)) (level_reads c t i) (lead_uses (lead_at w c n t i)) r

pub turn_granted : (w : World) (c : Config) (st : Bool) (n t i : ℕ) (v : Bool) (r : Place)
    → (trace w (turn c st n t i v)).result ≡ granted r → Turned w c st n t i v r
unfolding turn
turn_granted w c st n t i v r h =
    let z = go (is_span c t) h in
    record { reaches = z.0; whole = z.1 }
  where
    on : ℕ → Walk Fault Place
    on e = onward c st n (entry_lead n e) (v && writable e)

    go : (b : Bool)
        → (trace w (cond b (onward c st n (span_lead c n t i) v) (entry c n t i >>= on))).result ≡ granted r
        → let x = cond b (span_lead c n t i) (entry_lead n (w.word_at t i)) in let rs : List (ℕ × ℕ) = cond b [] ((t, i) ∷ []) in
        (Reaches w c x r) × (trace w (cond b (onward c st n (span_lead c n t i) v) (entry c n t i >>= on)) ≡ ran (length rs + lead_cost w x) rs (lead_uses x) r)
    go true k =
        let o = onward_granted w c st n (span_lead c n t i) v r k in
        (o.0, o.1 ∙ ap (λ x. ran x [] (lead_uses (span_lead c n t i)) r) (sym (zero-add (lead_cost w (span_lead c n t i)))))
    go false k =
        let a = through w (entry c n t i) on r k in
        let e = entry_granted w c n t i a.mid a.first in
        let o = onward_granted w c st n (entry_lead n a.mid) (v && writable a.mid) r a.next in
        let y = then_trace w (entry c n t i) on 1 ((t, i) ∷ []) [] a.mid e.0 ∙ ap (more 1 ((t, i) ∷ []) []) o.1 in
        subst
        (λ x. (Reaches w c (entry_lead n x) r) × (trace w (entry c n t i >>= on) ≡ ran (1 + lead_cost w (entry_lead n x)) ((t, i) ∷ []) (lead_uses (entry_lead n x)) r))
        e.1 (o.0, y)

-- one level of a granted walk
pub record Level (w : World) (c : Config) (st : Bool) (n t i : ℕ) (is : List ℕ) (v : Bool) (r : Place) : Type 0 where
  pub at : Place
  pub reaches : Reaches w c (lead_at w c n t i) at
  pub next : (trace w (levels c st (pred n) at.0 at.1 is)).result ≡ granted r
  pub whole : trace w (levels c st n t v (i ∷ is))
      ≡ more (length (level_reads c t i) + lead_cost w (lead_at w c n t i)) (level_reads c t i) (lead_uses (lead_at w c n t i)) (trace w (levels c st (pred n) at.0 at.1 is))

pub level_granted : (w : World) (c : Config) (st : Bool) (n t : ℕ) (v : Bool) (i : ℕ) (is : List ℕ) (r : Place)
    → (trace w (levels c st n t v (i ∷ is))).result ≡ granted r → Level w c st n t i is v r
unfolding levels
level_granted w c st n t v i is r h =
    let f : Place → Walk Fault Place = λ q. levels c st (pred n) q.0 q.1 is in
    let a = through w (turn c st n t i v) f r h in
    let z = turn_granted w c st n t i v a.mid a.first in
    record { at = a.mid; reaches = z.reaches; next = a.next; whole = then_trace w (turn c st n t i v) f _ _ _ a.mid z.whole }

-- ---- a granted store walks as a load does

pub same_bind : {X A B : Type 0} (w : World) (p q : Walk X A) (f g : A → Walk X B) (r : B)
    → ((a : A) → (trace w p).result ≡ granted a → trace w q ≡ trace w p)
    → ((a : A) → (trace w (f a)).result ≡ granted r → trace w (g a) ≡ trace w (f a))
    → (trace w (p >>= f)).result ≡ granted r → trace w (q >>= g) ≡ trace w (p >>= f)
same_bind w p q f g r j k h =
    let t = through w p f r h in
    trace_bind w q g
    ∙ ap (λ x. and_then x (λ a. trace w (g a))) (j t.mid t.first)
    ∙ ap (λ y. onto y (trace w p).count (trace w p).reads (trace w p).uses (λ a. trace w (g a))) t.first
    ∙ ap (more (trace w p).count (trace w p).reads (trace w p).uses) (k t.mid t.next)
    ∙ sym t.whole

must_same : {B : Type 0} (w : World) (b : Bool) (x : Fault) (p q : Walk Fault B) (r : B)
    → ((trace w p).result ≡ granted r → trace w q ≡ trace w p) → (trace w (must b x >> p)).result ≡ granted r → trace w q ≡ trace w (must b x >> p)
unfolding trace
must_same w true x p q r k h = k h
must_same w false x p q r k h = absurd (no_grant h)

next_same : (w : World) (last : Bool) (g : ℕ) (v : Bool) (r : Place)
    → (trace w (next true last g v)).result ≡ granted r → trace w (next false last g v) ≡ trace w (next true last g v)
unfolding next
next_same w false g v r h = refl
next_same w true g v r h =
    must_same w v _ _ _ r (λ e. same_bind w (hosted g) (hosted g) _ _ r (λ _ _. refl)
    (λ q e. must_same w q.1 _ (done (q.0, (v && q.1))) (done (q.0, (v && q.1))) r (λ _. refl) e) e) h

onward_same : (w : World) (c : Config) (n : ℕ) (x : Lead) (v : Bool) (r : Place)
    → (trace w (onward c true n x v)).result ≡ granted r → trace w (onward c false n x v) ≡ trace w (onward c true n x v)
unfolding onward
onward_same w c n (to g) v r h = next_same w (eqb n 1) g v r h
onward_same w c n (into g) v r h = must_same w v _ (done (span c g, v)) (done (span c g, v)) r (λ _. refl) h

turn_same : (w : World) (c : Config) (n t i : ℕ) (v : Bool) (r : Place)
    → (trace w (turn c true n t i v)).result ≡ granted r → trace w (turn c false n t i v) ≡ trace w (turn c true n t i v)
unfolding turn
turn_same w c n t i v r h = go (is_span c t) h
  where
    by : Bool → Bool → Walk Fault Place
    by b st = cond b (onward c st n (span_lead c n t i) v) (entry c n t i >>= λ e. onward c st n (entry_lead n e) (v && writable e))

    go : (b : Bool) → (trace w (by b true)).result ≡ granted r → trace w (by b false) ≡ trace w (by b true)
    go true k = onward_same w c n (span_lead c n t i) v r k
    go false k = same_bind w (entry c n t i) (entry c n t i) _ _ r (λ _ _. refl) (λ e z. onward_same w c n (entry_lead n e) (v && writable e) r z) k

pub levels_same : (w : World) (c : Config) (n t : ℕ) (v : Bool) (is : List ℕ) (r : Place)
    → (trace w (levels c true n t v is)).result ≡ granted r → trace w (levels c false n t v is) ≡ trace w (levels c true n t v is)
unfolding levels
levels_same w c n t v [] r h = refl
levels_same w c n t v (i ∷ is) r h =
    same_bind w (turn c true n t i v) (turn c false n t i v) _ _ r (λ a k. turn_same w c n t i v a k)
    (λ a k. levels_same w c (pred n) a.0 a.1 is r k) h

pub walk_same : (w : World) (c : Config) (root : ℕ) (is : List ℕ) (r : Place)
    → (trace w (walk c true root is)).result ≡ granted r → trace w (walk c false root is) ≡ trace w (walk c true root is)
unfolding walk
walk_same w c root is r h =
    same_bind w (hosted root) (hosted root) _ _ r (λ _ _. refl) (λ a j. levels_same w c c.levels a.0 true is r j) h

-- ---- a load's walk that comes to a place with the write right serves a store too

right_of_lem : (a : ℕ) (v : Bool) (f : ℕ) → ◌≡◌ {A = Result Fault Place} (granted (a, v)) (granted (f, true)) → v ≡ true
right_of_lem a v f h = ap (λ x. x.1) (granted_is (a, v) (f, true) h)

on_right : (w : World) (g : ℕ) (k : Place → Walk Fault Place) (v : Bool) (f : ℕ)
    → ((q : Place) → (trace w (k q)).result ≡ granted (f, true) → v ≡ true) → (trace w (hosted g >>= k)).result ≡ granted (f, true) → v ≡ true
on_right w g k v f h e = let t = through w (hosted g) k (f, true) e in h t.mid t.next

next_right : (w : World) (last : Bool) (g : ℕ) (v : Bool) (f : ℕ) → (trace w (next false last g v)).result ≡ granted (f, true) → v ≡ true
unfolding next trace
next_right w false g v f h = on_right w g (λ q. done (q.0, v)) v f (λ q e. right_of_lem q.0 v f e) h
next_right w true g v f h = on_right w g (λ q. done (q.0, (v && q.1))) v f (λ q e. and_first v q.1 (right_of_lem q.0 (v && q.1) f e)) h

onward_right : (w : World) (c : Config) (n : ℕ) (x : Lead) (v : Bool) (f : ℕ) → (trace w (onward c false n x v)).result ≡ granted (f, true) → v ≡ true
unfolding onward trace
onward_right w c n (to g) v f h = next_right w (eqb n 1) g v f h
onward_right w c n (into g) v f h = right_of_lem (span c g) v f h

turn_right : (w : World) (c : Config) (n t i : ℕ) (v : Bool) (f : ℕ) → (trace w (turn c false n t i v)).result ≡ granted (f, true) → v ≡ true
unfolding turn
turn_right w c n t i v f h = go (is_span c t) h
  where
    on : ℕ → Walk Fault Place
    on e = onward c false n (entry_lead n e) (v && writable e)

    go : (b : Bool) → (trace w (cond b (onward c false n (span_lead c n t i) v) (entry c n t i >>= on))).result ≡ granted (f, true) → v ≡ true
    go true k = onward_right w c n (span_lead c n t i) v f k
    go false k =
        let a = through w (entry c n t i) on (f, true) k in
        and_first v (writable a.mid) (onward_right w c n (entry_lead n a.mid) (v && writable a.mid) f a.next)

levels_right : (w : World) (c : Config) (n t : ℕ) (v : Bool) (is : List ℕ) (f : ℕ) → (trace w (levels c false n t v is)).result ≡ granted (f, true) → v ≡ true
unfolding levels trace
levels_right w c n t v [] f h = right_of_lem t v f h
levels_right w c n t v (i ∷ is) f h =
    let a = through w (turn c false n t i v) (λ q. levels c false (pred n) q.0 q.1 is) (f, true) h in
    let r = levels_right w c (pred n) a.mid.0 a.mid.1 is f a.next in
    turn_right w c n t i v a.mid.0 (a.first ∙ ap (λ x. granted (a.mid.0, x)) r)

must_on : {B : Type 0} (w : World) (b : Bool) (x : Fault) (p : Walk Fault B) → b ≡ true → trace w (must b x >> p) ≡ trace w p
must_on w b x p h = ap (λ y. trace w (must y x >> p)) h

next_serves : (w : World) (last : Bool) (g : ℕ) (v : Bool) (f : ℕ)
    → (trace w (next false last g v)).result ≡ granted (f, true) → trace w (next true last g v) ≡ trace w (next false last g v)
unfolding next trace
next_serves w false g v f h = refl
next_serves w true g v f h =
    must_on w v _ _ (next_right w true g v f h)
    ∙ same_bind w (hosted g) (hosted g) (λ q. done (q.0, (v && q.1))) _ (f, true) (λ _ _. refl)
    (λ q e. must_on w q.1 _ _ (and_second v q.1 (right_of_lem q.0 (v && q.1) f e))) h

onward_serves : (w : World) (c : Config) (n : ℕ) (x : Lead) (v : Bool) (f : ℕ)
    → (trace w (onward c false n x v)).result ≡ granted (f, true) → trace w (onward c true n x v) ≡ trace w (onward c false n x v)
unfolding onward trace
onward_serves w c n (to g) v f h = next_serves w (eqb n 1) g v f h
onward_serves w c n (into g) v f h = must_on w v _ (done (span c g, v)) (right_of_lem (span c g) v f h)

turn_serves : (w : World) (c : Config) (n t i : ℕ) (v : Bool) (f : ℕ)
    → (trace w (turn c false n t i v)).result ≡ granted (f, true) → trace w (turn c true n t i v) ≡ trace w (turn c false n t i v)
unfolding turn
turn_serves w c n t i v f h = go (is_span c t) h
  where
    by : Bool → Bool → Walk Fault Place
    by b st = cond b (onward c st n (span_lead c n t i) v) (entry c n t i >>= λ e. onward c st n (entry_lead n e) (v && writable e))

    go : (b : Bool) → (trace w (by b false)).result ≡ granted (f, true) → trace w (by b true) ≡ trace w (by b false)
    go true k = onward_serves w c n (span_lead c n t i) v f k
    go false k = same_bind w (entry c n t i) (entry c n t i) _ _ (f, true) (λ _ _. refl) (λ e z. onward_serves w c n (entry_lead n e) (v && writable e) f z) k

pub levels_serve : (w : World) (c : Config) (n t : ℕ) (v : Bool) (is : List ℕ) (f : ℕ)
    → (trace w (levels c false n t v is)).result ≡ granted (f, true) → trace w (levels c true n t v is) ≡ trace w (levels c false n t v is)
unfolding levels
levels_serve w c n t v [] f h = refl
levels_serve w c n t v (i ∷ is) f h =
    let b = through w (turn c false n t i v) (λ q. levels c false (pred n) q.0 q.1 is) (f, true) h in
    let r = levels_right w c (pred n) b.mid.0 b.mid.1 is f b.next in
    same_bind w (turn c false n t i v) (turn c true n t i v) _ _ (f, true)
    (λ _ _. turn_serves w c n t i v b.mid.0 (b.first ∙ ap (λ x. granted (b.mid.0, x)) r))
    (λ a j. levels_serve w c (pred n) a.0 a.1 is f j) h

pub walk_serves : (w : World) (c : Config) (root : ℕ) (is : List ℕ) (f : ℕ)
    → (trace w (walk c false root is)).result ≡ granted (f, true) → trace w (walk c true root is) ≡ trace w (walk c false root is)
unfolding walk
walk_serves w c root is f h =
    same_bind w (hosted root) (hosted root) _ _ (f, true) (λ _ _. refl) (λ a j. levels_serve w c c.levels a.0 true is f j) h

-- ---- and a store's walk to a page comes to a place with the write right

page_right : (w : World) (g : ℕ) (v : Bool) (q : Place) → (trace w (next true true g v)).result ≡ granted q → q.1 ≡ true
unfolding next trace
page_right w g v q h =
    let a = must_granted w v (Protected 1) _ q h in
    let t = through w (hosted g) (λ r. must r.1 (HostReadOnly g) >> done (r.0, (v && r.1))) q a.1 in
    let b = must_granted w t.mid.1 (HostReadOnly g) (done (t.mid.0, (v && t.mid.1))) q t.next in
    let e : (t.mid.0, (v && t.mid.1)) ≡ q = granted_is (t.mid.0, (v && t.mid.1)) q b.1 in
    sym (ap (λ (x : Place). x.1) e) ∙ ap₂ (λ x y. x && y) a.0 b.0

-- the last level leads to the page, from a table and from a span
last_right : (w : World) (c : Config) (t i : ℕ) (v : Bool) (q : Place) → (trace w (turn c true 1 t i v)).result ≡ granted q → q.1 ≡ true
unfolding turn onward entry_lead span_lead large
last_right w c t i v q h = go (is_span c t) h
  where
    on : ℕ → Walk Fault Place
    on e = next true true (frame_of e) (v && writable e)

    go : (b : Bool) → (trace w (cond b (next true true (first_frame c t + i * frames_below 1) v) (entry c 1 t i >>= on))).result ≡ granted q → q.1 ≡ true
    go true k = page_right w (first_frame c t + i * frames_below 1) v q k
    go false k =
        let a = through w (entry c 1 t i) on q k in
        page_right w (frame_of a.mid) (v && writable a.mid) q a.next

levels_store : (w : World) (c : Config) (n t : ℕ) (v : Bool) (is : List ℕ) (r : Place) → length is ≡ n → (n ≡ 0 → v ≡ true)
    → (trace w (levels c true n t v is)).result ≡ granted r → r.1 ≡ true
unfolding levels trace
levels_store w c n t v [] r l ok h = sym (ap (λ (x : Place). x.1) (granted_is (t, v) r h)) ∙ ok (sym l)
levels_store w c n t v (i ∷ is) r l ok h =
    let a = through w (turn c true n t i v) (λ q. levels c true (pred n) q.0 q.1 is) r h in
    let k : length is ≡ pred n = omega arith in
    levels_store w c (pred n) a.mid.0 a.mid.1 is r k
    (λ z.
    let o : n ≡ 1 = omega arith in
    last_right w c t i v a.mid (ap (λ x. (trace w (turn c true x t i v)).result) (sym o) ∙ a.first))
    a.next

pub walk_store : (w : World) (c : Config) (root : ℕ) (is : List ℕ) (r : Place) → length is ≡ c.levels
    → (trace w (walk c true root is)).result ≡ granted r → r.1 ≡ true
unfolding walk
walk_store w c root is r l h =
    let t = through w (hosted root) (λ q. levels c true c.levels q.0 true is) r h in
    levels_store w c c.levels t.mid.0 true is r l (λ _. refl) t.next
