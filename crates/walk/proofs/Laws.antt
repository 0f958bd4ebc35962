-- What a walk over memory comes to, step by step: the laws that the code is proved by.
use mathlib.Core.Path.{◌≡◌, refl, sym, ap, ◌∙◌}
use Prim.Native.Nat.{ℕ, pred, ◌+◌, ◌-◌, ◌*◌, ◌/◌, ◌%◌, ◌^◌, ◌<◌, ◌≤◌}
use native.Mathlib.Nat.{add_assoc, mul-le-mul}
use native.Mathlib.Omega.{arith}
use mathlib.Core.Bool.{Bool, true, false, not, ◌&&◌, ◌||◌, cond}
use mathlib.Core.Logic.{◌⊎◌, inl, inr}
use mathlib.Core.List.{List, [], ◌∷◌}
use lib.Dec.{eqb, ltb}
use lib.Pow.{pow_mono}
use borrow.Author.Tests.{le-leb, leb-true, lt-ltb, le-ltb, ltb-true, ltb-false}
use Rattle.spec.specs.declared.Fault.{Fault}
use Rattle.spec.specs.declared.Fault.TheVariants.{Absent, Malformed, Protected, HostAbsent, HostReadOnly}
use Rattle.spec.specs.Config.{Config, frame_bits}
use Rattle.spec.specs.Entry.{bit_set, present, writable, frame_of, frame_limit, large, frames_below, malformed, indexes}
use Rattle.spec.specs.Walk.{Walk, done, ◌>>=◌, ◌>>◌, World, Trace, Result, granted, failed, trace}
use Rattle.spec.specs.Plain.{Place, Lead, to, into, span, is_span, first_frame, must, mapped, hosted, entry, next, entry_lead, span_lead, onward, turn, levels, walk}
use Rattle.spec_laws.proofs.Bind.{onto, trace_bind, bind_assoc}
use Rattle.entry.specs.declared.HostPhysical.{HostPhysical}
use Rattle.words.specs.Words.{word_in}
use Rattle.layout.specs.declared.HostWalk.{HostWalk}
use Rattle.layout.specs.declared.HostWalk.TheVariants as host
use Rattle.layout.specs.Layout.{page}
use Rattle.host.specs.Walk.{host_walk_of}
use Rattle.layout.proofs.Laws.{HostFits}
use Rattle.host.proofs.Laws.{host_fits}
use Rattle.entry.proofs.Entries.{frame_fits_lem}
use Rattle.walk.specs.declared.Led.{Led}
use Rattle.walk.specs.declared.Led.TheVariants as led
use Rattle.walk.specs.declared.Walked.{Walked}
use Rattle.walk.specs.declared.Walked.TheVariants as walked
use Rattle.walk.specs.Memory.{span_room, place_room, place_of, reads_of, memory_world, absent_by, walked_by, walked_of, into_of, found_of, led_by, led_by_entry, led_of}
use Rattle.spec_laws.proofs.Keeps.{InGuestArea}

-- ---- one walk after another

abbrev pub then_walked : Walked → (ℕ → Bool → ℕ → Walked) → Walked
then_walked (walked.Arrived w p n) f = f p.0 w n
then_walked (walked.Faulted x n) f = walked.Faulted x n
then_walked walked.Damaged f = walked.Damaged

fault_then : (c : Config) (ht : ℕ) (m : List ℕ) (x : Fault) (n : ℕ) (f : ℕ → Bool → ℕ → Walked) → walked_by c ht m (failed x) n ≡ then_walked (walked_by c ht m (failed x) n) f
fault_then c ht m (Absent l) n f = refl
fault_then c ht m (Malformed l) n f = refl
fault_then c ht m (Protected l) n f = refl
fault_then c ht m (HostAbsent g) n f = go (host_walk_of c ht m g)
  where
    go : (h : HostWalk) → absent_by h (walked.Faulted (HostAbsent g) n) ≡ then_walked (absent_by h (walked.Faulted (HostAbsent g) n)) f
    go (host.Found p w) = refl
    go (host.Absent k) = refl
    go host.Damaged = refl
fault_then c ht m (HostReadOnly g) n f = refl

pub walked_then : (c : Config) (ht : ℕ) (m : List ℕ) (n : ℕ) (p : Walk Fault Place) (f : Place → Walk Fault Place)
    → walked_of c ht m n (p >>= f) ≡ then_walked (walked_of c ht m n p) (λ t w k. walked_of c ht m k (f (t, w)))
unfolding walked_of
walked_then c ht m n p f =
    ap (λ (t : Trace Fault Place). walked_by c ht m t.result (n + t.count)) (trace_bind w p f) ∙ go r.result
  where
    w : World
    w = memory_world c ht m

    r : Trace Fault Place
    r = trace w p

    go : (x : Result Fault Place)
        → walked_by c ht m (onto x r.count r.reads r.uses (λ a. trace w (f a))).result (n + (onto x r.count r.reads r.uses (λ a. trace w (f a))).count)
        ≡ then_walked (walked_by c ht m x (n + r.count)) (λ t v k. walked_by c ht m (trace w (f (t, v))).result (k + (trace w (f (t, v))).count))
    go (granted a) = ap (walked_by c ht m (trace w (f a)).result) (sym (add_assoc n r.count (trace w (f a)).count))
    go (failed x) = fault_then c ht m x (n + r.count) _

-- ---- the steps

pub walked_done : (c : Config) (ht : ℕ) (m : List ℕ) (n t : ℕ) (w : Bool) → walked_of c ht m n (done (t, w)) ≡ walked.Arrived w (page t) n
unfolding walked_of trace
walked_done c ht m n t w = let z : n + 0 ≡ n = omega arith in rw z

-- on from the host walk h of guest frame g, of levels k: to a table
abbrev pub table_by : ℕ → ℕ → Bool → ℕ → HostWalk → Walked
table_by k g right n (host.Found p w) = walked.Arrived right p (n + k)
table_by k g right n (host.Absent r) = walked.Faulted (HostAbsent g) (n + r)
table_by k g right n host.Damaged = walked.Damaged

abbrev pub page_by : ℕ → Bool → ℕ → Bool → ℕ → HostWalk → Walked
page_by k st g right n (host.Found p w) = found_of st g p w right (n + k)
page_by k st g right n (host.Absent r) = walked.Faulted (HostAbsent g) (n + r)
page_by k st g right n host.Damaged = walked.Damaged

pub table_step : (c : Config) (ht : ℕ) (m : List ℕ) (n : ℕ) (st : Bool) (g : ℕ) (right : Bool)
    → walked_of c ht m n (next st false g right) ≡ table_by c.levels g right n (host_walk_of c ht m g)
unfolding walked_of next hosted trace memory_world
table_step c ht m n st g right = go (host_walk_of c ht m g) refl
  where
    w : World
    w = memory_world c ht m

    on : HostWalk → Trace Fault Place
    on h = trace w (mapped g (place_of h) >>= λ r. done (r.0, right))

    go : (h : HostWalk) → host_walk_of c ht m g ≡ h → walked_by c ht m (on h).result (n + (reads_of c h + (on h).count)) ≡ table_by c.levels g right n h
    go (host.Found p v) e = let z : n + (c.levels + 0) ≡ n + c.levels = omega arith in ap (walked.Arrived right p) z
    go (host.Absent k) e = let z : n + (k + 0) ≡ n + k = omega arith in rw (e, z)
    go host.Damaged e = rw e

pub page_step : (c : Config) (ht : ℕ) (m : List ℕ) (n : ℕ) (st : Bool) (g : ℕ) (right : Bool)
    → walked_of c ht m n (next st true g right) ≡ cond (not st || right) (page_by c.levels st g right n (host_walk_of c ht m g)) (walked.Faulted (Protected 1) n)
unfolding walked_of next hosted trace memory_world found_of
page_step c ht m n st g right = first (not st || right)
  where
    w : World
    w = memory_world c ht m

    last : Place → Walk Fault Place
    last r = must (not st || r.1) (HostReadOnly g) >> done (r.0, (right && r.1))

    on : HostWalk → Trace Fault Place
    on h = trace w (mapped g (place_of h) >>= last)

    at : HostPhysical → Bool → Walk Fault Place
    at p v = done (p.0, (right && v))

    found : (b : Bool) (p : HostPhysical) (v : Bool) (k : ℕ)
        → walked_by c ht m (trace w (must b (HostReadOnly g) >> at p v)).result (n + (k + (trace w (must b (HostReadOnly g) >> at p v)).count))
        ≡ cond b (walked.Arrived (right && v) p (n + k)) (walked.Faulted (HostReadOnly g) (n + k))
    found true p v k = let z : n + (k + 0) ≡ n + k = omega arith in ap (walked.Arrived (right && v) p) z
    found false p v k = let z : n + (k + 0) ≡ n + k = omega arith in ap (walked.Faulted (HostReadOnly g)) z

    go : (h : HostWalk) → host_walk_of c ht m g ≡ h → walked_by c ht m (on h).result (n + (reads_of c h + (on h).count)) ≡ page_by c.levels st g right n h
    go (host.Found p v) e = found (not st || v) p v c.levels
    go (host.Absent k) e = let z : n + (k + 0) ≡ n + k = omega arith in rw (e, z)
    go host.Damaged e = rw e

    whole : Walk Fault Place
    whole = hosted g >>= last

    first : (b : Bool)
        → walked_by c ht m (trace w (must b (Protected 1) >> whole)).result (n + (trace w (must b (Protected 1) >> whole)).count)
        ≡ cond b (page_by c.levels st g right n (host_walk_of c ht m g)) (walked.Faulted (Protected 1) n)
    first true = go (host_walk_of c ht m g) refl
    first false = let z : n + 0 ≡ n = omega arith in ap (walked.Faulted (Protected 1)) z

-- into a large page, and on wherever a level leads
abbrev pub on_by : Config → ℕ → List ℕ → ℕ → Bool → ℕ → Bool → Lead → Walked
on_by c ht m n st level right (to g) = walked_of c ht m n (next st (eqb level 1) g right)
on_by c ht m n st level right (into g) = into_of c st level g right n

pub on_step : (c : Config) (ht : ℕ) (m : List ℕ) (n : ℕ) (st : Bool) (level : ℕ) (x : Lead) (right : Bool)
    → walked_of c ht m n (onward c st level x right) ≡ on_by c ht m n st level right x
unfolding walked_of onward into_of trace
on_step c ht m n st level (to g) right = refl
on_step c ht m n st level (into g) right = go (not st || right)
  where
    w : World
    w = memory_world c ht m

    end : Walk Fault Place
    end = done (span c g, right)

    z : n + 0 ≡ n
    z = omega arith

    go : (b : Bool)
        → walked_by c ht m (trace w (must b (Protected level) >> end)).result (n + (trace w (must b (Protected level) >> end)).count)
        ≡ cond b (walked.Arrived right (page (span c g)) n) (walked.Faulted (Protected level) n)
    go true = ap (walked.Arrived right (page (span c g))) z
    go false = ap (walked.Faulted (Protected level)) z

-- one level, by the entry e that it reads
abbrev pub turn_by : Config → ℕ → List ℕ → ℕ → Bool → ℕ → Bool → ℕ → Walked
turn_by c ht m n st level right e =
    cond (present e)
    (cond (malformed c level e) (walked.Faulted (Malformed level) (n + 1)) (walked_of c ht m (n + 1) (onward c st level (entry_lead level e) (right && writable e))))
    (walked.Faulted (Absent level) (n + 1))

pub turn_step : (c : Config) (ht : ℕ) (m : List ℕ) (n : ℕ) (st : Bool) (level t i : ℕ) (right : Bool)
    → walked_of c ht m n (turn c st level t i right)
    ≡ cond (is_span c t) (walked_of c ht m n (onward c st level (span_lead c level t i) right)) (turn_by c ht m n st level right (word_in m t i))
unfolding walked_of turn entry trace memory_world
turn_step c ht m n st level t i right = by (is_span c t)
  where
    w : World
    w = memory_world c ht m

    e : ℕ
    e = word_in m t i

    on : ℕ → Walk Fault Place
    on x = onward c st level (entry_lead level x) (right && writable x)

    named : Walk Fault ℕ
    named = done e

    rest : Bool → Bool → Trace Fault Place
    rest p b = trace w (must p (Absent level) >> (must (not b) (Malformed level) >> named) >>= on)

    go : (p b : Bool)
        → walked_by c ht m (rest p b).result (n + (1 + (rest p b).count))
        ≡ cond p (cond b (walked.Faulted (Malformed level) (n + 1)) (walked_by c ht m (trace w (on e)).result (n + 1 + (trace w (on e)).count))) (walked.Faulted (Absent level) (n + 1))
    go true false = let z : n + (1 + (trace w (on e)).count) ≡ n + 1 + (trace w (on e)).count = omega arith in ap (walked_by c ht m (trace w (on e)).result) z
    go true true = let z : n + (1 + 0) ≡ n + 1 = omega arith in ap (walked.Faulted (Malformed level)) z
    go false b = let z : n + (1 + 0) ≡ n + 1 = omega arith in ap (walked.Faulted (Absent level)) z

    inside : Walk Fault Place
    inside = onward c st level (span_lead c level t i) right

    step : Bool → Trace Fault Place
    step b = trace w (cond b inside (entry c level t i >>= on))

    by : (b : Bool)
        → walked_by c ht m (step b).result (n + (step b).count)
        ≡ cond b (walked_by c ht m (trace w inside).result (n + (trace w inside).count)) (turn_by c ht m n st level right e)
    by true = refl
    by false = go (present e) (malformed c level e)

-- where a large page begins, if the entry is not malformed: above level 3 it has not bit 7
pub large_well : (c : Config) (level e : ℕ) → malformed c level e ≡ false → large level e ≡ (ltb 1 level && bit_set 7 e)
unfolding malformed large
large_well c level e well = ap (λ y. ltb 1 level && y) (go (ltb 3 level) refl well)
  where
    high : Bool
    high = not (eqb (e / 2 ^ (12 + frame_bits c) % 2 ^ (40 - frame_bits c)) 0)

    odd : Bool
    odd = large level e && not (eqb (frame_of e % frames_below level) 0)

    b : Bool
    b = bit_set 7 e

    clear : (h b x : Bool) → (h || (b || x)) ≡ false → false ≡ b
    clear h false x q = refl
    clear true true x q = sym q
    clear false true x q = sym q

    go : (t : Bool) → ltb 3 level ≡ t → (high || ((t && b) || odd)) ≡ false → (ltb level 4 && b) ≡ b
    go true k q = ap (λ y. y && b) (le-ltb level 4 (omega (arith, ltb-true 3 level k))) ∙ clear high b odd q
    go false k q = ap (λ y. y && b) (lt-ltb level 4 (omega (arith, ltb-false 3 level k)))

-- on from where the level led
abbrev pub followed : Config → ℕ → List ℕ → Bool → ℕ → Led → Walked
followed c ht m st level (led.To right g n) = walked_of c ht m n (next st (eqb level 1) g.0 right)
followed c ht m st level (led.Into right g n) = into_of c st level g.0 right n
followed c ht m st level (led.Stopped x n) = walked.Faulted x n

pub turn_led : (c : Config) (ht : ℕ) (m : List ℕ) (n : ℕ) (st : Bool) (level t i : ℕ) (right : Bool)
    → walked_of c ht m n (turn c st level t i right) ≡ followed c ht m st level (led_of c m level t i right n)
unfolding led_of led_by_entry
turn_led c ht m n st level t i right = turn_step c ht m n st level t i right ∙ by (is_span c t)
  where
    e : ℕ
    e = word_in m t i

    on : (k : ℕ) (w : Bool) (x : Lead) → walked_of c ht m k (onward c st level x w) ≡ followed c ht m st level (led_by w k x)
    on k w (to g) = on_step c ht m k st level (to g) w
    on k w (into g) = on_step c ht m k st level (into g) w

    go : (p b : Bool)
        → cond p (cond b (walked.Faulted (Malformed level) (n + 1)) (walked_of c ht m (n + 1) (onward c st level (entry_lead level e) (right && writable e)))) (walked.Faulted (Absent level) (n + 1))
        ≡ followed c ht m st level (cond p (cond b (led.Stopped (Malformed level) (n + 1)) (led_by (right && writable e) (n + 1) (entry_lead level e))) (led.Stopped (Absent level) (n + 1)))
    go true true = refl
    go true false = on (n + 1) (right && writable e) (entry_lead level e)
    go false b = refl

    by : (b : Bool)
        → cond b (walked_of c ht m n (onward c st level (span_lead c level t i) right)) (turn_by c ht m n st level right e)
        ≡ followed c ht m st level (cond b (led_by right n (span_lead c level t i)) (led_by_entry c level right (n + 1) e))
    by true = on n right (span_lead c level t i)
    by false = go (present e) (malformed c level e)

-- ---- the loop: one turn, and the indexes that are left

pub levels_step : (c : Config) (ht : ℕ) (m : List ℕ) (n : ℕ) (st : Bool) (level t i : ℕ) (is : List ℕ) (right : Bool)
    → walked_of c ht m n (levels c st level t right (i ∷ is))
    ≡ then_walked (walked_of c ht m n (turn c st level t i right)) (λ u v k. walked_of c ht m k (levels c st (pred level) u v is))
unfolding levels
levels_step c ht m n st level t i is right = walked_then c ht m n (turn c st level t i right) (λ r. levels c st (pred level) r.0 r.1 is)

pub levels_end : (c : Config) (ht : ℕ) (m : List ℕ) (n : ℕ) (st : Bool) (level t : ℕ) (right : Bool)
    → walked_of c ht m n (levels c st level t right []) ≡ walked.Arrived right (page t) n
unfolding levels
levels_end c ht m n st level t right = walked_done c ht m n t right

pub walk_step : (c : Config) (ht : ℕ) (m : List ℕ) (n : ℕ) (st : Bool) (root : ℕ) (is : List ℕ)
    → walked_of c ht m n (walk c st root is) ≡ then_walked (walked_of c ht m n (next false false root true)) (λ u v k. walked_of c ht m k (levels c st c.levels u true is))
unfolding walk next
walk_step c ht m n st root is =
    ap (walked_of c ht m n) (sym (bind_assoc (hosted root) (λ r. done (r.0, true)) (λ r. levels c st c.levels r.0 true is)))
    ∙ walked_then c ht m n (hosted root >>= λ r. done (r.0, true)) (λ r. levels c st c.levels r.0 true is)

-- ---- where a turn comes to: a frame of the guest area, after one guest word and a host walk; a fault comes no later

abbrev pub TurnFits : Config → ℕ → Walked → Type 0
TurnFits c n (walked.Arrived w p k) = InGuestArea c p.0 × (k ≡ n + c.levels)
TurnFits c n (walked.Faulted x k) = k ≤ n + c.levels
TurnFits c n walked.Damaged = Unit {0}

pub table_fits : (c : Config) (ht : ℕ) (m : List ℕ) (n : ℕ) (st : Bool) (g : ℕ) (right : Bool) → TurnFits c n (walked_of c ht m n (next st false g right))
table_fits c ht m n st g right = rw (table_step c ht m n st g right) (go (host_walk_of c ht m g) (host_fits c ht m g))
  where
    go : (h : HostWalk) → HostFits c h → TurnFits c n (table_by c.levels g right n h)
    go (host.Found p w) f = (f, refl)
    go (host.Absent k) f = omega arith
    go host.Damaged f = tt

pub page_fits : (c : Config) (ht : ℕ) (m : List ℕ) (n : ℕ) (st : Bool) (g : ℕ) (right : Bool) → TurnFits c n (walked_of c ht m n (next st true g right))
unfolding found_of
page_fits c ht m n st g right = rw (page_step c ht m n st g right) (first (not st || right))
  where
    found : (b : Bool) (p : HostPhysical) (w : Bool) → InGuestArea c p.0
        → TurnFits c n (cond b (walked.Arrived (right && w) p (n + c.levels)) (walked.Faulted (HostReadOnly g) (n + c.levels)))
    found true p w f = (f, refl)
    found false p w f = omega arith

    go : (h : HostWalk) → HostFits c h → TurnFits c n (page_by c.levels st g right n h)
    go (host.Found p w) f = found (not st || w) p w f
    go (host.Absent k) f = omega arith
    go host.Damaged f = tt

    first : (b : Bool) → TurnFits c n (cond b (page_by c.levels st g right n (host_walk_of c ht m g)) (walked.Faulted (Protected 1) n))
    first true = go (host_walk_of c ht m g) (host_fits c ht m g)
    first false = omega arith

-- where any level leads: to such a frame, or, under P, to a span that is not far; what it reads is a guest word and a host walk at most
abbrev pub NearBy : Config → ℕ → ℕ → Type 0
NearBy c t u = (InGuestArea c u) ⊎ ((c.frames ≤ u) × ((u < c.frames + frame_limit) ⊎ (u < t + 35184372088832)))

pub span_from : (c : Config) (u : ℕ) → c.frames ≤ u → is_span c u ≡ true
unfolding is_span
span_from c u l = le-leb c.frames u l

abbrev pub StepFits : Config → Type 0 → ℕ → ℕ → Walked → Type 0
StepFits c P n t (walked.Arrived w p k) = (P → NearBy c t p.0) × (n ≤ k) × (k ≤ n + 1 + c.levels)
StepFits c P n t (walked.Faulted x k) = k ≤ n + 1 + c.levels
StepFits c P n t walked.Damaged = Unit {0}

-- a frame, in any case
framed : (c : Config) (P : Type 0) (n k t : ℕ) (x : Walked) → n ≤ k → k ≤ n + 1 → TurnFits c k x → StepFits c P n t x
framed c P n k t (walked.Arrived w p j) a b f = (λ _. inl f.0, omega (arith, a, f.1), omega (arith, b, f.1))
framed c P n k t (walked.Faulted x j) a b f = omega (arith, b, f)
framed c P n k t walked.Damaged a b f = tt

next_fits : (c : Config) (ht : ℕ) (m : List ℕ) (n : ℕ) (st last : Bool) (g : ℕ) (right : Bool) → TurnFits c n (walked_of c ht m n (next st last g right))
next_fits c ht m n st true g right = page_fits c ht m n st g right
next_fits c ht m n st false g right = table_fits c ht m n st g right

-- a lead that is not far
abbrev pub NearLead : Config → ℕ → Lead → Type 0
NearLead c t (to g) = Unit {0}
NearLead c t (into g) = (g < frame_limit) ⊎ (c.frames + g < t + 35184372088832)

-- so a few levels stay below 2^49
pub near_room : (c : Config) (t u left k : ℕ) → c.frames ≤ 65536 → 0 < left → left ≤ k → t + 70368744177664 * left < 2199023255552 + 70368744177664 * k
    → NearBy c t u → u + 70368744177664 * (left - 1) < 2199023255552 + 70368744177664 * k
near_room c t u left k few pos l h (inl a) = omega (arith, few, pos, l, a.1)
near_room c t u left k few pos l h (inr (a, inl b)) = omega (arith, few, pos, l, b)
near_room c t u left k few pos l h (inr (a, inr b)) = omega (arith, few, pos, l, h, b)

-- one more part of a span reaches less than 2^45 on
pub part_most : (level i : ℕ) → level ≤ 5 → i < 512 → i * frames_below level < 35184372088832
unfolding frames_below
part_most level i l b =
    let most : 2 ^ (9 * pred level) ≤ 2 ^ 36 = pow_mono {i = 9 * pred level} {j = 36} (omega (arith, l)) in
    let m : i * 2 ^ (9 * pred level) ≤ 511 * 2 ^ 36 = mul-le-mul {n₁ = i} {n₂ = 511} (omega (arith, b)) most in
    omega (arith, m)

pub span_near : (c : Config) (level t i : ℕ) → level ≤ 5 → i < 512 → is_span c t ≡ true → NearLead c t (span_lead c level t i)
unfolding span_lead is_span first_frame
span_near c level t i l b s = go (eqb level 1)
  where
    go : (x : Bool) → let g = t - c.frames + i * frames_below level in NearLead c t (cond x (to g) (into g))
    go true = tt
    go false = inr (omega (arith, part_most level i l b, leb-true c.frames t s))

pub entry_near : (c : Config) (level t e : ℕ) → NearLead c t (entry_lead level e)
unfolding entry_lead
entry_near c level t e = go (large level e)
  where
    go : (b : Bool) → NearLead c t (cond b (into (frame_of e)) (to (frame_of e)))
    go true = inl (frame_fits_lem e)
    go false = tt

on_fits : (c : Config) (P : Type 0) (ht : ℕ) (m : List ℕ) (n k : ℕ) (st : Bool) (level t : ℕ) (x : Lead) (right : Bool) → n ≤ k → k ≤ n + 1 → (P → NearLead c t x)
    → StepFits c P n t (walked_of c ht m k (onward c st level x right))
unfolding span into_of
on_fits c P ht m n k st level t (to g) right a b l =
    rw (on_step c ht m k st level (to g) right) (framed c P n k t (walked_of c ht m k (next st (eqb level 1) g right)) a b (next_fits c ht m k st (eqb level 1) g right))
on_fits c P ht m n k st level t (into g) right a b l = rw (on_step c ht m k st level (into g) right) (into-fits (not st || right))
  where
    near : (g < frame_limit) ⊎ (c.frames + g < t + 35184372088832) → NearBy c t (c.frames + g)
    near (inl h) = inr (omega arith, inl (omega (arith, h)))
    near (inr h) = inr (omega arith, inr h)

    into-fits : (x : Bool) → StepFits c P n t (cond x (walked.Arrived right (page (c.frames + g)) k) (walked.Faulted (Protected level) k))
    into-fits true = (λ p. near (l p), a, omega (arith, b))
    into-fits false = omega (arith, b)

-- an index of a table of at most five levels
abbrev pub Few : ℕ → ℕ → Type 0
Few level i = (level ≤ 5) × (i < 512)

pub turn_fits : (c : Config) (ht : ℕ) (m : List ℕ) (n : ℕ) (st : Bool) (level t i : ℕ) (right : Bool) → StepFits c (Few level i) n t (walked_of c ht m n (turn c st level t i right))
turn_fits c ht m n st level t i right = rw (turn_step c ht m n st level t i right) (by (is_span c t) refl)
  where
    e : ℕ
    e = word_in m t i

    by : (b : Bool) → is_span c t ≡ b
        → StepFits c (Few level i) n t (cond b (walked_of c ht m n (onward c st level (span_lead c level t i) right)) (turn_by c ht m n st level right e))
    by true s = on_fits c (Few level i) ht m n n st level t (span_lead c level t i) right (omega arith) (omega arith) (λ f. span_near c level t i f.0 f.1 s)
    by false s = go (present e) (malformed c level e)
      where
        go : (p b : Bool)
            → StepFits c (Few level i) n t (cond p (cond b (walked.Faulted (Malformed level) (n + 1)) (walked_of c ht m (n + 1) (onward c st level (entry_lead level e) (right && writable e)))) (walked.Faulted (Absent level) (n + 1)))
        go true true = omega arith
        go true false = on_fits c (Few level i) ht m n (n + 1) st level t (entry_lead level e) (right && writable e) (omega arith) (omega arith) (λ f. entry_near c level t e)
        go false b = omega arith

-- where a level led: after at most one word, and to no part of a large page that begins beyond `span_room`
abbrev pub LedFits : ℕ → Led → Type 0
LedFits n (led.To right g k) = k ≤ n + 1
LedFits n (led.Into right g k) = (k ≤ n + 1) × (g.0 < span_room)
LedFits n (led.Stopped x k) = k ≤ n + 1

pub led_fits : (c : Config) (m : List ℕ) (n level t i : ℕ) (right : Bool) → level ≤ 5 → i < 512 → t < place_room → LedFits n (led_of c m level t i right n)
unfolding led_of led_by_entry span_lead first_frame entry_lead
led_fits c m n level t i right l b p = by (is_span c t)
  where
    e : ℕ
    e = word_in m t i

    w : Bool
    w = right && writable e

    inside : (x : Bool) → let g = t - c.frames + i * frames_below level in LedFits n (led_by right n (cond x (to g) (into g)))
    inside true = omega arith
    inside false = (omega arith, omega (arith, part_most level i l b, p))

    named : (x : Bool) → LedFits n (led_by w (n + 1) (cond x (into (frame_of e)) (to (frame_of e))))
    named true = (omega arith, omega (arith, frame_fits_lem e))
    named false = omega arith

    go : (p b : Bool)
        → LedFits n (cond p (cond b (led.Stopped (Malformed level) (n + 1)) (led_by w (n + 1) (entry_lead level e))) (led.Stopped (Absent level) (n + 1)))
    go true true = omega arith
    go true false = named (large level e)
    go false b = omega arith

    by : (x : Bool) → LedFits n (cond x (led_by right n (span_lead c level t i)) (led_by_entry c level right (n + 1) e))
    by true = inside (eqb level 1)
    by false = go (present e) (malformed c level e)

-- the loop's end, with no index left
pub loop_end : (c : Config) (ht : ℕ) (m : List ℕ) (n : ℕ) (st : Bool) (below k t path : ℕ) (right : Bool) → k ≡ 0
    → walked_of c ht m n (levels c st (below + k) t right (indexes k path)) ≡ walked.Arrived right (page t) n
unfolding indexes
loop_end c ht m n st below k t path right z =
    ap (λ j. walked_of c ht m n (levels c st (below + j) t right (indexes j path))) z ∙ levels_end c ht m n st (below + 0) t right
