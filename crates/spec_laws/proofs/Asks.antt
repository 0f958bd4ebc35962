-- What a walk may ask, whatever it is answered: which guest frames, and which words.
-- Assumes nothing.
use mathlib.Core.Path.{◌≡◌, refl, sym, ap, ◌∙◌, subst}
use Prim.Native.Nat.{ℕ, zero, suc, pred, ◌+◌, ◌-◌, ◌*◌, ◌/◌, ◌%◌, ◌^◌, ◌<◌, ◌≤◌}
use native.Mathlib.Nat.{zero-mul, mod-lt, mul-le-mul_right, suc-mul}
use native.Mathlib.Omega.{arith}
use mathlib.Core.Bool.{Bool, true, false, not, ◌&&◌, ◌||◌, cond, false≢true}
use mathlib.Core.List.{List, [], ◌∷◌}
use mathlib.Core.Option.{Option, none, some}
use borrow.Author.Tests.{eqb-true, ltb-true, le-leb, ne_eqb, not-true, not-false}
use lib.Dec.{eqb, ltb}
use lib.Pow.{pow_pos, pow-add, shr_lt, shr-shr, field, split}
use Rattle.spec.specs.declared.Fault.{Fault}
use Rattle.spec.specs.declared.Fault.TheVariants.{Absent, Malformed, Protected, HostAbsent, HostReadOnly}
use Rattle.spec.specs.Config.{Config, frame_bits}
use Rattle.spec.specs.Entry.{bit_set, present, writable, frame_of, large, frames_below, malformed}
use Rattle.spec.specs.Walk.{Walk, done, fail, host, word, ◌>>=◌, ◌>>◌, World, Trace, granted, failed, trace}
use Rattle.spec.specs.Plain.{Place, Lead, to, into, span, is_span, first_frame, must, mapped, hosted, entry, next, entry_lead, span_lead, onward, turn, levels, walk}
use Rattle.spec.specs.Prefix.{All}
use Rattle.spec_laws.proofs.Lists.{and_first, and_second, or_first, or_second}
use Rattle.spec_laws.proofs.Granted.{no_grant, granted_is, failed_is}
use Rattle.spec_laws.proofs.Parts.{lower}

-- Q is known of each host answer; G is owed of each guest frame asked for, P of each word asked for, E of each fault, R of the result
module _ (Q : Option Place → Type 0) (G : ℕ → Type 0) (P : ℕ → ℕ → Type 0) (E : Fault → Type 0) where
  abbrev pub Asks : {A : Type 0} → Walk Fault A → (A → Type 0) → Type 0
  Asks (done a) R = R a
  Asks (fail x) R = E x
  Asks (host g k) R = G g × ((h : Option Place) → Q h → Asks (k h) R)
  Asks (word t i k) R = P t i × ((e : ℕ) → Asks (k e) R)

  pub asks_bind : {A B : Type 0} (p : Walk Fault A) (f : A → Walk Fault B) (R : B → Type 0) → Asks p (λ a. Asks (f a) R) → Asks (p >>= f) R
  asks_bind (done a) f R h = h
  asks_bind (fail x) f R h = h
  asks_bind (host g k) f R h = (h.0, λ x q. asks_bind (k x) f R (h.1 x q))
  asks_bind (word t i k) f R h = (h.0, λ e. asks_bind (k e) f R (h.1 e))

  pub asks_map : {A : Type 0} (p : Walk Fault A) (R S : A → Type 0) → ((a : A) → R a → S a) → Asks p R → Asks p S
  asks_map (done a) R S m h = m a h
  asks_map (fail x) R S m h = h
  asks_map (host g k) R S m h = (h.0, λ x q. asks_map (k x) R S m (h.1 x q))
  asks_map (word t i k) R S m h = (h.0, λ e. asks_map (k e) R S m (h.1 e))

  -- what a trace then shows
  pub record Asked {A : Type 0} (R : A → Type 0) (r : Trace Fault A) : Type 0 where
    pub uses : All G r.uses
    pub reads : All (λ x. P x.0 x.1) r.reads
    pub grants : (a : A) → r.result ≡ granted a → R a
    pub fails : (x : Fault) → r.result ≡ failed x → E x

  pub asks_trace : {A : Type 0} (w : World) (p : Walk Fault A) (R : A → Type 0) → ((g : ℕ) → Q (w.host_at g)) → Asks p R → Asked R (trace w p)
  unfolding trace
  asks_trace w (done a) R q h =
      record { uses = tt; reads = tt; grants = λ b e. subst R (granted_is a b e) h; fails = λ x e. absurd (no_grant (sym e)) }
  asks_trace w (fail x) R q h =
      record { uses = tt; reads = tt; grants = λ b e. absurd (no_grant e); fails = λ y e. subst E (failed_is x y e) h }
  asks_trace w (host g k) R q h =
      let ih = asks_trace w (k (w.host_at g)) R q (h.1 (w.host_at g) (q g)) in
      record { uses = (h.0, ih.uses); reads = ih.reads; grants = ih.grants; fails = ih.fails }
  asks_trace w (word t i k) R q h =
      let ih = asks_trace w (k (w.word_at t i)) R q (h.1 (w.word_at t i)) in
      record { uses = ih.uses; reads = (h.0, ih.reads); grants = ih.grants; fails = ih.fails }

-- a host answer names a frame that has F
abbrev pub AnswerIn : (ℕ → Type 0) → Option Place → Type 0
AnswerIn F none = Unit {0}
AnswerIn F (some r) = F r.0

-- the frame of an entry that is not malformed is a guest frame number
pub frame_bound : (c : Config) (level e : ℕ) → malformed c level e ≡ false → frame_of e < 2 ^ frame_bits c
unfolding malformed frame_of
frame_bound c level e h =
    let b = frame_bits c in
    let high = or_first (not (eqb (e / 2 ^ (12 + b) % 2 ^ (40 - b)) 0)) _ h in
    let none : e / 2 ^ (12 + b) % 2 ^ (40 - b) ≡ 0 = eqb-true _ 0 (not-false (eqb (e / 2 ^ (12 + b) % 2 ^ (40 - b)) 0) high) in
    let width : 40 - b + b ≡ 40 = omega arith in
    let x : e / 4096 % 2 ^ 40 / 2 ^ b ≡ 0 = rw width at (field (e / 4096) (40 - b) b) ∙ ap (λ (n : ℕ). n % 2 ^ (40 - b)) (shr-shr e 12 b) ∙ none in
    no-high (e / 4096 % 2 ^ 40) b x
  where
    no-high : (a k : ℕ) → a / 2 ^ k ≡ 0 → a < 2 ^ k
    no-high a k z =
        let zero : a / 2 ^ k * 2 ^ k ≡ 0 = ap (λ (n : ℕ). n * 2 ^ k) z ∙ zero-mul (2 ^ k) in
        omega (arith, split a k, mod-lt a (pow_pos k))

-- and those below a large page's entry are too
pub large_bound : (c : Config) (level e : ℕ) → level ≤ c.levels → malformed c level e ≡ false → large level e ≡ true → frame_of e + frames_below level ≤ 2 ^ frame_bits c
unfolding malformed large frames_below
large_bound c level e l h k =
    let m = or_second (not (eqb (e / 2 ^ (12 + frame_bits c) % 2 ^ (40 - frame_bits c)) 0)) _ h in
    let n : not (eqb (frame_of e % 2 ^ (9 * pred level)) 0) ≡ false =
    ap (λ x. x && not (eqb (frame_of e % 2 ^ (9 * pred level)) 0)) (sym k) ∙ or_second (ltb 3 level && bit_set 7 e) _ m in
    let z : frame_of e % 2 ^ (9 * pred level) ≡ 0 = eqb-true _ 0 (not-false (eqb (frame_of e % 2 ^ (9 * pred level)) 0) n) in
    let low : level < 4 = ltb-true level 4 (and_first (ltb level 4) (bit_set 7 e) (and_second (ltb 1 level) _ k)) in
    let fits : 9 * pred level ≤ frame_bits c = omega (arith, l, low) in
    aligned (frame_of e) (9 * pred level) (frame_bits c) fits z (frame_bound c level e h)
  where
    aligned : (f k b : ℕ) → k ≤ b → f % 2 ^ k ≡ 0 → f < 2 ^ b → f + 2 ^ k ≤ 2 ^ b
    aligned f k b s z o =
        let j : b - k + k ≡ b = omega (arith, s) in
        let q : f / 2 ^ k < 2 ^ (b - k) = shr_lt (b - k) k (subst (λ (x : ℕ). f < 2 ^ x) (sym j) o) in
        let y : suc (f / 2 ^ k) * 2 ^ k ≤ 2 ^ (b - k) * 2 ^ k = mul-le-mul_right (2 ^ k) q in
        let u : 2 ^ (b - k) * 2 ^ k ≡ 2 ^ b = sym (pow-add 2 (b - k) k) ∙ ap (λ (x : ℕ). 2 ^ x) j in
        omega (arith, split f k, z, y, u, suc-mul (f / 2 ^ k) (2 ^ k))

-- the frame that a fault carries is a guest frame number
abbrev pub FaultFits : Config → Fault → Type 0
FaultFits c (Absent n) = Unit {0}
FaultFits c (Malformed n) = Unit {0}
FaultFits c (Protected n) = Unit {0}
FaultFits c (HostAbsent g) = g < 2 ^ frame_bits c
FaultFits c (HostReadOnly g) = g < 2 ^ frame_bits c

-- every walk of guest tables asks for guest frame numbers, and for words of frames that have F, which are no spans
module _ (c : Config) (F : ℕ → Type 0) (real : (t : ℕ) → F t → is_span c t ≡ false) where
  abbrev pub Guest : {A : Type 0} → Walk Fault A → (A → Type 0) → Type 0
  Guest p R = Asks (AnswerIn F) (λ g. g < 2 ^ frame_bits c) (λ t i. F t × (i < 512)) (FaultFits c) p R

  -- a span at that level has guest frames only; there is none past level 1
  abbrev Spans : ℕ → ℕ → Type 0
  Spans zero g = ⊥
  Spans (suc n) g = g + 2 ^ (9 * suc n) ≤ 2 ^ frame_bits c

  -- what a place at that level is
  pub record Placed (n t : ℕ) : Type 0 where
    pub frame : is_span c t ≡ false → F t
    pub spans : is_span c t ≡ true → Spans n (first_frame c t)

  pub placed_frame : (n t : ℕ) → F t → Placed n t
  placed_frame n t f = record { frame = λ _. f; spans = λ h. absurd (false≢true (sym (real t f) ∙ h)) }

  pub placed_page : (t : ℕ) → Placed 0 t → F t
  placed_page t p = go (is_span c t) refl
    where
      go : (b : Bool) → is_span c t ≡ b → F t
      go true e = absurd (p.spans e)
      go false e = p.frame e

  placed_span : (n g : ℕ) → Spans n g → Placed n (span c g)
  unfolding is_span span first_frame
  placed_span n g h = record {
    frame = λ e. absurd (false≢true (sym e ∙ le-leb c.frames (c.frames + g) (omega arith)));
    spans = λ _. subst (Spans n) (omega arith) h;
  }

  must_asks : (b : Bool) (x : Fault) {B : Type 0} (f : Walk Fault B) (R : B → Type 0) → FaultFits c x → (b ≡ true → Guest f R) → Guest (must b x >> f) R
  must_asks true x f R e h = h refl
  must_asks false x f R e h = e

  pub hosted_asks : (g : ℕ) (R : Place → Type 0) → g < 2 ^ frame_bits c → ((r : Place) → F r.0 → R r) → Guest (hosted g) R
  unfolding hosted
  hosted_asks g R b h = (b, go)
    where
      go : (x : Option Place) → AnswerIn F x → Guest (mapped g x) R
      go none q = b
      go (some r) q = h r q

  entry_asks : (n t i : ℕ) (R : ℕ → Type 0) → F t → i < 512 → ((e : ℕ) → malformed c n e ≡ false → R e) → Guest (entry c n t i) R
  unfolding entry
  entry_asks n t i R f b h =
      ((f, b), λ e. must_asks (present e) (Absent n) _ R tt (λ _. must_asks (not (malformed c n e)) (Malformed n) _ R tt (λ k. h e (not-true (malformed c n e) k))))

  next_asks : (st last : Bool) (g : ℕ) (v : Bool) → g < 2 ^ frame_bits c → Guest (next st last g v) (λ r. F r.0)
  unfolding next
  next_asks st false g v b = asks_bind _ _ _ _ (hosted g) _ _ (hosted_asks g _ b (λ r f. f))
  next_asks st true g v b =
      must_asks (not st || v) (Protected 1) _ _ tt (λ _. asks_bind _ _ _ _ (hosted g) _ _ (hosted_asks g _ b (λ r f. must_asks (not st || r.1) (HostReadOnly g) (done (r.0, (v && r.1))) _ b (λ _. f))))

  -- a lead from level n: to a guest frame, or into a span that fits there
  abbrev Leads : ℕ → Lead → Type 0
  Leads n (to g) = g < 2 ^ frame_bits c
  Leads n (into g) = Spans (pred n) g

  onward_asks : (st : Bool) (n : ℕ) (x : Lead) (v : Bool) → Leads n x → Guest (onward c st n x v) (λ r. Placed (pred n) r.0)
  unfolding onward
  onward_asks st n (to g) v b = asks_map _ _ _ _ (next st (eqb n 1) g v) _ _ (λ r f. placed_frame (pred n) r.0 f) (next_asks st (eqb n 1) g v b)
  onward_asks st n (into g) v b = must_asks (not st || v) (Protected n) _ _ tt (λ _. placed_span (pred n) g b)

  entry_leads : (n e : ℕ) → n ≤ c.levels → malformed c n e ≡ false → Leads n (entry_lead n e)
  unfolding entry_lead frames_below large
  entry_leads n e l h = go (large n e) refl
    where
      inner : (n : ℕ) → n ≤ c.levels → malformed c n e ≡ false → large n e ≡ true → Spans (pred n) (frame_of e)
      inner zero l h k = absurd (false≢true k)
      inner (suc zero) l h k = absurd (false≢true k)
      inner (suc (suc n)) l h k = large_bound c (suc (suc n)) e l h k

      go : (b : Bool) → large n e ≡ b → Leads n (cond b (into (frame_of e)) (to (frame_of e)))
      go true k = inner n l h k
      go false k = frame_bound c n e h

  span_leads : (n t i : ℕ) → i < 512 → Spans n (first_frame c t) → Leads n (span_lead c n t i)
  unfolding span_lead frames_below
  span_leads n t i b h = go n h
    where
      g : ℕ
      g = first_frame c t

      -- 512 parts, each 512 times as small
      part : (n : ℕ) → g + 2 ^ (9 * suc n) ≤ 2 ^ frame_bits c → g + i * 2 ^ (9 * n) + 2 ^ (9 * n) ≤ 2 ^ frame_bits c
      part n k =
          let s : 2 ^ (9 * suc n) ≡ 2 ^ (9 * n) * 512 = ap (λ (x : ℕ). 2 ^ x) (omega arith) ∙ pow-add 2 (9 * n) 9 in
          let m : suc i * 2 ^ (9 * n) ≤ 512 * 2 ^ (9 * n) = mul-le-mul_right (2 ^ (9 * n)) b in
          omega (arith, k, s, m, suc-mul i (2 ^ (9 * n)))

      go : (n : ℕ) → Spans n g → Leads n (let x : ℕ = g + i * 2 ^ (9 * pred n) in cond (eqb n 1) (to x) (into x))
      go zero k = absurd k
      go (suc zero) k = let p = part 0 k in omega (arith, p)
      go (suc (suc n)) k =
          let x : ℕ = g + i * 2 ^ (9 * suc n) in
          subst (λ b. Leads (suc (suc n)) (cond b (to x) (into x))) (sym (ne_eqb (suc (suc n)) 1 (omega arith))) (part (suc n) k)

  turn_asks : (st : Bool) (n t i : ℕ) (v : Bool) → n ≤ c.levels → Placed n t → i < 512 → Guest (turn c st n t i v) (λ r. Placed (pred n) r.0)
  unfolding turn
  turn_asks st n t i v l p b = go (is_span c t) refl
    where
      go : (x : Bool) → is_span c t ≡ x
          → Guest (cond x (onward c st n (span_lead c n t i) v) (entry c n t i >>= λ e. onward c st n (entry_lead n e) (v && writable e))) (λ r. Placed (pred n) r.0)
      go true e = onward_asks st n (span_lead c n t i) v (span_leads n t i b (p.spans e))
      go false e =
          asks_bind _ _ _ _ (entry c n t i) _ _ (entry_asks n t i _ (p.frame e) b (λ x h. onward_asks st n (entry_lead n x) (v && writable x) (entry_leads n x l h)))

  pub levels_asks : (st : Bool) (n t : ℕ) (v : Bool) (is : List ℕ) → n ≤ c.levels → Placed n t → All (λ i. i < 512) is
      → Guest (levels c st n t v is) (λ r. Placed (lower n is) r.0)
  unfolding levels
  levels_asks st n t v [] l p b = p
  levels_asks st n t v (i ∷ is) l p b =
      asks_bind _ _ _ _ (turn c st n t i v) _ _ (asks_map _ _ _ _ (turn c st n t i v) _ _
      (λ r q. levels_asks st (pred n) r.0 r.1 is (omega (arith, l)) q b.1) (turn_asks st n t i v l p b.0))

  pub walk_asks : (st : Bool) (root : ℕ) (is : List ℕ) → root < 2 ^ frame_bits c → All (λ i. i < 512) is
      → Guest (walk c st root is) (λ r. Placed (lower c.levels is) r.0)
  unfolding walk
  walk_asks st root is b s =
      asks_bind _ _ _ _ (hosted root) _ _
      (hosted_asks root _ b (λ r f. levels_asks st c.levels r.0 true is (omega arith) (placed_frame c.levels r.0 f) s))
