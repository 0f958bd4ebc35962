-- The law of ignored bits: words that agree but in bits 5 and 6 give every walk of guest tables the same trace.
-- Assumes nothing.
use mathlib.Core.Path.{◌≡◌, refl, sym, ap, ap₂, ◌∙◌}
use Prim.Native.Nat.{ℕ, pred}
use mathlib.Core.Bool.{Bool, true, false, not, ◌&&◌, ◌||◌, cond}
use mathlib.Core.List.{List, [], ◌∷◌}
use mathlib.Core.Option.{Option, none, some}
use lib.Dec.{eqb}
use Rattle.spec.specs.declared.Fault.{Fault}
use Rattle.spec.specs.declared.Fault.TheVariants.{Absent, Malformed, Protected, HostReadOnly}
use Rattle.spec.specs.Config.{Config}
use Rattle.spec.specs.Entry.{present, writable, frame_of, large, malformed}
use Rattle.spec.specs.Walk.{Walk, done, ◌>>=◌, ◌>>◌, World, trace}
use Rattle.spec.specs.Plain.{Place, Lead, to, into, span, is_span, must, mapped, hosted, entry, next, entry_lead, span_lead, onward, turn, levels, walk}
use Rattle.spec_laws.proofs.Bind.{and_then, more, trace_bind, bind_assoc}
use Rattle.spec_laws.proofs.EntryBits.{AlikeWord, present_alike, writable_alike, frame_alike, large_alike, malformed_alike}

-- v answers as w, but for bits 5 and 6 of words
pub record AlikeWorld (w v : World) : Type 0 where
  pub hosts : (g : ℕ) → v.host_at g ≡ w.host_at g
  pub costs : (g : ℕ) → v.host_cost g ≡ w.host_cost g
  pub words : (t i : ℕ) → AlikeWord (w.word_at t i) (v.word_at t i)

module _ (w v : World) (alike : AlikeWorld w v) where
  bind_alike : {X A B : Type 0} (p : Walk X A) (f : A → Walk X B) → trace v p ≡ trace w p → ((a : A) → trace v (f a) ≡ trace w (f a)) → trace v (p >>= f) ≡ trace w (p >>= f)
  bind_alike p f e k = trace_bind v p f ∙ (λ i. and_then (e i) (λ a. k a i)) ∙ sym (trace_bind w p f)

  must_alike : {B : Type 0} (b : Bool) (x : Fault) (q : Walk Fault B) → trace v q ≡ trace w q → trace v (must b x >> q) ≡ trace w (must b x >> q)
  unfolding trace
  must_alike true x q e = e
  must_alike false x q e = refl

  mapped_alike : (g : ℕ) (x : Option Place) → trace v (mapped g x) ≡ trace w (mapped g x)
  unfolding trace
  mapped_alike g none = refl
  mapped_alike g (some r) = refl

  hosted_alike : (g : ℕ) → trace v (hosted g) ≡ trace w (hosted g)
  unfolding hosted trace
  hosted_alike g =
      ap₂ (λ n x. more n [] (g ∷ []) (trace v (mapped g x))) (alike.costs g) (alike.hosts g)
      ∙ ap (more (w.host_cost g) [] (g ∷ [])) (mapped_alike g (w.host_at g))

  done_alike : {A : Type 0} (a : A) → trace {X = Fault} v (done a) ≡ trace w (done a)
  unfolding trace
  done_alike a = refl

  -- past the word of an entry the walk is the same
  next_alike : (st last : Bool) (g : ℕ) (u : Bool) → trace v (next st last g u) ≡ trace w (next st last g u)
  unfolding next
  next_alike st false g u = bind_alike (hosted g) (λ r. done (r.0, u)) (hosted_alike g) (λ r. done_alike (r.0, u))
  next_alike st true g u =
      must_alike (not st || u) (Protected 1) _ (bind_alike (hosted g) (λ r. must (not st || r.1) (HostReadOnly g) >> done (r.0, (u && r.1))) (hosted_alike g)
      (λ r. must_alike (not st || r.1) (HostReadOnly g) _ (done_alike (r.0, (u && r.1)))))

  onward_alike : (c : Config) (st : Bool) (n : ℕ) (x : Lead) (u : Bool) → trace v (onward c st n x u) ≡ trace w (onward c st n x u)
  unfolding onward
  onward_alike c st n (to g) u = next_alike st (eqb n 1) g u
  onward_alike c st n (into g) u = must_alike (not st || u) (Protected n) _ (done_alike (span c g, u))

  -- past the word of an entry the walk is the same
  entry_alike : (c : Config) (st : Bool) (n t i : ℕ) (u : Bool)
      → let p = entry c n t i >>= λ e. onward c st n (entry_lead n e) (u && writable e) in trace v p ≡ trace w p
  unfolding entry entry_lead trace
  entry_alike c st n t i u =
      ap (more 1 ((t, i) ∷ []) [])
      (ap (trace v) (flat (v.word_at t i) ∙ same (w.word_at t i) (v.word_at t i) (alike.words t i)) ∙ go (w.word_at t i) ∙ ap (trace w) (sym (flat (w.word_at t i))))
    where
      lead : Bool → ℕ → Lead
      lead b g = cond b (into g) (to g)

      rest : ℕ → Walk Fault Place
      rest e = must (present e) (Absent n) >> (must (not (malformed c n e)) (Malformed n) >> onward c st n (lead (large n e) (frame_of e)) (u && writable e))

      on : ℕ → Walk Fault Place
      on e = onward c st n (lead (large n e) (frame_of e)) (u && writable e)

      flat : (e : ℕ) → (must (present e) (Absent n) >> (must (not (malformed c n e)) (Malformed n) >> done e) >>= on) ≡ rest e
      flat e =
          bind_assoc (must (present e) (Absent n)) (λ _. must (not (malformed c n e)) (Malformed n) >> done e) on
          ∙ ap (λ p. must (present e) (Absent n) >> p) (bind_assoc (must (not (malformed c n e)) (Malformed n)) (λ _. done e) on)

      same : (e f : ℕ) → AlikeWord e f → rest f ≡ rest e
      same e f h =
          ap₂ (λ a b. must a (Absent n) >> (must (not b) (Malformed n) >> onward c st n (lead (large n f) (frame_of f)) (u && writable f))) (present_alike e f h) (malformed_alike c n e f h)
          ∙ ap₂ (λ g b. must (present e) (Absent n) >> (must (not (malformed c n e)) (Malformed n) >> onward c st n (lead (large n f) g) (u && b))) (frame_alike e f h) (writable_alike e f h)
          ∙ ap (λ x. must (present e) (Absent n) >> (must (not (malformed c n e)) (Malformed n) >> onward c st n (lead x (frame_of e)) (u && writable e))) (large_alike n e f h)

      go : (e : ℕ) → trace v (rest e) ≡ trace w (rest e)
      go e = must_alike (present e) (Absent n) _ (must_alike (not (malformed c n e)) (Malformed n) _ (onward_alike c st n (lead (large n e) (frame_of e)) (u && writable e)))

  turn_alike : (c : Config) (st : Bool) (n t i : ℕ) (u : Bool) → trace v (turn c st n t i u) ≡ trace w (turn c st n t i u)
  unfolding turn
  turn_alike c st n t i u = go (is_span c t)
    where
      by : Bool → Walk Fault Place
      by b = cond b (onward c st n (span_lead c n t i) u) (entry c n t i >>= λ e. onward c st n (entry_lead n e) (u && writable e))

      go : (b : Bool) → trace v (by b) ≡ trace w (by b)
      go true = onward_alike c st n (span_lead c n t i) u
      go false = entry_alike c st n t i u

  pub levels_alike : (c : Config) (st : Bool) (n t : ℕ) (u : Bool) (is : List ℕ) → trace v (levels c st n t u is) ≡ trace w (levels c st n t u is)
  unfolding levels
  levels_alike c st n t u [] = done_alike (t, u)
  levels_alike c st n t u (i ∷ is) = bind_alike (turn c st n t i u) _ (turn_alike c st n t i u) (λ r. levels_alike c st (pred n) r.0 r.1 is)

  -- so also shadow parts and direct parts
  pub walk_alike : (c : Config) (st : Bool) (root : ℕ) (is : List ℕ) → trace v (walk c st root is) ≡ trace w (walk c st root is)
  unfolding walk
  walk_alike c st root is =
      bind_alike (hosted root) (λ r. levels c st c.levels r.0 true is) (hosted_alike root) (λ r. levels_alike c st c.levels r.0 true is)
