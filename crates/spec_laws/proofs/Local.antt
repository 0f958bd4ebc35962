-- A walk depends only on the words that it read and the mappings that it used.
-- Assumes nothing.
use mathlib.Core.Path.{◌≡◌, refl, ap, ◌∙◌}
use Prim.Native.Nat.{ℕ}
use mathlib.Core.List.{List, ◌∷◌}
use Rattle.spec.specs.Walk.{Walk, done, fail, host, word, World, Trace, Result, trace}
use Rattle.spec.specs.Prefix.{All}

abbrev pub SameMapping : World → World → ℕ → Type 0
SameMapping w v g = v.host_at g ≡ w.host_at g

abbrev pub SameHost : World → World → ℕ → Type 0
SameHost w v g = SameMapping w v g × (v.host_cost g ≡ w.host_cost g)

abbrev pub SameWord : World → World → ℕ × ℕ → Type 0
SameWord w v x = v.word_at x.0 x.1 ≡ w.word_at x.0 x.1

-- v answers as w what a walk with the trace r asked
pub record Alike (w v : World) {X A : Type 0} (r : Trace X A) : Type 0 where
  pub hosts : All (SameHost w v) r.uses
  pub words : All (SameWord w v) r.reads

pub local : {X A : Type 0} (w v : World) (p : Walk X A) → Alike w v (trace w p) → trace v p ≡ trace w p
unfolding trace
local w v (done a) h = refl
local w v (fail x) h = refl
local w v (host g k) h =
    rw (h.hosts.0.0, h.hosts.0.1, local w v (k (w.host_at g)) (record { hosts = h.hosts.1; words = h.words }))
local w v (word t i k) h = rw (h.words.0, local w v (k (w.word_at t i)) (record { hosts = h.hosts; words = h.words.1 }))

-- ---- the same without the count: what a held path rests on. A mapping of another frame changes the cost of a frame that
-- is not mapped, and drops nothing
pub record Seen (X A : Type 0) : Type 0 where
  pub result : Result X A
  pub reads : List (ℕ × ℕ)
  pub uses : List ℕ

unfoldable pub seen : {X A : Type 0} → World → Walk X A → Seen X A
seen w p = record { result = (trace w p).result; reads = (trace w p).reads; uses = (trace w p).uses }

pub local_seen : {X A : Type 0} (w v : World) (p : Walk X A)
    → All (SameMapping w v) (seen w p).uses → All (SameWord w v) (seen w p).reads → seen v p ≡ seen w p
unfolding seen trace
local_seen w v (done a) h k = refl
local_seen w v (fail x) h k = refl
local_seen w v (host g q) h k =
    ap (λ x. record { result = (trace v (q x)).result; reads = (trace v (q x)).reads; uses = g ∷ (trace v (q x)).uses }) h.0
    ∙ ap (λ (s : Seen _ _). record { result = s.result; reads = s.reads; uses = g ∷ s.uses }) (local_seen w v (q (w.host_at g)) h.1 k)
local_seen w v (word t i q) h k =
    ap (λ x. record { result = (trace v (q x)).result; reads = (t, i) ∷ (trace v (q x)).reads; uses = (trace v (q x)).uses }) k.0
    ∙ ap (λ (s : Seen _ _). record { result = s.result; reads = (t, i) ∷ s.reads; uses = s.uses }) (local_seen w v (q (w.word_at t i)) h k.1)
