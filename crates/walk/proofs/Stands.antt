-- Where the host tables stand for the machine's mapping, a walk over memory is the machine's walk: result, fault, count, words
-- read, mappings used.
use mathlib.Core.Path.{◌≡◌, refl, sym, ap, ◌∙◌}
use Prim.Native.Nat.{ℕ, ◌+◌, ◌*◌, ◌^◌, ◌<◌, ◌≤◌}
use native.Mathlib.Nat.{zero-add}
use native.Mathlib.Omega.{arith}
use mathlib.Core.Bool.{Bool}
use mathlib.Core.List.{List}
use mathlib.Core.Option.{Option, none, some}
use lib.ListN.{get_or, drop}
use lib.Seq.{get_or-drop}
use Rattle.spec.specs.declared.Fault.{Fault}
use Rattle.spec.specs.declared.Fault.TheVariants.{Absent, Malformed, Protected, HostAbsent, HostReadOnly}
use Rattle.spec.specs.Config.{Config, guest_base, frame_bits}
use Rattle.spec.specs.Walk.{Walk, Trace, Result, granted, failed, trace}
use Rattle.spec.specs.Plain.{Place, levels, walk}
use Rattle.spec.specs.Machine.{Machine, lookup, host_cost, cost_of, place, word_in, world}
use Rattle.spec.specs.Prefix.{All}
use Rattle.spec_laws.proofs.Lists.{all_map}
use Rattle.spec_laws.proofs.Local.{SameHost, SameWord, local}
use Rattle.spec_laws.proofs.Asks.{Asked, asks_trace, AnswerIn, FaultFits, Guest, placed_frame, levels_asks, walk_asks}
use Rattle.words.specs.Words as words
use Rattle.layout.specs.Layout.{page}
use Rattle.host.specs.Walk.{host_walk_of}
use Rattle.host.proofs.Mapping.{answer_by, answer_of}
use Rattle.walk.specs.declared.Walked.{Walked}
use Rattle.walk.specs.declared.Walked.TheVariants as walked
use Rattle.walk.specs.Memory.{place_of, reads_of, memory_world, absent_by, walked_by, walked_of}
use Rattle.spec_laws.proofs.Keeps.{InGuestArea, area_real}

-- a result of the specification's walk with its count, as the code has it
abbrev pub plain_walked : Result Fault Place → ℕ → Walked
plain_walked (granted r) n = walked.Arrived r.1 (page r.0) n
plain_walked (failed x) n = walked.Faulted x n

-- the lent memory stands for the machine: its host tables for the mapping, its guest area for the guest area
pub record Stands (c : Config) (s : Machine) (ht : ℕ) (m : List ℕ) : Type 0 where
  pub tables : (g : ℕ) → g < 2 ^ frame_bits c → host_walk_of c ht m g ≡ answer_of c s.mappings g
  pub inside : (g : ℕ) → AnswerIn (InGuestArea c) (lookup g s.mappings)
  pub area : drop (512 * guest_base c) m ≡ s.area

module _ (c : Config) (s : Machine) (ht : ℕ) (m : List ℕ) (st : Stands c s ht m) where
  -- what memory answers of a guest frame
  pub same_host : (g : ℕ) → g < 2 ^ frame_bits c → SameHost (world c s) (memory_world c ht m) g
  unfolding world memory_world host_cost
  same_host g b = rw (st.tables g b) (go (lookup g s.mappings))
    where
      go : (r : Option Place)
          → (place_of (answer_by (cost_of c s.mappings g r) r) ≡ r) × (reads_of c (answer_by (cost_of c s.mappings g r) r) ≡ cost_of c s.mappings g r)
      go none = (refl, refl)
      go (some r) = (refl, refl)

  -- and of a word of the guest area
  pub same_word : (t i : ℕ) → InGuestArea c t → words.word_in m t i ≡ word_in c s t i
  same_word t i b =
      let at : 512 * guest_base c + place c t i ≡ t * 512 + i = omega (arith, b.0) in
      sym (ap (λ k. get_or m k 0) at) ∙ sym (get_or-drop (512 * guest_base c) m (place c t i) 0) ∙ ap (λ xs. get_or xs (place c t i) 0) st.area

  pub asked : {A : Type 0} (p : Walk Fault A) (R : A → Type 0) → Guest c (InGuestArea c) (area_real c) p R
      → Asked (AnswerIn (InGuestArea c)) (λ g. g < 2 ^ frame_bits c) (λ t i. InGuestArea c t × (i < 512)) (FaultFits c) R (trace (world c s) p)
  unfolding world
  asked p R a =
      asks_trace (AnswerIn (InGuestArea c)) (λ g. g < 2 ^ frame_bits c) (λ t i. InGuestArea c t × (i < 512)) (FaultFits c) (world c s) p R st.inside a

  -- a walk that asks for guest frame numbers and for words of the guest area has one trace
  pub stands_trace : {A : Type 0} (p : Walk Fault A) (R : A → Type 0) → Guest c (InGuestArea c) (area_real c) p R → trace (memory_world c ht m) p ≡ trace (world c s) p
  unfolding world memory_world
  stands_trace p R a =
      let q = asked p R a in
      local (world c s) (memory_world c ht m) p (record {
        hosts = all_map (λ g. g < 2 ^ frame_bits c) (SameHost (world c s) (memory_world c ht m)) (trace (world c s) p).uses same_host q.uses;
        words = all_map (λ x. InGuestArea c x.0 × (x.1 < 512)) (SameWord (world c s) (memory_world c ht m)) (trace (world c s) p).reads
            (λ x b. same_word x.0 x.1 b.0) q.reads;
      })

  -- what the code answers: the machine's result with the words read, and never damage
  pub stands_walked : (n : ℕ) (p : Walk Fault Place) (R : Place → Type 0) → Guest c (InGuestArea c) (area_real c) p R
      → walked_of c ht m n p ≡ plain_walked (trace (world c s) p).result (n + (trace (world c s) p).count)
  unfolding walked_of
  stands_walked n p R a =
      ap (λ (t : Trace Fault Place). walked_by c ht m t.result (n + t.count)) (stands_trace p R a)
      ∙ go (trace (world c s) p).result (n + (trace (world c s) p).count) (asked p R a).fails
    where
      at : (g k n : ℕ) (r : Option Place) → absent_by (answer_by k r) (walked.Faulted (HostAbsent g) n) ≡ walked.Faulted (HostAbsent g) n
      at g k n none = refl
      at g k n (some r) = refl

      go : (x : Result Fault Place) (k : ℕ) → ((y : Fault) → x ≡ failed y → FaultFits c y) → walked_by c ht m x k ≡ plain_walked x k
      go (granted r) k f = refl
      go (failed (Absent l)) k f = refl
      go (failed (Malformed l)) k f = refl
      go (failed (Protected l)) k f = refl
      go (failed (HostAbsent g)) k f =
          ap (λ h. absent_by h (walked.Faulted (HostAbsent g) k)) (st.tables g (f (HostAbsent g) refl))
          ∙ at g (host_cost c s.mappings g) k (lookup g s.mappings)
      go (failed (HostReadOnly g)) k f = refl

  -- the plain walk and its upper part, from the root
  pub root_walked : (store : Bool) (root : ℕ) (is : List ℕ) → root < 2 ^ frame_bits c → All (λ i. i < 512) is
      → walked_of c ht m 0 (walk c store root is) ≡ plain_walked (trace (world c s) (walk c store root is)).result (trace (world c s) (walk c store root is)).count
  root_walked store root is b small =
      stands_walked 0 (walk c store root is) _ (walk_asks c (InGuestArea c) (area_real c) store root is b small)
      ∙ ap (plain_walked (trace (world c s) (walk c store root is)).result) (zero-add (trace (world c s) (walk c store root is)).count)

  -- its lower part, from a guest table in the guest area, after n words
  pub table_walked : (n : ℕ) (store : Bool) (level t : ℕ) (right : Bool) (is : List ℕ) → level ≤ c.levels → InGuestArea c t → All (λ i. i < 512) is
      → walked_of c ht m n (levels c store level t right is)
      ≡ plain_walked (trace (world c s) (levels c store level t right is)).result (n + (trace (world c s) (levels c store level t right is)).count)
  table_walked n store level t right is l b small =
      stands_walked n (levels c store level t right is) _
      (levels_asks c (InGuestArea c) (area_real c) store level t right is l (placed_frame c (InGuestArea c) (area_real c) level t b) small)
