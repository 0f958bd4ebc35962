-- Over runs: a load or a store that is granted reports as many table words read as the depth of its address asks for, the depth being
-- that of the book's marks then set. Document 01, "Counts".
-- Assumes nothing.
use mathlib.Core.Path.{◌≡◌, refl, ap, ◌∙◌, subst}
use Prim.Native.Nat.{ℕ, suc, ◌+◌, ◌-◌, ◌*◌, ◌≤◌}
use native.Mathlib.Omega.{arith}
use mathlib.Core.Bool.{Bool, true, false, cond}
use lib.Dec.{leb}
use borrow.Author.Tests.{leb-true, leb-false}
use mathlib.Core.List.{List}
use mathlib.Core.Option.{Option, none, some}
use lib.ListN.{length}
use Rattle.spec.specs.declared.Answer.{Answer}
use Rattle.spec.specs.declared.Answer.TheVariants as answer
use Rattle.spec.specs.Answer as say
use Rattle.spec.specs.Answer.{Line, line}
use Rattle.spec.specs.Config.{Config}
use Rattle.spec.specs.Call.{Call}
use Rattle.spec.specs.Count.{granted_reads}
use Rattle.spec.specs.Run.{State, after, opened}
use Rattle.walk.specs.declared.Walked.{Walked}
use Rattle.walk.specs.declared.Walked.TheVariants as walked
use Rattle.record.specs.declared.Record.{Record}
use Rattle.record.specs.Record.{config_of, config_by}
use Rattle.record.specs.Open.{refusal_of}
use Rattle.calls.specs.Calls.{call_of}
use Rattle.claims.specs.Run.{run_of}
use Rattle.claims.proofs.Invariant.{Inv}
use Rattle.claims.proofs.Demands.{Beside, after_run, run_config}
use Rattle.claims.specs.Plain.{Grants, GrantedWith, request_at, is_store, granted_line, reads_of, reads_on, plain_walk, AsWalked, Unrefused}
use Rattle.claims.proofs.Plain.{reads_on_lem, as_walked}
use Rattle.words.specs.After.{After}
use Rattle.calls.specs.declared.Reply.{Reply}

-- ---- by lines
abbrev line_reads : Line → ℕ
line_reads say.ok = 0
line_reads (say.value w n x) = n
line_reads (say.done n x) = n
line_reads (say.fault c l g n x) = 0
line_reads (say.no n) = 0
line_reads (say.figures n x t) = 0

-- ---- one request
abbrev GrantsLine : Line → Type 0
GrantsLine say.ok = ⊥
GrantsLine (say.value w n x) = Unit {0}
GrantsLine (say.done n x) = Unit {0}
GrantsLine (say.fault c l g n x) = ⊥
GrantsLine (say.no n) = ⊥
GrantsLine (say.figures n x t) = ⊥

grants_line : (x : Answer) → Grants x → GrantsLine (line x)
grants_line answer.Ok g = g
grants_line (answer.Value w n x) g = tt
grants_line (answer.Done n x) g = tt
grants_line (answer.Faulted y n x) g = absurd g
grants_line (answer.Refused n) g = g
grants_line (answer.Figures n x t) g = g

unrefused : (x : Answer) → Grants x → Unrefused x
unrefused answer.Ok g = tt
unrefused (answer.Value w n x) g = tt
unrefused (answer.Done n x) g = tt
unrefused (answer.Faulted y n x) g = tt
unrefused (answer.Refused n) g = g
unrefused (answer.Figures n x t) g = tt

granted_with : (x : Answer) (n : ℕ) → Grants x → line_reads (line x) ≡ n → GrantedWith n x
granted_with answer.Ok n g e = g
granted_with (answer.Value w k x) n g e = e
granted_with (answer.Done k x) n g e = e
granted_with (answer.Faulted y k x) n g e = g
granted_with (answer.Refused k) n g e = g
granted_with (answer.Figures k x t) n g e = g

reads_line : (a w : ℕ) (v : Option ℕ) (e n x : ℕ) → line_reads (granted_line a w v e n x) ≡ n
reads_line a w none e n x = refl
reads_line a w (some v) e n x = refl

module _ (s : State) (r : Record) (m : List ℕ) (inv : Inv s r m) (beside : Beside s r) (four : (config_of r).levels ≡ 4) (a w : ℕ) (v : Option ℕ) where
  abbrev e : After Reply
  e = call_of (request_at a w v) r m

  reads : Grants e.result.answer → GrantedWith (reads_on (config_of r) s (is_store v) a) e.result.answer × (reads_on (config_of r) s (is_store v) a ≤ 24)
  reads g = by (plain_walk r m (is_store v) a) (as_walked s r m inv beside a w v (unrefused e.result.answer g))
    where
      by : (y : Walked) → AsWalked r m a w v e y → GrantedWith (reads_on (config_of r) s (is_store v) a) e.result.answer × (reads_on (config_of r) s (is_store v) a ≤ 24)
      by (walked.Arrived y t n) q =
          let same = reads_on_lem s r m inv beside (is_store v) a in
          let most = subst (λ x. reads_of r m (is_store v) a ≤ x + x * suc x) four q.most in
          (granted_with e.result.answer (reads_on (config_of r) s (is_store v) a) g (ap line_reads q.says ∙ reads_line a w v _ _ _ ∙ same), omega (arith, most, same))
      by (walked.Faulted y n) q = absurd (subst GrantsLine q.says (grants_line e.result.answer g))
      by walked.Damaged q = absurd q

-- after a granted opening, on any memory, whatever it chooses, and any list of calls: a load or a store that is granted reports the words that
-- `granted_reads` says of its depth and of the guest entries on its way, on machine and book then, and at most 24
pub run_reads : (m : List ℕ) (h s : ℕ) (bits on : Bool) (xs : List Call) → refusal_of (length m) h s bits ≡ 0 → (a w : ℕ) (v : Option ℕ)
    → let u = run_of m h s bits on xs in
    let e = call_of (request_at a w v) u.result.unit u.memory in
    let c = config_by (length m) h s bits in
    let n = reads_on c (after xs (opened c on m)) (is_store v) a in
    Grants e.result.answer → GrantedWith n e.result.answer × (n ≤ 24)
run_reads m h s bits on xs g a w v =
    let u = run_of m h s bits on xs in
    let c = config_by (length m) h s bits in
    let t = after xs (opened c on m) in
    let k = after_run m h s bits on xs g in
    let same = run_config m h s bits on xs g in
    let e = call_of (request_at a w v) u.result.unit u.memory in
    subst (λ x. Grants e.result.answer → GrantedWith (reads_on x t (is_store v) a) e.result.answer × (reads_on x t (is_store v) a ≤ 24)) same
    (reads t u.result.unit u.memory k.1 k.2 (ap (λ x. x.levels) same) a w v)

-- without large pages a walk has an entry a level: 4 + 4 · d words at depth d
pub small_reads : (c : Config) (d : ℕ) → c.levels ≡ 4 → d ≤ 5 → granted_reads c d 4 ≡ 4 + 4 * d
small_reads c d four l = ap (λ n. cond (leb d n) ((n - d) + (4 - (n - d)) * suc n) (n + 4 * suc n)) four ∙ go (leb d 4) refl
  where
    go : (b : Bool) → leb d 4 ≡ b → cond b ((4 - d) + (4 - (4 - d)) * 5) (4 + 4 * 5) ≡ 4 + 4 * d
    go true e = omega (arith, leb-true d 4 e)
    go false e = omega (arith, leb-false d 4 e, l)
