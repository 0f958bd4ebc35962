-- What the unit says to a record of a job is what machine and book say.
-- Assumes nothing.
use Rattle.std.proofs.Common.{◌≡◌, refl, sym, ap, ◌∙◌, ℕ, ◌*◌, false, List, ◌++◌, length, take, take-append-drop, Some, None}
use Rattle.std.proofs.Math.Option.{Option, none, some}
use native.Mathlib.Decide.{ℕ_discrete}
use Rattle.spec.specs.Answer.{line}
use Rattle.spec.specs.Config.{guest_base}
use Rattle.spec.specs.Run.{State, step}
use Rattle.spec_laws.proofs.Rules.{opened_rules}
use Rattle.record.specs.Record.{config_of}
use Rattle.record.specs.Open.{refusal_of, granted_of}
use Rattle.record.proofs.Opening.{refused_opening, granted_opening}
use Rattle.job_records.specs.declared.Call.{Call}
use Rattle.job_records.specs.declared.Job.TheVariants as job
use Rattle.job_records.specs.Records.{Wanted, asked}
use Rattle.job_run.specs.Run.{Used, run_of}
use Rattle.claims.proofs.Invariant.{Inv, at}
use Rattle.claims.proofs.Opens.{opened_inv, granted_call, refused_call}
use Rattle.claims.proofs.Demands.{Beside, follows, next, at_self, opened_config}
use Rattle.job_claims.specs.Job.{said, meets}
use Rattle.job_claims.specs.Tables.{tables_in}

-- record and memory of a job that started on m₀ stand for machine and book, once an open was granted; before, nothing has changed
abbrev pub Stands : List ℕ → Option State → Used → List ℕ → Type 0
Stands m₀ none r m = (r ≡ None) × (m ≡ m₀)
Stands m₀ (some k) (Some r) m = (k.config ≡ config_of r) × Inv k r m × Beside k r
Stands m₀ (some k) None m = ⊥

-- the memory that a record meets: of the unit's, only what is in the table frames counts
pub met : (m₀ : List ℕ) (k : Option State) (r : Used) (m : List ℕ) → Stands m₀ k r m → meets m₀ (tables_in r m) k ≡ m
met m₀ none r m i = sym i.1
met m₀ (some k) None m i = absurd i
met m₀ (some k) (Some r) m i =
    let n = 512 * guest_base (config_of r) in
    ap (λ (a : List ℕ). take n m ++ a) (sym i.1.area) ∙ take-append-drop n m

-- what the unit says to a record is what is said, and both go on alike
pub record Alike (m₀ : List ℕ) (j : Wanted) (k : Option State) (r : Used) (m : List ℕ) : Type 0 where
  pub says : line (run_of r m j).result.answer ≡ (said j m k).0
  pub stands : let a = run_of r m j in Stands m₀ (said j m k).1 a.result.unit a.memory

module _ (m₀ : List ℕ) where
  opens_alike : (h s : ℕ) (k : Option State) (r : Used) (m : List ℕ) → Stands m₀ k r m → Alike m₀ (Some (job.Open h s)) k r m
  unfolding run_of
  opens_alike h s k r m i = go (ℕ_discrete (refusal_of (length m) h s false) 0)
    where
      go : Dec (refusal_of (length m) h s false ≡ 0) → Alike m₀ (Some (job.Open h s)) k r m
      go (yes e) = record {
        says = rw (granted_call m h s false false e, granted_opening m h s false false e);
        stands = rw (granted_call m h s false false e, granted_opening m h s false false e) (sym (opened_config m h s false false), opened_inv m h s false false e, (tt, opened_rules (config_of (granted_of m h s false false).result) false m));
      }
      go (no n) = record {
        says = rw (refused_call m h s false false n, refused_opening m h s false false n);
        stands = rw (refused_call m h s false false n, refused_opening m h s false false n) i;
      }

  calls_alike : (x : Call) (k : Option State) (r : Used) (m : List ℕ) → Stands m₀ k r m → Alike m₀ (Some (job.Call x)) k r m
  unfolding run_of
  calls_alike x none r m i = record { says = rw i.0; stands = rw i.0 (refl, i.1) }
  calls_alike x (some k) None m i = absurd i
  calls_alike x (some k) (Some r) m i =
      let y = asked x in
      let n = next y k r m i.0 i.1 i.2 in
      let now : step y (at (config_of r) k) ≡ step y k = ap (step y) (at_self (config_of r) k i.0) in
      record {
        says = (follows y k r m i.1 i.2).says ∙ ap (λ u. u.0) now;
        stands = (n.0, n.1, n.2);
      }

  pub alike : (j : Wanted) (k : Option State) (r : Used) (m : List ℕ) → Stands m₀ k r m → Alike m₀ j k r m
  unfolding run_of
  alike (Some (job.Open h s)) k r m i = opens_alike h s k r m i
  alike (Some (job.Call x)) k r m i = calls_alike x k r m i
  alike None k r m i = record { says = refl; stands = i }
