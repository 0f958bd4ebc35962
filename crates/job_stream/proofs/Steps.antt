-- The ways that a turn goes, each as the turn's definition has it.
-- Assumes nothing.
use Rattle.std.proofs.Common.{◌≡◌, refl, sym, ap, ◌∙◌, subst, Bool, true, false, cond, List, [], ◌++◌, ℕ, ◌+◌, ◌≤◌, arith, eqb, length, take}
use Rattle.words.specs.After.{After, yields}
use Rattle.job_records.specs.declared.Cut.{Cut}
use Rattle.job_records.specs.declared.Cut.TheVariants.{Body, Short, Wrong}
use Rattle.job_stream.specs.declared.Flow.{Flow}
use Rattle.job_stream.specs.Turns.{Turned, unread, ran_of, front, ended_of, refilled_of, turn_by, cut_of, turn_of, Refilled, BufferBy, Turn, read_by, Runs, start, then, first}

-- ---- a turn

-- a record, or a length that no kind has
pub turn_runs : (f g : Flow) (m n b : List ℕ) → (cut_of f b ≡ Short → ⊥) → yields g n ≡ (ran_of f m (take f.len b) g.taken).after → Turn f m b g n b
unfolding turn_of
turn_runs f g m n b other r = go (cut_of f b) refl
  where
    go : (c : Cut) → cut_of f b ≡ c → Turn f m b g n b
    go Short e = absurd (other e)
    go (Body k s l) e = record {
      leaves = r ∙ ap (λ (c : Cut). (turn_by f m b g.len g.taken c).after) (sym e);
      buffer = subst (BufferBy f b g.len b) (sym e) refl;
    }
    go Wrong e = record {
      leaves = r ∙ ap (λ (c : Cut). (turn_by f m b g.len g.taken c).after) (sym e);
      buffer = subst (BufferBy f b g.len b) (sym e) refl;
    }

pub turn_short : (f g : Flow) (m n b d : List ℕ) → cut_of f b ≡ Short → yields g n ≡ (refilled_of f m (unread f b) g.len g.taken).after → Refilled (unread f b) g.len d
    → Turn f m b g n d
unfolding turn_of
turn_short f g m n b d e r h = record {
  leaves = r ∙ ap (λ (c : Cut). (turn_by f m b g.len g.taken c).after) (sym e);
  buffer = subst (BufferBy f b g.len d) (sym e) h;
}

-- ---- a record at a time

either : (n : ℕ) (t : Bool) (x y : Turned) → x.after.result.number ≤ n → y.after.result.number ≤ n → (cond t x y).after.result.number ≤ n
either n true x y p q = p
either n false x y p q = q

number_by_lem : (f : Flow) (m b : List ℕ) (l : ℕ) (t : Bool) (c : Cut) → (turn_by f m b l t c).after.result.number ≤ f.number + 1
number_by_lem f m b l t (Body k s n) = omega arith
number_by_lem f m b l t Wrong = omega arith
number_by_lem f m b l t Short =
    let u = unread f b in
    either (f.number + 1) (eqb l (length u)) (ended_of f m u t) _ (either (f.number + 1) (eqb (length u) 0) _ (ran_of (front f (length u)) m u t) (omega arith) (omega arith)) (omega arith)

-- a turn runs at most one
pub turn_number : (f g : Flow) (m n b d : List ℕ) → Turn f m b g n d → g.number ≤ f.number + 1
unfolding turn_of
turn_number f g m n b d h =
    subst (λ (k : ℕ). k ≤ f.number + 1) (sym (ap (λ (x : After Flow). x.result.number) h.leaves)) (number_by_lem f m b g.len g.taken (cut_of f b))

-- ---- the loop

-- a run from the start of a job, of so many turns
pub record Going (m b : List ℕ) (g : Flow) (n c : List ℕ) (turns : ℕ) : Type 0 where
  pub input : List ℕ
  pub output : List ℕ
  pub runs : Runs first m b turns input output g n c
  pub few : g.number ≤ turns

pub going_start : (m b : List ℕ) → Going m b first m b 0
going_start m b = record {
  input = [];
  output = [];
  runs = start;
  few = omega arith;
}

pub going_next : (m b : List ℕ) (g : Flow) (n c : List ℕ) (turns : ℕ) (h : Flow) (p d : List ℕ) → Going m b g n c turns → g.more ≡ true → Turn g n c h p d
    → Going m b h p d (turns + 1)
going_next m b g n c turns h p d i e t = record {
  input = i.input ++ read_by g c h.len d (cut_of g c);
  output = i.output ++ (turn_of g n c h.len h.taken).said;
  runs = then h p d i.runs e t;
  few = omega (arith, i.few, turn_number g h n p c d t);
}
