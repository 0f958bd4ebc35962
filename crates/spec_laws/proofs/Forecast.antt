-- Document 02, 2): a forecast changes nothing, and with bits off, without which there is none, its figures are those of really serving
-- its list.
-- Assumes nothing.
use mathlib.Core.Path.{◌≡◌, refl, sym, ap, ap₂, ◌∙◌}
use Prim.Native.Nat.{ℕ, ◌+◌, max, ◌≤◌}
use mathlib.Core.Bool.{false, not, cond}
use mathlib.Core.List.{List, [], ◌∷◌}
use mathlib.Core.Option.{Option, none, some}
use borrow.Author.Tests.{le-leb}
use lib.ListN.{length}
use Rattle.spec.specs.declared.Fault.{Fault}
use Rattle.spec.specs.Answer.{Line}
use Rattle.spec.specs.Config.{Config}
use Rattle.spec.specs.Walk.{Result, granted, failed}
use Rattle.spec.specs.Plain.{Place}
use Rattle.spec.specs.Machine.{Machine}
use Rattle.spec.specs.Bits.{bits_set}
use Rattle.spec.specs.Call.{load_word, forecast, plain, verdict, access, machine_step}
use Rattle.spec.specs.Count.{Counted, book_step}
use Rattle.spec.specs.Refusal.{forecast_room, tests, refusal}
use Rattle.spec.specs.Forecast.{Figures, served, served_by, plus, figures_of}
use Rattle.spec.specs.Run.{State, line_of, figures_line, answered, step, run}
use Rattle.spec.specs.Serving.{references_paid, exits_paid, tables_in, serving_figures}
use Rattle.spec_laws.proofs.Before.{off_bits}

-- refused or not
pub forecast_changes_nothing : (xs : List ℕ) (s : State) → (step (forecast xs) s).1 ≡ s
unfolding step machine_step book_step
forecast_changes_nothing xs s = go (refusal s.config (forecast xs) s.machine s.book)
  where
    go : (r : Option ℕ) → (answered (forecast xs) s r).1 ≡ s
    go (some n) = refl
    go none = refl

-- ---- one load: a forecast counts it on the machine that it began with

-- and there it stays
pub load_leaves : (c : Config) (m : Machine) (a w : ℕ) (x : Result Fault Place) → (access c m m a w none x).1 ≡ m
unfolding access
load_leaves c m a w (failed x) = refl
load_leaves c m a w (granted p) = refl

-- the line of a load or a store says both counts, whether it is granted or a fault
pub access_paid : (c : Config) (m n : Machine) (a w : ℕ) (v : Option ℕ) (x : Result Fault Place) (r e : ℕ)
    → let l = line_of (access c m n a w v x).0 r e in (references_paid l ≡ r) × (exits_paid l ≡ e)
unfolding access
access_paid c m n a w v (failed x) r e = (refl, refl)
access_paid c m n a w none (granted p) r e = (refl, refl)
access_paid c m n a w (some v) (granted p) r e = (refl, refl)

-- the step o of a load that is really made in state s pays what the forecast counts for it, and leaves the forecast's book
pub record Loaded (s : State) (k : Counted) (o : Line × State) : Type 0 where
  pub references : references_paid o.0 ≡ k.references
  pub exits : exits_paid o.0 ≡ k.exits
  pub state : o.1 ≡ record { config = s.config; machine = s.machine; book = k.book }

pub load_served : (a : ℕ) (s : State) → s.config.bits ≡ false → Loaded s (served s.config s.machine a s.book) (step (load_word a) s)
unfolding step served machine_step book_step
load_served a s off = go (refusal c (load_word a) m s.book)
  where
    c : Config
    c = s.config

    m : Machine
    m = s.machine

    k : Counted
    k = book_step c (load_word a) m s.book

    go : (r : Option ℕ) → Loaded s (served_by c m a s.book r) (answered (load_word a) s r)
    go (some n) = record { references = refl; exits = refl; state = refl }
    go none =
        let x = verdict c m false a in
        let n = bits_set c false m (plain c m false a) in
        let p = access_paid c m n a 8 none x k.references k.exits in
        let same : (access c m n a 8 none x).1 ≡ m = ap (λ y. (access c m y a 8 none x).1) (off_bits c false m (plain c m false a) off) ∙ load_leaves c m a 8 x in
        record { references = p.0; exits = p.1; state = ap (λ z. record { config = c; machine = z; book = k.book }) same }

-- ---- the list

pub forecast_serves : (xs : List ℕ) (s : State) → s.config.bits ≡ false → figures_of s.config s.machine xs s.book ≡ serving_figures xs s
unfolding figures_of serving_figures run
forecast_serves [] s off = refl
forecast_serves (a ∷ xs) s off =
    let o = step (load_word a) s in
    let k = served s.config s.machine a s.book in
    let l = load_served a s off in
    let f : Figures = serving_figures xs o.1 in
    let ih : figures_of s.config s.machine xs k.book ≡ f =
    ap (λ (t : State). figures_of t.config t.machine xs t.book) (sym l.state)
    ∙ forecast_serves xs o.1 (ap (λ (t : State). t.config.bits) l.state ∙ off) in
    ap (plus (tables_in s) k) ih
    ∙ ap₂ (λ r e. record { references = r + f.references; exits = e + f.exits; tables = max (tables_in s) f.tables }) (sym l.references) (sym l.exits)

-- ---- the call

-- at most 256 addresses: the figures of serving them
pub forecast_says : (xs : List ℕ) (s : State) → s.config.bits ≡ false → length xs ≤ forecast_room → (step (forecast xs) s).0 ≡ figures_line (serving_figures xs s)
unfolding step refusal tests
forecast_says xs s off l =
    ap₂ (λ b t. (answered (forecast xs) s (cond (not b) (cond t none (some 14)) (some 16))).0) off (le-leb (length xs) forecast_room l)
    ∙ ap figures_line (forecast_serves xs s off)
