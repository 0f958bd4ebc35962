-- Demand 3: every run of the unit is the run of the machine without shadow and its book; and the automatic choice is not seen in it.
-- Assumes nothing.
use mathlib.Core.Path.{◌≡◌, refl, sym, ap, ap₂, ◌∙◌, subst}
use Prim.Native.Nat.{ℕ, ◌-◌, ◌*◌}
use native.Mathlib.Omega.{arith}
use mathlib.Core.Bool.{Bool, true, false}
use mathlib.Core.List.{List, [], ◌∷◌}
use lib.ListN.{length, length-drop}
use Rattle.spec.specs.Config.{Config, guest_base}
use Rattle.spec.specs.Prefix.{All}
use Rattle.spec.specs.Answer.{Line}
use Rattle.spec.specs.Machine.{Machine}
use Rattle.spec.specs.Call.{Call, root, map, unmap, set_mark, clear_mark, load, store, device, forecast}
use Rattle.spec.specs.Run.{State, step, run, after, opened}
use Rattle.spec_laws.proofs.Runs.{step_config}
use Rattle.spec_laws.proofs.Rules.{BookRules, step_rules, opened_rules}
use Rattle.spec.specs.Heard.{bare}
use Rattle.spec_laws.proofs.Unseen as unseen
use Rattle.spec_laws.proofs.Covered.{Covered, step_covered}
use Rattle.record.specs.declared.Record.{Record}
use Rattle.record.specs.Record.{config_of, config_by}
use Rattle.record.specs.Open.{refusal_of, first_of, granted_of}
use Rattle.calls.specs.Calls.{open_call, call_of}
use Rattle.claims.specs.Run.{unit_run, unit_after, run_of, machine_run, heard_unit}
use Rattle.claims.proofs.Invariant.{Inv, Follows, at}
use Rattle.claims.proofs.Found as found
use Rattle.claims.proofs.Opens.{opened_inv, granted_call}
use Rattle.claims.proofs.Remaps.{root_follows, map_follows, unmap_follows}
use Rattle.claims.proofs.Marks.{set_mark_follows, clear_mark_follows}
use Rattle.claims.proofs.Requests.{load_follows, store_follows, device_follows}
use Rattle.claims.proofs.Forecasts.{forecast_follows}
use Rattle.words.specs.After.{After}
use Rattle.calls.specs.declared.Reply.{Reply}

-- what stands beside the invariant: with bits on the entries that held paths cover have theirs, and the book keeps the rules of a record
abbrev pub Beside : State → Record → Type 0
Beside s r = All (Covered (config_of r) s.machine) s.book.held × BookRules (config_of r) s.book

-- every call follows the specification's step
pub follows : (x : Call) (s : State) (r : Record) (m : List ℕ) → Inv s r m → Beside s r → Follows x s r (call_of x r m)
unfolding call_of
follows (root g) s r m i o = root_follows s r m i o.1 g
follows (map g f w) s r m i o = map_follows s r m i g f w
follows (unmap g) s r m i o = unmap_follows s r m i g
follows (set_mark a n) s r m i o = set_mark_follows s r m i o.1 a n
follows (clear_mark a n) s r m i o = clear_mark_follows s r m i o.1 a n
follows (load a w) s r m i o = load_follows s r m i o.0 o.1 a w
follows (store a w v) s r m i o = store_follows s r m i o.0 o.1 a w v
follows (device a w v) s r m i o = device_follows s r m i o.0 o.1 a w v
follows (forecast xs) s r m i o = forecast_follows s r m i xs

-- a state that carries the record's configuration
pub at_self : (c : Config) (s : State) → s.config ≡ c → at c s ≡ s
at_self c s e = λ i. record { config = sym e i; machine = s.machine; book = s.book }

-- and what it leaves stands for the state after it
pub next : (x : Call) (s : State) (r : Record) (m : List ℕ) → s.config ≡ config_of r → Inv s r m → Beside s r
    → let t = (step x s).1 in
    let u = call_of x r m in
    (t.config ≡ config_of u.result.unit) × Inv t u.result.unit u.memory × Beside t u.result.unit
next x s r m e i o =
    let c = config_of r in
    let u = call_of x r m in
    let f = follows x s r m i o in
    let fits = found.rules s r m i in
    let long : length s.machine.area ≡ (c.frames - guest_base c) * 512 = ap length (sym i.area) ∙ length-drop (512 * guest_base c) m ∙ omega (arith, fits.long, fits.sizes.guest) in
    let set = step_covered x (at c s) (found.memory_stands s r m i).inside (found.root_small s r m i) long i.valid o.0 in
    let covered = subst (λ k. All (Covered k (step x (at c s)).1.machine) (step x (at c s)).1.book.held) (sym f.config) set in
    let rules = subst (λ k. BookRules k (step x (at c s)).1.book) (sym f.config) (step_rules x (at c s) i.book o.1) in
    subst (λ (t : State). (t.config ≡ config_of u.result.unit) × Inv t u.result.unit u.memory × Beside t u.result.unit)
    (ap (λ z. (step x z).1) (at_self c s e)) (sym f.config, f.next, (covered, rules))

-- a list of calls, from any state that the record and the memory stand for
pub runs_follow : (xs : List Call) (s : State) (r : Record) (m : List ℕ) → s.config ≡ config_of r → Inv s r m → Beside s r → unit_run xs r m ≡ machine_run (run xs s)
unfolding unit_run run
runs_follow [] s r m e i o = refl
runs_follow (x ∷ xs) s r m e i o =
    let u = call_of x r m in
    let k = next x s r m e i o in
    ap₂ (λ y ys. y ∷ ys)
    (ap₂ (λ l g. (l, g)) ((follows x s r m i o).says ∙ ap (λ z. (step x z).0) (at_self (config_of r) s e)) k.1.area)
    (runs_follow xs (step x s).1 u.result.unit u.memory k.0 k.1 k.2)

-- and the invariant at its end
pub after_follow : (xs : List Call) (s : State) (r : Record) (m : List ℕ) (d : After Reply) → s.config ≡ config_of r → Inv s r m → Beside s r → r ≡ d.result.unit → m ≡ d.memory
    → let e = unit_after xs r m d in ((after xs s).config ≡ config_of e.result.unit) × Inv (after xs s) e.result.unit e.memory × Beside (after xs s) e.result.unit
unfolding unit_after after
after_follow [] s r m d k i o p q = (k ∙ ap config_of p, subst (λ x. Inv s x d.memory) p (subst (Inv s r) q i), subst (Beside s) p o)
after_follow (x ∷ xs) s r m d k i o p q =
    let u = call_of x r m in
    let n = next x s r m k i o in
    after_follow xs (step x s).1 u.result.unit u.memory u n.0 n.1 n.2 refl refl

pub opened_config : (m : List ℕ) (h s : ℕ) (bits on : Bool) → config_of (granted_of m h s bits on).result ≡ config_by (length m) h s bits
unfolding granted_of first_of
opened_config m h s bits on = refl

-- after a granted opening, on any memory, and a list of calls, the record and the memory stand for machine and book
pub after_run : (m : List ℕ) (h s : ℕ) (bits on : Bool) (xs : List Call) → refusal_of (length m) h s bits ≡ 0
    → let o = open_call m h s bits on in
    let c = config_by (length m) h s bits in
    let e = unit_after xs o.result.unit o.memory o in
    ((after xs (opened c on m)).config ≡ config_of e.result.unit) × Inv (after xs (opened c on m)) e.result.unit e.memory × Beside (after xs (opened c on m)) e.result.unit
after_run m h s bits on xs g =
    let o = open_call m h s bits on in
    let c = config_by (length m) h s bits in
    let q = granted_call m h s bits on g in
    after_follow xs (opened c on m) o.result.unit o.memory o (sym (ap (λ (e : After Reply). config_of e.result.unit) q ∙ opened_config m h s bits on))
    (subst (λ (e : After Reply). Inv (opened c on m) e.result.unit e.memory) (sym q) (opened_inv m h s bits on g)) (tt, opened_rules (config_of o.result.unit) on m) refl refl

-- no call changes the configuration
same_config : (xs : List Call) (s : State) → (after xs s).config ≡ s.config
unfolding after
same_config [] s = refl
same_config (x ∷ xs) s = same_config xs (step x s).1 ∙ step_config x s

-- so the record after a run has that of the opening
pub run_config : (m : List ℕ) (h s : ℕ) (bits on : Bool) (xs : List Call) → refusal_of (length m) h s bits ≡ 0 → config_of (run_of m h s bits on xs).result.unit ≡ config_by (length m) h s bits
run_config m h s bits on xs g = sym (after_run m h s bits on xs g).0 ∙ same_config xs (opened (config_by (length m) h s bits) on m)

-- Demand 3. After a granted opening on any memory, whatever it chooses, over any list of calls: what the unit says at each call (value, fault, refusal,
-- counts) and the guest area after it are those of the specification's machine and book
pub demand_3 : (m : List ℕ) (h s : ℕ) (bits on : Bool) (xs : List Call) → refusal_of (length m) h s bits ≡ 0
    → let e = open_call m h s bits on in
    let c = config_by (length m) h s bits in
    unit_run xs e.result.unit e.memory ≡ machine_run (run xs (opened c on m))
demand_3 m h s bits on xs g =
    let c = config_by (length m) h s bits in
    let k = granted_of m h s bits on in
    ap (λ (e : After Reply). unit_run xs e.result.unit e.memory) (granted_call m h s bits on g)
    ∙ runs_follow xs (opened c on m) k.result k.memory (sym (opened_config m h s bits on)) (opened_inv m h s bits on g) (tt, opened_rules (config_of k.result) on m)

-- ---- the automatic choice

-- what is heard of the specification's run, with the guest area after each call
heard_areas : List (Line × Machine) → List (Line × List ℕ)
heard_areas [] = []
heard_areas (o ∷ os) = (o.0, o.1.area) ∷ heard_areas os

heard_same : (os : List (Line × State)) → heard_unit (machine_run os) ≡ heard_areas (unseen.heard os)
unfolding heard_areas
heard_same [] = refl
heard_same (o ∷ os) = ap (λ l. (bare o.0, o.1.machine.area) ∷ l) (heard_same os)

-- Document 02, 7). The same list of calls after two granted openings that differ in the automatic choice alone, on any memory: each call says
-- the same but for references, exits and a forecast's figures, and leaves the same guest area
pub choice_unseen : (m : List ℕ) (h s : ℕ) (bits : Bool) (xs : List Call) → refusal_of (length m) h s bits ≡ 0
    → let e = open_call m h s bits true in
    let f = open_call m h s bits false in
    heard_unit (unit_run xs e.result.unit e.memory) ≡ heard_unit (unit_run xs f.result.unit f.memory)
choice_unseen m h s bits xs g =
    let c = config_by (length m) h s bits in
    by true ∙ ap heard_areas (unseen.choice_unseen c m xs) ∙ sym (by false)
  where
    by : (on : Bool) → let e = open_call m h s bits on in heard_unit (unit_run xs e.result.unit e.memory) ≡ heard_areas (unseen.heard (run xs (opened (config_by (length m) h s bits) on m)))
    by on = ap heard_unit (demand_3 m h s bits on xs g) ∙ heard_same (run xs (opened (config_by (length m) h s bits) on m))
