-- What a settled controller costs: of the unit, after any run that demand 3 covers and that chose no bits. Document 02, 5).
-- Assumes nothing.
use mathlib.Core.Path.{◌≡◌, sym, ap, ◌∙◌, subst}
use Prim.Native.Nat.{ℕ}
use mathlib.Core.Bool.{Bool, false}
use mathlib.Core.List.{List}
use lib.Dec.{T}
use lib.ListN.{length}
use Rattle.spec.specs.Config.{Config}
use Rattle.spec.specs.Book.{paths}
use Rattle.spec.specs.Call.{Call}
use Rattle.spec.specs.Run.{State, run, after, opened}
use Rattle.spec.specs.Serving.{exits_paid, all_paid}
use Rattle.spec.specs.Quiet.{touched, quiet, quiet_exits}
use Rattle.spec_laws.proofs.Members.{Within}
use Rattle.spec_laws.proofs.Quiet.{Sound, SoundAt, quiet_costs, settled_costs}
use Rattle.record.specs.declared.Record.{Record}
use Rattle.record.specs.Record.{config_of, config_by}
use Rattle.record.specs.Open.{refusal_of}
use Rattle.claims.specs.Run.{unit_run, run_of}
use Rattle.claims.proofs.Invariant.{Inv}
use Rattle.claims.proofs.Found as found
use Rattle.claims.proofs.Serving.{lines_paid}
use Rattle.claims.proofs.Demands.{runs_follow, after_run, run_config}

-- what the record and the memory stand for is sound
sound : (s : State) (r : Record) (m : List ℕ) → s.config ≡ config_of r → Inv s r m → SoundAt s
sound s r m e i =
    subst (λ c. Sound c s.machine s.book.held) (sym e)
    (record { mapped = (found.memory_stands s r m i).inside; root = found.root_small s r m i; valid = i.valid })

-- Document 02, 5). After a granted opening without bits on any memory and any list of calls xs, let ys be a quiet stretch: its loads and stores
-- are all granted, beside them are only forecasts and refused calls (`only_granted`); no store comes to a watched frame (`none_watched`); and the
-- paths that it touches, with all that is held at its start, need at most S shadow tables (`all_fit`). Then the exits that the unit says add up
-- to the number of different paths touched that were not held at its start; depth N + 1 touches none (`quiet_exits`). With bits a path that a load
-- filled may have to be filled again for a store, which is one exit more (document 02, 6)
pub quiet_day : (m : List ℕ) (h s : ℕ) (on : Bool) (xs ys : List Call) → refusal_of (length m) h s false ≡ 0
    → let t = after xs (opened (config_by (length m) h s false) on m) in
    let e = run_of m h s false on xs in
    T (quiet ys t) → all_paid exits_paid (unit_run ys e.result.unit e.memory) ≡ quiet_exits ys t
quiet_day m h s on xs ys g q =
    let t = after xs (opened (config_by (length m) h s false) on m) in
    let e = run_of m h s false on xs in
    let i = after_run m h s false on xs g in
    let off : t.config.bits ≡ false = ap (λ (c : Config). c.bits) (i.0 ∙ run_config m h s false on xs g) in
    ap (all_paid exits_paid) (runs_follow ys t e.result.unit e.memory i.0 i.1 i.2) ∙ lines_paid exits_paid (run ys t)
    ∙ quiet_costs ys t off (sound t e.result.unit e.memory i.0 i.1) q

-- a settled controller: where all that it touches is held, a quiet stretch costs no exit
pub settled_day : (m : List ℕ) (h s : ℕ) (on : Bool) (xs ys : List Call) → refusal_of (length m) h s false ≡ 0
    → let t = after xs (opened (config_by (length m) h s false) on m) in
    let e = run_of m h s false on xs in
    T (quiet ys t) → Within (touched ys t) (paths t.book.held) → all_paid exits_paid (unit_run ys e.result.unit e.memory) ≡ 0
settled_day m h s on xs ys g q w =
    quiet_day m h s on xs ys g q ∙ settled_costs ys (after xs (opened (config_by (length m) h s false) on m)) w
