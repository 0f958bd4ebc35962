-- A forecast says what its loads then cost: of the unit, after any run that demand 3 covers and that chose no bits. Document 02, 2).
-- Assumes nothing.
use mathlib.Core.Path.{◌≡◌, refl, sym, ap, ap₂, ◌∙◌}
use Prim.Native.Nat.{ℕ, ◌+◌, ◌≤◌, max}
use mathlib.Core.Bool.{Bool, false}
use mathlib.Core.List.{List, [], ◌∷◌}
use lib.ListN.{length}
use Rattle.spec.specs.Config.{Config}
use Rattle.spec.specs.Answer as say
use Rattle.spec.specs.Answer.{Line, line}
use Rattle.spec.specs.Call.{Call, forecast}
use Rattle.spec.specs.Refusal.{forecast_room}
use Rattle.spec.specs.Run.{State, step, run, after, opened}
use Rattle.spec.specs.Serving.{references_paid, exits_paid, all_paid, loads, tables_in, most_tables, serving_figures}
use Rattle.spec_laws.proofs.Forecast.{forecast_says}
use Rattle.record.specs.declared.Record.{Record}
use Rattle.record.specs.Record.{config_of, config_by}
use Rattle.record.specs.Open.{refusal_of}
use Rattle.calls.specs.Calls.{call_of}
use Rattle.claims.specs.Run.{unit_run, tables_run, run_of, machine_run}
use Rattle.claims.proofs.Invariant.{Inv, at}
use Rattle.claims.proofs.Forecasts.{used_is}
use Rattle.claims.proofs.Demands.{Beside, follows, at_self, next, runs_follow, after_run, run_config}

-- what the lines pay does not rest on the states beside them
pub lines_paid : (f : Line → ℕ) (os : List (Line × State)) → all_paid f (machine_run os) ≡ all_paid f os
lines_paid f [] = refl
lines_paid f (o ∷ os) = ap (λ n. f o.0 + n) (lines_paid f os)

-- the tables that the records count are the book's
tables_run_lem : (xs : List Call) (s : State) (r : Record) (m : List ℕ) → s.config ≡ config_of r → Inv s r m → Beside s r → tables_run xs r m ≡ most_tables (tables_in s) (run xs s)
unfolding tables_run run
tables_run_lem [] s r m e i v = used_is s r m i
tables_run_lem (x ∷ xs) s r m e i v =
    let u = call_of x r m in
    let k = next x s r m e i v in
    ap₂ max (used_is s r m i) (tables_run_lem xs (step x s).1 u.result.unit u.memory k.0 k.1 k.2)

-- Document 02, 2). After a granted opening without bits on any memory and any list of calls, a forecast of at most 256 addresses says the
-- sum of the references and exits that the loads of those addresses pay when they are made then, and the greatest number of shadow tables
-- that the unit's record counts from there on. With bits there is no forecast (document 02, 6). (That a forecast changes nothing is
-- `Safety.forecast_keeps`.)
pub forecast_is_serving : (m : List ℕ) (h s : ℕ) (on : Bool) (ys : List Call) (xs : List ℕ) → refusal_of (length m) h s false ≡ 0 → length xs ≤ forecast_room
    → let e = run_of m h s false on ys in
    let r = e.result.unit in
    let n = e.memory in
    let os = unit_run (loads xs) r n in
    line (call_of (forecast xs) r n).result.answer ≡ say.figures (all_paid references_paid os) (all_paid exits_paid os) (tables_run (loads xs) r n)
unfolding serving_figures
forecast_is_serving m h s on ys xs g l =
    let e = run_of m h s false on ys in
    let r = e.result.unit in
    let n = e.memory in
    let t = after ys (opened (config_by (length m) h s false) on m) in
    let i = after_run m h s false on ys g in
    let off : t.config.bits ≡ false = ap (λ (c : Config). c.bits) (i.0 ∙ run_config m h s false on ys g) in
    let now : step (forecast xs) (at (config_of r) t) ≡ step (forecast xs) t = ap (step (forecast xs)) (at_self (config_of r) t i.0) in
    let os = run (loads xs) t in
    let paid : (f : Line → ℕ) → all_paid f os ≡ all_paid f (unit_run (loads xs) r n) = λ f. sym (ap (all_paid f) (runs_follow (loads xs) t r n i.0 i.1 i.2) ∙ lines_paid f os) in
    (follows (forecast xs) t r n i.1 i.2).says ∙ ap (λ o. o.0) now ∙ forecast_says xs t off l
    ∙ ap₂ (λ x y. say.figures x y (most_tables (tables_in t) os)) (paid references_paid) (paid exits_paid)
    ∙ ap (say.figures (all_paid references_paid (unit_run (loads xs) r n)) (all_paid exits_paid (unit_run (loads xs) r n))) (sym (tables_run_lem (loads xs) t r n i.0 i.1 i.2))
