-- No call of a run, after a granted opening on any memory, is refused with 3 or 11.
-- Assumes nothing.
use mathlib.Core.Path.{◌≡◌, refl, sym, subst}
use Prim.Native.Nat.{ℕ}
use mathlib.Core.Bool.{Bool, not, ◌&&◌}
use mathlib.Core.List.{List, [], ◌∷◌}
use mathlib.Core.Option.{Option, none, some}
use lib.Dec.{T, eqb}
use lib.ListN.{length}
use Rattle.spec.specs.Config.{Config}
use Rattle.spec.specs.Machine.{Machine}
use Rattle.spec.specs.Book.{Book}
use Rattle.spec.specs.Call.{Call, root, map, unmap, set_mark, clear_mark, load, store, device, forecast, Outcome, ok, done, value, fault, machine_step}
use Rattle.spec.specs.Count.{book_step}
use Rattle.spec.specs.Refusal.{tests, refusal}
use Rattle.spec.specs.Run.{State, line_of, outcome_line, told, answered, step, run, opened}
use Rattle.spec.specs.Prefix.{All}
use Rattle.spec_laws.proofs.Lists.{and_left, and_right, not_eqb}
use Rattle.record.specs.Record.{config_by}
use Rattle.record.specs.Open.{refusal_of}
use Rattle.calls.specs.Calls.{open_call}
use Rattle.claims.specs.Run.{Neither, Covered, unit_run, machine_run}
use Rattle.claims.proofs.Demands.{demand_3}
use Rattle.claims.proofs.Safety.{failed_in}

-- the numbers of the specification's tests
other : (n : ℕ) → T (not (eqb n 3) && not (eqb n 11)) → Neither n
other n h = (not_eqb n 3 (and_left (not (eqb n 3)) (not (eqb n 11)) h), not_eqb n 11 (and_right (not (eqb n 3)) (not (eqb n 11)) h))

tests_other : (c : Config) (x : Call) (m : Machine) (b : Book) → All (λ y. Neither y.1) (tests c x m b)
unfolding tests
tests_other c (root g) m b = (other 8 tt, tt)
tests_other c (map g f w) m b = (other 8 tt, (other 9 tt, (other 10 tt, tt)))
tests_other c (unmap g) m b = (other 8 tt, (other 12 tt, tt))
tests_other c (set_mark a n) m b = (other 4 tt, (other 5 tt, (other 6 tt, (other 7 tt, tt))))
tests_other c (clear_mark a n) m b = (other 4 tt, (other 5 tt, (other 6 tt, tt)))
tests_other c (load a w) m b = (other 15 tt, (other 4 tt, tt))
tests_other c (store a w v) m b = (other 15 tt, (other 4 tt, tt))
tests_other c (device a w v) m b = (other 15 tt, (other 4 tt, tt))
tests_other c (forecast xs) m b = (other 16 tt, (other 14 tt, tt))

-- ---- a step, and a run, of the specification
step_covered : (x : Call) (s : State) → Covered (step x s).0
unfolding step refusal
step_covered x s = go (refusal s.config x s.machine s.book) refl
  where
    c : Config
    c = s.config

    said : (o : Outcome) (r e : ℕ) → Covered (line_of o r e)
    said ok r e = tt
    said done r e = tt
    said (value v) r e = tt
    said (fault y) r e = tt

    by : (y : Call) → Covered (outcome_line y s)
    by y = let k = book_step c y s.machine s.book in said (machine_step c y s.machine).0 k.references k.exits

    spoken : (y : Call) → Covered (told y s)
    spoken (root g) = by (root g)
    spoken (map g f w) = by (map g f w)
    spoken (unmap g) = by (unmap g)
    spoken (set_mark a n) = by (set_mark a n)
    spoken (clear_mark a n) = by (clear_mark a n)
    spoken (load a w) = by (load a w)
    spoken (store a w v) = by (store a w v)
    spoken (device a w v) = by (device a w v)
    spoken (forecast xs) = tt

    go : (o : Option ℕ) → refusal c x s.machine s.book ≡ o → Covered (answered x s o).0
    go none q = spoken x
    go (some n) q = failed_in Neither (tests c x s.machine s.book) (tests_other c x s.machine s.book) n q

run_covered : (xs : List Call) (s : State) → All (λ o. Covered o.0) (machine_run (run xs s))
unfolding run
run_covered [] s = tt
run_covered (x ∷ xs) s = (step_covered x s, run_covered xs (step x s).1)

-- and so of the unit
pub never_3_nor_11 : (m : List ℕ) (h s : ℕ) (bits on : Bool) (xs : List Call) → refusal_of (length m) h s bits ≡ 0
    → let e = open_call m h s bits on in All (λ o. Covered o.0) (unit_run xs e.result.unit e.memory)
never_3_nor_11 m h s bits on xs g =
    let c = config_by (length m) h s bits in
    subst (All (λ o. Covered o.0)) (sym (demand_3 m h s bits on xs g)) (run_covered xs (opened c on m))
