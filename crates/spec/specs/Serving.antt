-- What a list of loads pays when it is really served, read off the lines and states of its run.
-- Assumes nothing.
use Rattle.std.specs.Prelude.{ℕ, ◌+◌, max, List, [], ◌∷◌}
use Rattle.spec.specs.Answer.{Line, ok, value, done, fault, no, figures}
use Rattle.spec.specs.Book.{shadow_tables}
use Rattle.spec.specs.Call.{Call, load_word}
use Rattle.spec.specs.Forecast.{Figures}
use Rattle.spec.specs.Run.{State, run}

-- what a line pays; the figures of a forecast are said and not paid
abbrev pub references_paid : Line → ℕ
references_paid ok = 0
references_paid (value v r e) = r
references_paid (done r e) = r
references_paid (fault x l g r e) = r
references_paid (no n) = 0
references_paid (figures r e t) = 0

abbrev pub exits_paid : Line → ℕ
exits_paid ok = 0
exits_paid (value v r e) = e
exits_paid (done r e) = e
exits_paid (fault x l g r e) = e
exits_paid (no n) = 0
exits_paid (figures r e t) = 0

-- what all lines of a run pay, whatever stands beside them
abbrev pub all_paid : {A : Type 0} → (Line → ℕ) → List (Line × A) → ℕ
all_paid f [] = 0
all_paid f (o ∷ os) = f o.0 + all_paid f os

abbrev pub loads : List ℕ → List Call
loads [] = []
loads (a ∷ xs) = load_word a ∷ loads xs

abbrev pub tables_in : State → ℕ
tables_in s = shadow_tables s.book.held

-- the greatest number of shadow tables in use: t at the start, then those after each call
abbrev pub most_tables : ℕ → List (Line × State) → ℕ
most_tables t [] = t
most_tables t (o ∷ os) = max t (most_tables (tables_in o.1) os)

-- the figures of the loads of a list, made from this state on
unfoldable pub serving_figures : List ℕ → State → Figures
serving_figures xs s =
    let os : List (Line × State) = run (loads xs) s in
    record { references = all_paid references_paid os; exits = all_paid exits_paid os; tables = most_tables (tables_in s) os }
