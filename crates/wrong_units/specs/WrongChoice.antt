-- Units that misread the automatic choice of marks (document 02, 7 and 9). What the choice does shows in references, exits and refusals alone, and
-- those are the book's: so each of these units is machine and book, with one change in a step of the book or in a refusal.
-- Assumes nothing.
use Rattle.std.specs.Prelude.{ℕ, ◌+◌, Bool, true, false, not, cond, List, [], ◌∷◌, ◌++◌, length}
use Rattle.std.proofs.Math.Option.{Option, none, some}
use Rattle.spec.specs.declared.Fault.{Fault}
use Rattle.spec.specs.Answer as say
use Rattle.spec.specs.Answer.{Line}
use Rattle.spec.specs.Config.{Config}
use Rattle.spec.specs.Entry.{word_of}
use Rattle.spec.specs.Prefix.{same, any, keep}
use Rattle.spec.specs.Walk.{Result, granted, failed}
use Rattle.spec.specs.Plain.{Place}
use Rattle.spec.specs.Machine.{Machine}
use Rattle.spec.specs.Book.{Mark, Held, Book, mark_at, is_set, holding, unmarking, drop_all}
use Rattle.spec.specs.Choice.{first_of, lower, reads_leaf, leaf_prefixes, charge_of, charged_to, is_automatic, owned, full, choosing, withdrawn, charged, entered, room_for}
use Rattle.spec.specs.Call.{Call, device, forecast, address_indexes, verdict, device_walk, machine_step}
use Rattle.spec.specs.Count.{Counted, one, is_granted, request_depth, request, storing, free, windowed, book_step}
use Rattle.spec.specs.Refusal.{first_failed, level_fits, address_fits, refusal}
use Rattle.spec.specs.Run.{State, line_of, told, step, opened}
use Rattle.record.specs.Record.{config_by}
use Rattle.wrong_units.specs.Unit.{MemoryUnit}
use Rattle.wrong_units.specs.Changed.{on_loads, on_stores, on_devices, on_roots, on_sets, on_clears, on_forecasts}

-- ---- a unit that is machine and book, by rules of its own for the book

-- what a call changes in the book and costs
abbrev pub Books : Type 0
Books = Config → Call → Machine → Book → Counted

-- the number that a call is refused with
abbrev pub Refuses : Type 0
Refuses = Config → Call → Machine → Book → Option ℕ

-- what a call says that is not refused: the machine's outcome with the counts of that step of the book. A forecast says the specification's figures
abbrev pub told_by : State → Counted → Call → Line
told_by s k = on_forecasts (λ xs. told (forecast xs) s) (λ x. line_of (machine_step s.config x s.machine).0 k.references k.exits)

abbrev pub answered_by : Call → State → Counted → Option ℕ → Line × State
answered_by x s k (some n) = (say.no n, s)
answered_by x s k none = (told_by s k x, record { config = s.config; machine = (machine_step s.config x s.machine).1; book = k.book })

unfoldable pub step_by : Books → Refuses → Call → State → Line × State
step_by books refuses x s = answered_by x s (books s.config x s.machine s.book) (refuses s.config x s.machine s.book)

abbrev pub keeping : Books → Refuses → MemoryUnit
keeping books refuses = record {
  Inner = State;
  opens = λ m h s bits on. opened (config_by (length m) h s bits) on m;
  call = step_by books refuses;
  area = λ s. s.machine.area;
}

-- ---- loads and stores are ours with what the choice does as an argument

-- how a request goes into the window after its drops, by what it came to and what it is charged to
abbrev pub Enters : Type 0
Enters = Config → Result Fault Place → Option (List ℕ) → Counted → Counted

abbrev pub our_enters : Enters
our_enters c r x k = windowed c x k

-- what a store to that word of its page is charged to, by what it came to, the paths held before it, and those held once its own is filled
abbrev pub Charges : Type 0
Charges = Config → ℕ → Result Fault Place → List Held → List Held → Option (List ℕ)

abbrev pub our_charges : Charges
our_charges c i r before hs = charge_of c i r hs

unfoldable pub load_choosing : Enters → Config → ℕ → ℕ → Machine → Book → Counted
load_choosing enters c a w m b = enters c (verdict c m false a) none (request c m b false a (request_depth c m b a))

unfoldable pub store_choosing : Enters → Charges → Config → ℕ → ℕ → ℕ → Machine → Book → Counted
store_choosing enters charges c a w v m b =
    let r : Result Fault Place = verdict c m true a in
    let k : Counted = request c m b true a (request_depth c m b a) in
    enters c r (charges c (word_of a) r b.held k.book.held) (storing (word_of a) r k)

abbrev pub entering : Enters → MemoryUnit
entering enters = keeping (λ c. on_loads (load_choosing enters c) (on_stores (store_choosing enters our_charges c) (book_step c))) refusal

abbrev pub charging : Charges → MemoryUnit
charging charges = keeping (λ c. on_stores (store_choosing our_enters charges c) (book_step c)) refusal

-- ---- the window

-- a fault does not enter it
unfoldable pub faults_left_out : MemoryUnit
faults_left_out = entering (λ c r x k. cond (is_granted r) (windowed c x k) k)

-- a root load does not empty it
unfoldable pub root_keeps_window : MemoryUnit
root_keeps_window = keeping (λ c. on_roots (λ g m b. free (holding b (drop_all b.held))) (book_step c)) refusal

-- what a request does to the book with the choice on
abbrev pub observing : (Config → Option (List ℕ) → Book → Book) → Enters
observing does c r x k = record { references = k.references; exits = k.exits; book = cond k.book.choice (does c x k.book) k.book }

-- charges are counted before the store enters it
unfoldable pub counted_before : MemoryUnit
counted_before = entering (observing (λ c x b. entered x (charged c x b)))

-- ---- charges

-- to the highest prefix among the paths that the store drops by their level 1 word
abbrev pub highest : Charges
highest c i (failed x) before hs = none
highest c i (granted p) before hs = first_of (λ p q. lower q p) (leaf_prefixes c (keep (reads_leaf c p.0 i) hs))

unfoldable pub to_the_highest : MemoryUnit
to_the_highest = charging highest

-- also for paths that the store's own fill dropped for want of tables
unfoldable pub charged_for_overflow : MemoryUnit
charged_for_overflow = charging (λ c i r before hs. charge_of c i r (hs ++ before))

-- device stores are charged too
abbrev pub device_charged : Config → ℕ → ℕ → ℕ → Machine → Book → Counted
device_charged c a w v m b = windowed c (charge_of c (word_of a) (device_walk c m a).result b.held) (book_step c (device a w v) m b)

unfoldable pub devices_charge : MemoryUnit
devices_charge = keeping (λ c. on_devices (device_charged c) (book_step c)) refusal

-- ---- automatic marks

-- did the charge x set one? Before it the prefix had none
abbrev pub has_set : Option (List ℕ) → Book → Bool
has_set x b = any (λ p. charged_to p x) b.automatic

abbrev pub costing : Option (List ℕ) → Counted → Counted
costing x k = record { references = k.references; exits = k.exits + one (has_set x k.book); book = k.book }

-- to set one costs the store an exit
unfoldable pub exit_for_a_mark : MemoryUnit
exit_for_a_mark = entering (λ c r x k. costing x (windowed c x k))

-- none leaves for a charged prefix
unfoldable pub never_leaves : MemoryUnit
never_leaves = entering (observing (λ c x b. cond (full c b) (entered x b) (charged c x (entered x b))))

-- ---- which one leaves: units that keep an order of their own, and bring the automatic marks into it after each call

-- the order after a call: by the one before it, and by the automatic marks that there are now, the newest first
abbrev pub Orders : Type 0
Orders = List (List ℕ) → List (List ℕ) → List (List ℕ)

abbrev pub in_this : List (List ℕ) → State → State
in_this order s = record {
  config = s.config;
  machine = s.machine;
  book = choosing s.book (keep (λ p. any (same p) s.book.automatic) order) s.book.window;
}

unfoldable pub order_step : Orders → Call → State × List (List ℕ) → Line × (State × List (List ℕ))
order_step orders x i =
    let o : Line × State = step x i.0 in
    let next : List (List ℕ) = orders i.1 o.1.book.automatic in
    (o.0, (in_this next o.1, next))

abbrev pub ordering : Orders → MemoryUnit
ordering orders = record {
  Inner = State × List (List ℕ);
  opens = λ m h s bits on. (opened (config_by (length m) h s bits) on m, []);
  call = order_step orders;
  area = λ i. i.0.machine.area;
}

abbrev pub our_order : Orders
our_order before ps = ps

-- those that an order does not have yet
abbrev pub new_to : List (List ℕ) → List (List ℕ) → List (List ℕ)
new_to before ps = keep (λ p. not (any (same p) before)) ps

-- of a tie the lowest address: the highest is kept in front
abbrev pub downward : List ℕ → List (List ℕ) → List (List ℕ)
downward p [] = p ∷ []
downward p (q ∷ qs) = cond (lower q p) (p ∷ q ∷ qs) (q ∷ downward p qs)

abbrev pub sorted : List (List ℕ) → List (List ℕ)
sorted [] = []
sorted (p ∷ ps) = downward p (sorted ps)

unfoldable pub lowest_leaves : MemoryUnit
lowest_leaves = ordering (λ before ps. sorted ps)

-- the newest: a new one is put behind the others
unfoldable pub newest_leaves : MemoryUnit
newest_leaves = ordering (λ before ps. keep (λ p. any (same p) ps) before ++ new_to before ps)

-- one that is set again has the age that it had: its place is not given up when it is cleared
unfoldable pub age_kept : MemoryUnit
age_kept = ordering (λ before ps. new_to before ps ++ before)

-- ---- the operator's marks among them. Set mark and clear mark are ours with what they know of automatic marks as an argument

-- refused with 6 for the marks of that list, and with 7 without room
unfoldable pub set_refused : (Book → List Mark) → (Config → Book → Bool) → Config → ℕ → ℕ → Machine → Book → Option ℕ
set_refused taken room c a n m b =
    first_failed ((address_fits c a, 4) ∷ (level_fits c n, 5) ∷ (not (is_set (mark_at c n (address_indexes c a)) (taken b)), 6) ∷ (room c b, 7) ∷ [])

-- refused with 6 for all but the marks of that list
unfoldable pub clear_refused : (Book → List Mark) → Config → ℕ → ℕ → Machine → Book → Option ℕ
clear_refused known c a n m b = first_failed ((address_fits c a, 4) ∷ (level_fits c n, 5) ∷ (is_set (mark_at c n (address_indexes c a)) (known b), 6) ∷ [])

-- 7 where the table is full, though an automatic mark could leave
unfoldable pub seven_too_early : MemoryUnit
seven_too_early = keeping book_step (λ c. on_sets (set_refused owned (λ c b. not (full c b)) c) (refusal c))

-- an automatic mark counts as set: 6
unfoldable pub automatic_is_set : MemoryUnit
automatic_is_set = keeping book_step (λ c. on_sets (set_refused (λ b. b.marks) room_for c) (refusal c))

-- the operator clears an automatic mark as any other
abbrev pub clearing : Mark → Book → Book
clearing x b = cond (is_automatic b.automatic x) (withdrawn x.prefix b) (unmarking x b)

unfoldable pub clears_automatic : MemoryUnit
clears_automatic =
    keeping (λ c. on_clears (λ a n m b. free (clearing (mark_at c n (address_indexes c a)) b)) (book_step c)) (λ c. on_clears (clear_refused (λ b. b.marks) c) (refusal c))
