-- Our unit meets the demands, as they are stated of any unit; and so does every unit that says and leaves the same where machine and
-- book stand behind it.
-- Assumes nothing.
use mathlib.Core.Path.{◌≡◌, refl, sym, ap, ◌∙◌, subst}
use Prim.Native.Nat.{ℕ}
use mathlib.Core.Bool.{Bool, true, false, not, cond}
use mathlib.Core.List.{List, [], ◌∷◌}
use lib.Dec.{leb, ltb}
use lib.ListN.{length, replicate}
use Rattle.spec.specs.Answer.{Line, line}
use Rattle.spec.specs.Call.{Call, load, store, device, forecast}
use Rattle.spec.specs.Config.{Config}
use Rattle.spec.specs.Entry.{page_of, word_of}
use Rattle.spec.specs.Plain.{next}
use Rattle.spec.specs.Refusal.{forecast_room}
use Rattle.spec.specs.Run.{State, step, opened}
use Rattle.spec.specs.Serving.{exits_paid, all_paid}
use Rattle.spec_laws.proofs.Rules.{opened_rules}
use Rattle.words.specs.After.{After, yields}
use Rattle.layout.specs.declared.HostWalk.{HostWalk}
use Rattle.layout.specs.declared.HostWalk.TheVariants as host
use Rattle.entry.specs.declared.HostPhysical.{HostPhysical}
use Rattle.charge.specs.declared.Charge.{Charge}
use Rattle.charge.specs.declared.Charge.TheVariants as charge
use Rattle.walk.specs.declared.Walked.{Walked}
use Rattle.walk.specs.declared.Walked.TheVariants as walked
use Rattle.walk.specs.Memory.{walked_of, root_trail}
use Rattle.record.specs.declared.Record.{Record}
use Rattle.record.specs.Record.{config_of, config_by}
use Rattle.record.specs.Open.{granted_of}
use Rattle.translate.specs.declared.Held.{Held}
use Rattle.translate.specs.declared.Translated.{Translated}
use Rattle.translate.specs.Translate.{path_indexes, through_of, unshadowed_of, serves_of, found_of, arrived_of, missed_by, missed_of, found_by, translate_of}
use Rattle.request.specs.declared.Served.{Served}
use Rattle.request.specs.Access.{settled_of, bytes_in, load_from, load_of, store_by, store_from, device_by, device_of}
use Rattle.calls.specs.declared.Reply.{Reply}
use Rattle.forecast.specs.declared.Outlook.{Outlook}
use Rattle.forecast.specs.declared.Next.{Next}
use Rattle.forecast.specs.declared.Next.TheVariants.{Go, Damaged}
use Rattle.forecast.specs.Forecast.{address_of, onward, list_of, start, forecast_of}
use Rattle.calls.specs.Calls as calls
use Rattle.calls.specs.Calls.{host_top, held_of, root_of, keys_of, ended, judged, placed, refused, served_by, windowed_by, address_ok, lookup_at, request_depth, translated_of, charge_at, plain_store, stored_by, open_call, call_of, load_call, store_call, device_call, forecast_call}
use Rattle.claims.specs.Run.{guest_area, unit_run, unit_after, heard_unit}
use Rattle.claims.specs.Counted.{SameWords, SetsNone, counted_of, touched_of}
use Rattle.claims.proofs.Invariant.{Inv}
use Rattle.claims.proofs.Opens.{opened_inv, granted_call}
use Rattle.claims.proofs.Demands.{Beside, next as next-stands, opened_config, demand_3, choice_unseen}
use Rattle.claims.specs.Plain.{request_at, is_store, plain_walk, AsWalked, Unrefused}
use Rattle.claims.proofs.Plain.{demand_2}
use Rattle.claims.proofs.Counted.{run_counted_load}
use Rattle.claims.specs.Lookups.{LooksUp}
use Rattle.claims.proofs.Lookups.{run_lookup}
use Rattle.claims.proofs.Quiet.{quiet_day}
use Rattle.wrong_units.specs.Unit.{MemoryUnit, run_by, after_by, specified, Demand-3, Demand-2, QuietDay, ChoiceUnseen, Calls, told, unit_by, cangrieb, WordsCounted, Lookups}
use Rattle.wrong_units.specs.Wrong.{our_drops, store_as, or_charged, stored_as, store_doing, done_with, store_with, device_as, device_with, our_step, our_end, list_with, forecast_with}
use Rattle.wrong_units.specs.WrongBits.{our_sets, load_setting, done_setting, store_setting, Arrives, missed_as, missed_with, found_as, translate_with, load_arriving, arrive_by}

-- a table of calls that does what ours does on every record and memory that stand for a machine and a book
abbrev pub AsOurs : Calls → Type 0
AsOurs f = (s : State) (r : Record) (m : List ℕ) → Inv s r m → Beside s r → (x : Call) → told (f x r m) ≡ told (call_of x r m)

-- its runs are ours
pub same_run : (f : Calls) → AsOurs f → (xs : List Call) (s : State) (r : Record) (m : List ℕ) → s.config ≡ config_of r → Inv s r m → Beside s r → run_by (unit_by f) xs (r, m) ≡ unit_run xs r m
unfolding run_by unit_run
same_run f k [] s r m e i o = refl
same_run f k (x ∷ xs) s r m e i o =
    let n = next-stands x s r m e i o in
    let u = call_of x r m in
    ap (λ (o : Line × (Record × List ℕ)). (o.0, guest_area o.1.0 o.1.1) ∷ run_by (unit_by f) xs o.1) (k s r m i o x)
    ∙ ap (λ ys. (line u.result.answer, guest_area u.result.unit u.memory) ∷ ys)
    (same_run f k xs (step x s).1 u.result.unit u.memory n.0 n.1 n.2)

pub as_ours_demand_3 : (f : Calls) → AsOurs f → Demand-3 (unit_by f)
unfolding Demand-3
as_ours_demand_3 f k m h s bits on xs g =
    let c = config_by (length m) h s bits in
    let o = granted_of m h s bits on in
    ap (λ (e : After Reply). run_by (unit_by f) xs (e.result.unit, e.memory)) (granted_call m h s bits on g)
    ∙ same_run f k xs (opened c on m) o.result o.memory (sym (opened_config m h s bits on)) (opened_inv m h s bits on g) (tt, opened_rules (config_of o.result) on m)
    ∙ ap (λ (e : After Reply). unit_run xs e.result.unit e.memory) (sym (granted_call m h s bits on g))
    ∙ demand_3 m h s bits on xs g

-- our unit
pub cangrieb_demand_3 : Demand-3 cangrieb
cangrieb_demand_3 = as_ours_demand_3 call_of (λ s r m i o x. refl)

after_is : (xs : List Call) (r : Record) (m : List ℕ) (e : After Reply) → r ≡ e.result.unit → m ≡ e.memory
    → let u = unit_after xs r m e in after_by cangrieb xs (r, m) ≡ (u.result.unit, u.memory)
unfolding after_by unit_after
after_is [] r m e p q = λ i. (p i, q i)
after_is (x ∷ xs) r m e p q = after_is xs (call_of x r m).result.unit (call_of x r m).memory (call_of x r m) refl refl

run_is : (xs : List Call) (r : Record) (m : List ℕ) → run_by cangrieb xs (r, m) ≡ unit_run xs r m
unfolding run_by unit_run
run_is [] r m = refl
run_is (x ∷ xs) r m =
    let u = call_of x r m in
    ap (λ os. (line u.result.answer, guest_area u.result.unit u.memory) ∷ os) (run_is xs u.result.unit u.memory)

pub cangrieb_demand_2 : Demand-2 call_of
unfolding Demand-2
cangrieb_demand_2 m h s bits on xs g a w v =
    let o = open_call m h s bits on in
    subst Walks (sym (after_is xs o.result.unit o.memory o refl refl)) (demand_2 m h s bits on xs g a w v)
  where
    Walks : Record × List ℕ → Type 0
    Walks e = Unrefused (call_of (request_at a w v) e.0 e.1).result.answer → AsWalked e.0 e.1 a w v (call_of (request_at a w v) e.0 e.1) (plain_walk e.0 e.1 (is_store v) a)

pub cangrieb_words_counted : WordsCounted call_of
unfolding WordsCounted call_of
cangrieb_words_counted m h s bits on xs g a w k =
    let o = open_call m h s bits on in
    subst Same (sym (after_is xs o.result.unit o.memory o refl refl))
    (λ z n l c t. ap line (run_counted_load m h s bits on xs g a w k z n l c t).says)
  where
    Same : Record × List ℕ → Type 0
    Same e = SetsNone e.0 e.1 false a → (n : List ℕ) → length n ≡ length e.1 → SameWords e.1 n (counted_of e.0 e.1 false a) → SameWords e.1 n (touched_of e.0 e.1 false a)
        → line (load_call e.0 n a w).result.answer ≡ line (load_call e.0 e.1 a w).result.answer

pub cangrieb_lookups : Lookups lookup_at
unfolding Lookups
cangrieb_lookups m h s bits on xs g a =
    let o = open_call m h s bits on in
    subst Looks (sym (after_is xs o.result.unit o.memory o refl refl)) (run_lookup m h s bits on xs g a)
  where
    Looks : Record × List ℕ → Type 0
    Looks e = LooksUp (config_by (length m) h s bits) (specified m h s bits on xs).book e.0 a (lookup_at e.0 a)

pub cangrieb_quiet_day : QuietDay cangrieb
unfolding QuietDay
cangrieb_quiet_day m h s on xs ys g q =
    let o = open_call m h s false on in
    let u = unit_after xs o.result.unit o.memory o in
    ap (λ e. all_paid exits_paid (run_by cangrieb ys e)) (after_is xs o.result.unit o.memory o refl refl)
    ∙ ap (all_paid exits_paid) (run_is ys u.result.unit u.memory) ∙ quiet_day m h s on xs ys g q

pub cangrieb_choice_unseen : ChoiceUnseen cangrieb
unfolding ChoiceUnseen
cangrieb_choice_unseen m h s bits xs g = by true ∙ choice_unseen m h s bits xs g ∙ sym (by false)
  where
    by : (on : Bool) → let o = open_call m h s bits on in heard_unit (run_by cangrieb xs (o.result.unit, o.memory)) ≡ heard_unit (unit_run xs o.result.unit o.memory)
    by on = let o = open_call m h s bits on in ap heard_unit (run_is xs o.result.unit o.memory)

-- so it is with every unit that meets demand 3
pub demand_3_unseen : (u : MemoryUnit) → Demand-3 u → ChoiceUnseen u
unfolding Demand-3 ChoiceUnseen
demand_3_unseen u d m h s bits xs g = by true ∙ cangrieb_choice_unseen m h s bits xs g ∙ sym (by false)
  where
    by : (on : Bool) → heard_unit (run_by u xs (u.opens m h s bits on)) ≡ heard_unit (run_by cangrieb xs (cangrieb.opens m h s bits on))
    by on = ap heard_unit (d m h s bits on xs g ∙ sym (cangrieb_demand_3 m h s bits on xs g))

-- ---- the calls of specs/Wrong.antt that take an argument for what is changed are ours with our own argument

store_as_ours : (c : Config) (h : Held) (a w v : ℕ) (set : List ℕ → List ℕ) (o : After Translated) (y : Walked)
    → store_as our_drops bytes_in c h a w v set o y ≡ store_by c h a w v set o y
store_as_ours c h a w v set o (walked.Arrived y t n) = refl
store_as_ours c h a w v set o (walked.Faulted x n) = refl
store_as_ours c h a w v set o walked.Damaged = refl

or_charged_ours : (r : Record) (a w v : ℕ) (o : After Translated) (t : HostPhysical) (n : ℕ) (x : Charge)
    → or_charged r a w v o t n (plain_store r a w v o) x ≡ calls.store_by r a w v o t n x
or_charged_ours r a w v o t n charge.Nobody = refl
or_charged_ours r a w v o t n (charge.To p) = refl
or_charged_ours r a w v o t n charge.Damaged = refl

stored_as_ours : (r : Record) (a w v : ℕ) (o : After Translated) (y : Walked) → stored_as r a w v o (plain_store r a w v o) y ≡ stored_by r a w v o y
stored_as_ours r a w v o (walked.Arrived y t n) = or_charged_ours r a w v o t n (charge_at r o.result.held o.memory t.0 (word_of a))
stored_as_ours r a w v o (walked.Faulted x n) = refl
stored_as_ours r a w v o walked.Damaged = refl

-- a store that does what ours does once it is translated
store_doing_ours : (does : Record → ℕ → ℕ → ℕ → After Translated → After Served) (r : Record) (m : List ℕ) (a w v : ℕ)
    → does r a w v (translated_of r m true a) ≡ store_from (config_of r) (host_top r) (root_of r) (held_of r) a w v (translated_of r m true a)
    → store_doing does a w v r m ≡ call_of (store a w v) r m
unfolding call_of store_call
store_doing_ours does r m a w v e =
    let o = translated_of r m true a in
    ap (placed r m w (address_ok false (config_of r) a w))
    (ap (λ s. stored_as r a w v o (windowed_by r s) o.result.walked) e ∙ stored_as_ours r a w v o o.result.walked)

pub store_with_ours : (r : Record) (m : List ℕ) (a w v : ℕ) → store_with our_drops bytes_in a w v r m ≡ call_of (store a w v) r m
unfolding store_with
store_with_ours r m a w v =
    let o = translated_of r m true a in
    store_doing_ours (done_with our_drops bytes_in) r m a w v
    (store_as_ours (config_of r) (held_of r) a w v (settled_of (config_of r) (host_top r) (root_of r) true a o.result.sets) o o.result.walked)

device_as_ours : (c : Config) (m : List ℕ) (h : Held) (a w v : ℕ) (y : Walked) → device_as our_drops bytes_in c m h a w v y ≡ device_by c m h a w v y
device_as_ours c m h a w v (walked.Arrived y t n) = refl
device_as_ours c m h a w v (walked.Faulted x n) = refl
device_as_ours c m h a w v walked.Damaged = refl

pub device_with_ours : (r : Record) (m : List ℕ) (a w v : ℕ) → device_with our_drops bytes_in a w v r m ≡ call_of (device a w v) r m
unfolding device_with call_of device_call device_of
device_with_ours r m a w v =
    ap (λ s. placed r m w (address_ok true (config_of r) a w) (served_by r s))
    (device_as_ours (config_of r) m (held_of r) a w v (walked_of (config_of r) (host_top r) m 0 (next true true (page_of a) true)))

list_as_ours : (r : Record) (m ks : List ℕ) (o : Outlook) (xs : List ℕ)
    → list_with our_step our_end r m ks o xs ≡ list_of (config_of r) (host_top r) m (held_of r) (root_of r) (keys_of r) ks o xs
unfolding list_with list_of our_step our_end
list_as_ours r m ks o [] = refl
list_as_ours r m ks o (a ∷ xs) = go n.result (λ u. list_as_ours r m n.memory u xs)
  where
    n : After Next
    n = address_of (config_of r) (host_top r) m (held_of r) (root_of r) (keys_of r) ks o a

    go : (x : Next) → ((u : Outlook) → list_with our_step our_end r m n.memory u xs ≡ list_of (config_of r) (host_top r) m (held_of r) (root_of r) (keys_of r) n.memory u xs)
        → onward x (λ u. list_with our_step our_end r m n.memory u xs) ≡ onward x (λ u. list_of (config_of r) (host_top r) m (held_of r) (root_of r) (keys_of r) n.memory u xs)
    go (Go u) ih = ih u
    go Damaged ih = refl

pub forecast_with_ours : (r : Record) (m xs : List ℕ) → forecast_with our_step our_end xs r m ≡ call_of (forecast xs) r m
unfolding forecast_with call_of forecast_call forecast_of
forecast_with_ours r m xs =
    ap (λ x. judged r m (cond (not (config_of r).bits) (cond (leb (length xs) forecast_room) (ended r x m) (refused r 14 m)) (refused r 16 m)))
    (list_as_ours r m (replicate forecast_room 0) (start r.pools.shadow.used) xs)

-- ---- and so are those of specs/WrongBits.antt

pub load_setting_ours : (r : Record) (m : List ℕ) (a w : ℕ) → load_setting our_sets a w r m ≡ call_of (load a w) r m
unfolding load_setting call_of load_call load_of translated_of
load_setting_ours r m a w = refl

pub store_setting_ours : (r : Record) (m : List ℕ) (a w v : ℕ) → store_setting our_sets a w v r m ≡ call_of (store a w v) r m
unfolding store_setting
store_setting_ours r m a w v = store_doing_ours (done_setting our_sets) r m a w v refl

-- our verdicts, as they are
abbrev ours : Arrives
ours = arrive_by (λ lets r v. v)

missed_as_ours : (c : Config) (ht : ℕ) (m : List ℕ) (h : Held) (root : ℕ) (st : Bool) (a d : ℕ) (gs : List ℕ) (x : Walked)
    → missed_as ours c ht m h root st a d gs x ≡ missed_by c ht m h root st a d gs x
unfolding arrive_by arrived_of
missed_as_ours c ht m h root st a d gs (walked.Arrived w t n) = refl
missed_as_ours c ht m h root st a d gs (walked.Faulted x n) = refl
missed_as_ours c ht m h root st a d gs walked.Damaged = refl

missed_with_ours : (c : Config) (ht : ℕ) (m : List ℕ) (h : Held) (root : ℕ) (st : Bool) (a d : ℕ) → missed_with ours c ht m h root st a d ≡ missed_of c ht m h root st a d
unfolding missed_of
missed_with_ours c ht m h root st a d = let r = root_trail c ht m st root (path_indexes c d a) in missed_as_ours c ht m h root st a d r.tables r.walked

found_as_ours : (c : Config) (ht : ℕ) (m : List ℕ) (h : Held) (root : ℕ) (st : Bool) (a d : ℕ) (x : HostWalk)
    → found_as ours c ht m h root st a d x ≡ found_by c ht m h root st a d x
found_as_ours c ht m h root st a d (host.Found t w) = ap (cond (serves_of st d w) (yields (through_of c ht m h root st a d t.0 w) m)) (missed_with_ours c ht m h root st a d)
found_as_ours c ht m h root st a d (host.Absent n) = missed_with_ours c ht m h root st a d
found_as_ours c ht m h root st a d host.Damaged = refl

translate_with_ours : (c : Config) (ht : ℕ) (m : List ℕ) (h : Held) (root : ℕ) (st : Bool) (a d : ℕ) → translate_with ours c ht m h root st a d ≡ translate_of c ht m h root st a d
unfolding translate_of
translate_with_ours c ht m h root st a d = ap (cond (ltb c.levels d) (yields (unshadowed_of c ht m h root st a d) m)) (found_as_ours c ht m h root st a d (found_of c m h a d))

pub load_arriving_ours : (r : Record) (m : List ℕ) (a w : ℕ) → load_arriving ours a w r m ≡ call_of (load a w) r m
unfolding load_arriving call_of load_call load_of
load_arriving_ours r m a w =
    ap (λ (o : After Translated). placed r m w (address_ok false (config_of r) a w) (windowed_by r (load_from (config_of r) (host_top r) (root_of r) (held_of r) a w o)))
    (translate_with_ours (config_of r) (host_top r) m (held_of r) (root_of r) false a (request_depth r m a))
