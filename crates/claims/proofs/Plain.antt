-- Demand 2: after any run, a load or a store that is not refused comes to what the plain two-level walk over that very memory
-- comes to: the same bytes, or the same fault.
-- Assumes nothing.
use mathlib.Core.Path.{◌≡◌, refl, sym, ap, ap₂, ◌∙◌, subst}
use Prim.Native.Nat.{ℕ, suc, ◌+◌, ◌*◌, ◌≤◌}
use native.Mathlib.Omega.{arith}
use mathlib.Core.Bool.{Bool, true, false, cond}
use mathlib.Core.List.{List}
use mathlib.Core.Option.{Option, none, some}
use lib.ListN.{length, drop, set}
use Rattle.spec.specs.declared.Fault.{Fault}
use Rattle.spec.specs.Answer as say
use Rattle.spec.specs.Answer.{Line, line}
use Rattle.spec.specs.Config.{Config, guest_base}
use Rattle.spec.specs.Entry.{word_of, page_of}
use Rattle.spec.specs.Bytes.{width_fits, bytes_at, with_bytes}
use Rattle.spec.specs.Walk.{World, Trace, Result, granted, failed, trace}
use Rattle.spec.specs.Plain.{Place}
use Rattle.spec.specs.Machine.{Machine, world, place, word_in}
use Rattle.spec.specs.Bits.{owes, judged, bits_set}
use Rattle.spec.specs.Call.{Call, device, address_indexes, plain, verdict, access}
use Rattle.spec.specs.Count.{Counted, granted_reads, request_depth, request, storing}
use Rattle.spec.specs.Run.{State, line_of, step, after, opened}
use Rattle.spec_laws.proofs.Counts.{EachReal, request_count, verdict_granted, granted_most}
use Rattle.spec_laws.proofs.Large.{walk_most}
use Rattle.spec_laws.proofs.Asks.{AnswerIn}
use Rattle.spec_laws.proofs.Indexes.{indexes_length}
use Rattle.spec_laws.proofs.Before.{off_bits}
use Rattle.spec_laws.proofs.Keeps.{InGuestArea, area_real, plain_in, depth_real}
use Rattle.words.specs.Words as words
use Rattle.walk.specs.Memory.{memory_world, walked_of}
use Rattle.translate.specs.Translate.{whole}
use Rattle.walk.proofs.Stands.{plain_walked}
use Rattle.record.specs.declared.Record.{Record}
use Rattle.record.specs.Record.{config_of, config_by, head_tables}
use Rattle.record.specs.Open.{refusal_of}
use Rattle.calls.specs.Calls.{host_top, held_of, root_of, head_held, refused, admitted, placed, address_ok, request_depth as callDepth, load_call, store_call, device_call, call_of}
use Rattle.claims.specs.Plain.{request_at, is_store, judged_walk, plain_walk, with_own, reads_of, reads_on, Granted, Faulted, AsWalked, Unrefused}
use Rattle.claims.specs.Run.{guest_area, run_of}
use Rattle.claims.proofs.Invariant.{Inv, at}
use Rattle.claims.proofs.Found.{memory_stands, root_small}
use Rattle.claims.proofs.Depths.{depth_is}
use Rattle.claims.proofs.Requests.{load_step, store_step, settles, same_bitted}
use Rattle.claims.proofs.Moves.{at_inv}
use Rattle.claims.proofs.Bits.{whole_trace, whole_owed, whole_walked}
use Rattle.claims.proofs.Demands.{Beside, follows, after_run}
use Rattle.words.specs.After.{After}
use Rattle.calls.specs.declared.Reply.{Reply}

module _ (s : State) (r : Record) (m : List ℕ) (inv : Inv s r m) (beside : Beside s r) where
  abbrev c : Config
  c = config_of r

  abbrev mach : Machine
  mach = s.machine

  -- over memory it is the machine's verdict
  plain_is : (st : Bool) (a : ℕ) → plain_walk r m st a ≡ plain_walked (verdict c mach st a) (plain c mach st a).count
  unfolding verdict owes
  plain_is st a =
      ap (λ x. judged_walk (owes c v st (trace v (whole c st x a))) (walked_of c (host_top r) m 0 (whole c st x a))) inv.root
      ∙ ap₂ judged_walk (ap (λ o. cond c.bits o none) (whole_owed c mach (host_top r) m (memory_stands s r m inv) (root_small s r m inv) st a)) (whole_walked c mach (host_top r) m (memory_stands s r m inv) (root_small s r m inv) st a)
      ∙ go (owes c (world c mach) st (plain c mach st a)) (plain c mach st a).result
    where
      v : World
      v = memory_world c (host_top r) m

      go : (o : Option (ℕ × ℕ)) (x : Result Fault Place) → judged_walk o (plain_walked x (plain c mach st a).count) ≡ plain_walked (judged o x) (plain c mach st a).count
      go none (granted p) = refl
      go none (failed x) = refl
      go (some o) (granted p) = refl
      go (some o) (failed x) = refl

  -- the guest entries on the way
  entries_is : (st : Bool) (a : ℕ) → (trace (memory_world c (host_top r) m) (whole c st (root_of r) a)).reads ≡ (plain c mach st a).reads
  entries_is st a =
      ap (λ x. (trace (memory_world c (host_top r) m) (whole c st x a)).reads) inv.root
      ∙ ap (λ (x : Trace Fault Place). x.reads) (whole_trace c mach (host_top r) m (memory_stands s r m inv) (root_small s r m inv) st a)

  -- so the count is that of machine and book
  pub reads_on_lem : (st : Bool) (a : ℕ) → reads_of r m st a ≡ reads_on c s st a
  reads_on_lem st a = ap₂ (λ d xs. granted_reads c d (length xs)) (depth_is s r m inv a) (entries_is st a)

  module _ (a w : ℕ) (wide : width_fits w ≡ true) (ok : address_ok false c a w ≡ true) where
    -- the book's count before a word is stored
    abbrev cost : Bool → Counted
    cost st = request c mach s.book st a (request_depth c mach s.book a)

    real : EachReal (world c mach) c
    unfolding world
    real g p e = area_real c p.0 (subst (AnswerIn (InGuestArea c)) e ((memory_stands s r m inv).inside g))

    reads : (st : Bool) (p : Place) → verdict c mach st a ≡ granted p → (cost st).references ≡ reads_of r m st a
    reads st p e =
        request_count c mach s.book st a (request_depth c mach s.book a) p real
        (area_real c p.0 (plain_in c mach st a p (memory_stands s r m inv).inside (root_small s r m inv) (verdict_granted c mach st a p e)))
        (λ q z. depth_real c mach a _ (memory_stands s r m inv).inside (root_small s r m inv) st q z) e
        ∙ sym (reads_on_lem st a)

    few : (st : Bool) (p : Place) → verdict c mach st a ≡ granted p → reads_of r m st a ≤ c.levels + c.levels * suc c.levels
    unfolding plain
    few st p e =
        let most = walk_most (world c mach) c st mach.root (address_indexes c a) p (verdict_granted c mach st a p e) in
        granted_most c (callDepth r m a) (length (trace (memory_world c (host_top r) m) (whole c st (root_of r) a)).reads)
        (omega (arith, ap length (entries_is st a), most, indexes_length c.levels (page_of a)))

    -- the specification's step, by the walk's result
    abbrev step_by : Option ℕ → Result Fault Place → Line × List ℕ
    step_by none x = let o = access c mach (bits_set c false mach (plain c mach false a)) a w none x in (line_of o.0 (cost false).references (cost false).exits, o.1.area)
    step_by (some v) x =
        let o = access c mach (bits_set c true mach (plain c mach true a)) a w (some v) x in
        let k = storing (word_of a) x (cost true) in
        (line_of o.0 k.references k.exits, o.1.area)

    step_is : (v : Option ℕ) → let o = step (request_at a w v) (at c s) in (o.0, o.1.machine.area) ≡ step_by v (verdict c mach (is_store v) a)
    step_is none = ap (λ o. (o.0, o.1.machine.area)) (load_step s r m inv beside.0 beside.1 a w wide ok)
    step_is (some v) = ap (λ o. (o.0, o.1.machine.area)) (store_step s r m inv beside.0 beside.1 a w v wide ok)

    -- a load or store leaves the configuration
    config_is : (v : Option ℕ) → (step (request_at a w v) (at c s)).1.config ≡ c
    config_is none = ap (λ o. o.1.config) (load_step s r m inv beside.0 beside.1 a w wide ok)
    config_is (some v) = ap (λ o. o.1.config) (store_step s r m inv beside.0 beside.1 a w v wide ok)

    -- and what the unit does
    does : (v : Option ℕ) (x : Result Fault Place) → verdict c mach (is_store v) a ≡ x
        → let e = call_of (request_at a w v) r m in (line e.result.answer, guest_area r e.memory) ≡ step_by v x
    does v x q =
        let f = follows (request_at a w v) s r m inv beside in
        let e = call_of (request_at a w v) r m in
        ap₂ (λ l g. (l, g)) f.says (ap (λ k. drop (512 * guest_base k) e.memory) (sym (f.config ∙ config_is v)) ∙ f.next.area)
        ∙ step_is v ∙ ap (step_by v) q

    -- on the memory with its bits, which stands for the machine that has them
    with_bits_lem : (st : Bool) (p : Place) (q : verdict c mach st a ≡ granted p)
        → (guest_area r (with_own r m st a) ≡ (bits_set c st mach (plain c mach st a)).area)
        × (words.word_in (with_own r m st a) p.0 (word_of a) ≡ word_in c (bits_set c st mach (plain c mach st a)) p.0 (word_of a))
    unfolding head_held head_tables
    with_bits_lem st p q =
        let i = settles s r m inv beside.0 beside.1 st a p q c.bits (λ off. off_bits c st mach (plain c mach st a) off) (λ on. on) s.book (held_of r) m (at_inv inv) in
        (i.area, same_bitted s r m inv beside.0 beside.1 st a p q s.book (held_of r) (with_own r m st a) i)

    granted_by_lem : (v : Option ℕ) (p : Place) → verdict c mach (is_store v) a ≡ granted p → Granted r m a w v (call_of (request_at a w v) r m) p.0
    unfolding access storing
    granted_by_lem none p q =
        let d = does none (granted p) q in
        let e = with_bits_lem false p q in
        record {
          exits = (cost false).exits;
          says = ap (λ o. o.0) d ∙ ap₂ (λ x n. say.value (bytes_at a w x) n (cost false).exits) (sym e.1) (reads false p q);
          most = few false p q;
          area = ap (λ o. o.1) d ∙ sym e.0;
        }
    granted_by_lem (some v) p q =
        let d = does (some v) (granted p) q in
        let x = (storing (word_of a) (granted p) (cost true)).exits in
        let e = with_bits_lem true p q in
        record {
          exits = x;
          says = ap (λ o. o.0) d ∙ ap (λ n. say.done n x) (reads true p q);
          most = few true p q;
          area = ap (λ o. o.1) d ∙ ap₂ (λ xs y. set xs (place c p.0 (word_of a)) (with_bytes a w v y)) (sym e.0) (sym e.1);
        }

    faulted_by : (v : Option ℕ) (y : Fault) → verdict c mach (is_store v) a ≡ failed y → Faulted r m (call_of (request_at a w v) r m) y
    unfolding access storing
    faulted_by none y q =
        let d = does none (failed y) q in
        record { references = (cost false).references; exits = (cost false).exits; says = ap (λ o. o.0) d; area = ap (λ o. o.1) d ∙ sym inv.area }
    faulted_by (some v) y q =
        let d = does (some v) (failed y) q in
        record { references = (cost true).references; exits = (cost true).exits; says = ap (λ o. o.0) d; area = ap (λ o. o.1) d ∙ sym inv.area }

    fits_walked : (v : Option ℕ) → AsWalked r m a w v (call_of (request_at a w v) r m) (plain_walk r m (is_store v) a)
    fits_walked v = subst (AsWalked r m a w v (call_of (request_at a w v) r m)) (sym (plain_is (is_store v) a)) (go (verdict c mach (is_store v) a) refl)
      where
        go : (x : Result Fault Place) → verdict c mach (is_store v) a ≡ x
            → AsWalked r m a w v (call_of (request_at a w v) r m) (plain_walked x (plain c mach (is_store v) a).count)
        go (granted p) q = granted_by_lem v p q
        go (failed y) q = faulted_by v y q

  -- a request that is not refused has a width, and an address of so many bytes
  passed : (w : ℕ) (ok : Bool) (y : After Reply) → Unrefused (placed r m w ok y).result.answer → (width_fits w ≡ true) × (ok ≡ true)
  passed w ok y u = go (width_fits w) ok refl refl (subst (λ b. Unrefused (cond b (admitted (width_fits w) ok r m y) (refused r 3 m)).result.answer) inv.fits u)
    where
      go : (d b : Bool) → width_fits w ≡ d → ok ≡ b → Unrefused (admitted d b r m y).result.answer → (width_fits w ≡ true) × (ok ≡ true)
      go true true p q u = (p, q)
      go true false p q u = absurd u
      go false b p q u = absurd u

  pub tests_passed : (a w : ℕ) (v : Option ℕ) → Unrefused (call_of (request_at a w v) r m).result.answer → (width_fits w ≡ true) × (address_ok false c a w ≡ true)
  unfolding call_of load_call store_call
  tests_passed a w none u = passed w (address_ok false c a w) _ u
  tests_passed a w (some v) u = passed w (address_ok false c a w) _ u

  pub device_passed : (a w v : ℕ) → Unrefused (call_of (device a w v) r m).result.answer → (width_fits w ≡ true) × (address_ok true c a w ≡ true)
  unfolding call_of device_call
  device_passed a w v u = passed w (address_ok true c a w) _ u

  pub as_walked : (a w : ℕ) (v : Option ℕ) → Unrefused (call_of (request_at a w v) r m).result.answer → AsWalked r m a w v (call_of (request_at a w v) r m) (plain_walk r m (is_store v) a)
  as_walked a w v u = let t = tests_passed a w v u in fits_walked a w t.0 t.1 v

-- ---- Demand 2. After an opening and any calls, a load or store that is not refused is granted exactly where the plain walk over
-- that memory is granted, and touches its bytes where this walk comes to; else it says the fault that the walk meets

pub demand_2 : (m : List ℕ) (h s : ℕ) (bits on : Bool) (xs : List Call) → refusal_of (length m) h s bits ≡ 0 → (a w : ℕ) (v : Option ℕ)
    → let u = run_of m h s bits on xs in
    let r = u.result.unit in
    let n = u.memory in
    let e = call_of (request_at a w v) r n in
    Unrefused e.result.answer → AsWalked r n a w v e (plain_walk r n (is_store v) a)
demand_2 m h s bits on xs g a w v =
    let u = run_of m h s bits on xs in
    as_walked (after xs (opened (config_by (length m) h s bits) on m)) u.result.unit u.memory (after_run m h s bits on xs g).1 (after_run m h s bits on xs g).2 a w v
