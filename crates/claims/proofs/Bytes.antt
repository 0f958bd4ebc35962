-- A load yields its own bytes and a store alters its own bytes, after any run. Document 02, 4).
-- Assumes nothing.
use mathlib.Core.Path.{◌≡◌, refl, sym, ap, ap₂, ◌∙◌, subst}
use mathlib.Core.Logic.{◌⊎◌, inl, inr}
use Prim.Native.Nat.{ℕ, ◌+◌, ◌-◌, ◌*◌, ◌/◌, ◌%◌, ◌<◌, ◌≤◌}
use native.Mathlib.Omega.{arith}
use borrow.Author.Tests.{eqb-true, eqb-false}
use mathlib.Core.Bool.{Bool, true, false, ◌&&◌}
use mathlib.Core.List.{List}
use mathlib.Core.Option.{none, some}
use lib.Dec.{T, eqb}
use lib.ListN.{length, get_or, set, length-drop}
use lib.Seq.{get_or-set_same, get_or-set_other}
use Rattle.spec.specs.declared.Fault.{Fault}
use Rattle.spec.specs.declared.Answer.TheVariants as answer
use Rattle.spec.specs.Answer as say
use Rattle.spec.specs.Answer.{line}
use Rattle.spec.specs.Config.{Config, guest_base}
use Rattle.spec.specs.Entry.{word_of}
use Rattle.spec.specs.Bytes.{width_fits, aligned, bytes_at, with_bytes}
use Rattle.spec.specs.Walk.{Result, granted, failed}
use Rattle.spec.specs.Plain.{Place}
use Rattle.spec.specs.Machine.{Machine, place, word_in}
use Rattle.spec.specs.Bits.{bits_set}
use Rattle.spec.specs.Call.{Call, load, store, device, plain, verdict, device_walk, access}
use Rattle.spec.specs.Refusal.{address_fits, device_fits}
use Rattle.spec.specs.Run.{State, line_of, after, opened}
use Rattle.spec_laws.proofs.Bytes.{part_lt, width_inside, byte_got, byte_put, byte_kept}
use Rattle.spec_laws.proofs.Lists.{and_right}
use Rattle.spec_laws.proofs.Counts.{verdict_granted}
use Rattle.spec_laws.proofs.SetBits.{bits_more}
use Rattle.entry.proofs.Entries.{word_fits}
use Rattle.record.specs.declared.Record.{Record}
use Rattle.record.specs.Record.{config_of, config_by}
use Rattle.record.specs.Open.{refusal_of}
use Rattle.calls.specs.Calls.{call_of}
use Rattle.claims.specs.Run.{guest_area, run_of}
use Rattle.claims.specs.Plain.{Unrefused}
use Rattle.claims.proofs.Invariant.{Inv}
use Rattle.claims.proofs.Found.{rules}
use Rattle.claims.proofs.Requests.{page_in, device_in, load_step, store_step, device_step}
use Rattle.claims.proofs.Demands.{Beside, follows, after_run, run_config}
use Rattle.claims.proofs.Plain.{tests_passed, device_passed}
use Rattle.claims.specs.Bytes.{byte_of, byte_in, first_byte, Loads, Stores, store_at, store_comes_to, store_finds, GrantedAt}
use Rattle.spec_laws.proofs.Keeps.{InGuestArea}

-- ---- a word of a list of words

module _ (ws : List ℕ) (k a w : ℕ) (in_word : a % 8 + w ≤ 8) where
  -- byte j from the offset of a on in word k
  at_byte : (xs : List ℕ) (j : ℕ) → j < w → byte_in xs (8 * k + a % 8 + j) ≡ byte_of (get_or xs k 0) (a % 8 + j)
  at_byte xs j l =
      let q : (8 * k + a % 8 + j) / 8 ≡ k = omega arith in
      let e : (8 * k + a % 8 + j) % 8 ≡ a % 8 + j = omega arith in
      ap₂ (λ x y. byte_of (get_or xs x 0) y) q e

  loads : Loads ws (8 * k + a % 8) w (bytes_at a w (get_or ws k 0))
  unfolding bytes_at
  loads = record {
    each = λ j l. byte_got a w j (get_or ws k 0) l ∙ sym (at_byte ws j l);
    above = part_lt (8 * w) (8 * (a % 8)) (get_or ws k 0);
  }

  stores : (v : ℕ) → k < length ws → Stores ws (set ws k (with_bytes a w v (get_or ws k 0))) (8 * k + a % 8) w v
  stores v long = record { own = own; rest = λ b o. rest b o (eqb (b / 8) k) refl }
    where
      new : ℕ
      new = with_bytes a w v (get_or ws k 0)

      own : (j : ℕ) → j < w → byte_in (set ws k new) (8 * k + a % 8 + j) ≡ byte_of v j
      own j l = at_byte (set ws k new) j l ∙ ap (λ x. byte_of x (a % 8 + j)) (get_or-set_same ws k new 0 long) ∙ byte_put a w j v (get_or ws k 0) l

      beside : (b : ℕ) → b / 8 ≡ k → (b < 8 * k + a % 8) ⊎ (8 * k + a % 8 + w ≤ b) → (b % 8 < a % 8) ⊎ (a % 8 + w ≤ b % 8)
      beside b e (inl l) = inl (omega arith)
      beside b e (inr l) = inr (omega arith)

      rest : (b : ℕ) → (b < 8 * k + a % 8) ⊎ (8 * k + a % 8 + w ≤ b) → (x : Bool) → eqb (b / 8) k ≡ x → byte_in (set ws k new) b ≡ byte_in ws b
      rest b o true q =
          let e = eqb-true (b / 8) k q in
          ap (λ x. byte_of (get_or (set ws k new) x 0) (b % 8)) e
          ∙ ap (λ x. byte_of x (b % 8)) (get_or-set_same ws k new 0 long)
          ∙ byte_kept a w (b % 8) v (get_or ws k 0) (beside b e o)
          ∙ sym (ap (λ x. byte_of (get_or ws x 0) (b % 8)) e)
      rest b o false q = ap (λ x. byte_of x (b % 8)) (get_or-set_other ws k (b / 8) new 0 (eqb-false (b / 8) k q))

-- ---- one request, where the invariant holds

module _ (s : State) (r : Record) (m : List ℕ) (inv : Inv s r m) (beside : Beside s r) (a w : ℕ) where
  abbrev c : Config
  c = config_of r

  abbrev mach : Machine
  mach = s.machine

  first_is : (t : ℕ) → 8 * place c t (word_of a) + a % 8 ≡ first_byte c t a
  unfolding word_of
  first_is t = omega arith

  -- every word of a page is in the guest area, whatever bits are set there
  inside : (n : Machine) → length n.area ≡ length mach.area → (t : ℕ) → InGuestArea c t → place c t (word_of a) < length n.area
  inside n same t g =
      let e : length (guest_area r m) ≡ length m - 512 * guest_base c = length-drop (512 * guest_base c) m in
      let k : length (guest_area r m) ≡ length mach.area = ap length inv.area in
      omega (arith, e, k, same, g.0, g.1, (rules s r m inv).long, word_fits a)

  in_word : width_fits w ≡ true → (legal : Bool) → (legal && aligned a w) ≡ true → a % 8 + w ≤ 8
  in_word wide legal ok = width_inside a w (subst T (sym wide) tt) (and_right legal (aligned a w) (subst T (sym ok) tt))

  -- n: the machine with the request's bits
  loaded : a % 8 + w ≤ 8 → (n : Machine) (v k x i j : ℕ) (o : Result Fault Place) → say.value v k x ≡ line_of (access c mach n a w none o).0 i j
      → (l : List ℕ) → l ≡ (access c mach n a w none o).1.area → GrantedAt o (λ t. Loads l (first_byte c t a) w v)
  unfolding access
  loaded fit n v k x i j (failed y) l area q = let z : ◌≡◌ {A = ℕ} 0 1 = cc in absurd (omega arith)
  loaded fit n v k x i j (granted p) l area q =
      let e : bytes_at a w (word_in c n p.0 (word_of a)) ≡ v = cc in (
        p,
        refl,
        subst (λ xs. Loads xs (first_byte c p.0 a) w v) (sym q)
            (subst (λ f. Loads n.area f w v) (first_is p.0) (subst (Loads n.area (8 * place c p.0 (word_of a) + a % 8) w) e (loads n.area (place c p.0 (word_of a)) a w fit))),
      )

  written : a % 8 + w ≤ 8 → (n : Machine) → length n.area ≡ length mach.area → (v k x i j : ℕ) (o : Result Fault Place) → ((p : Place) → o ≡ granted p → InGuestArea c p.0)
      → say.done k x ≡ line_of (access c mach n a w (some v) o).0 i j → (l : List ℕ) → l ≡ (access c mach n a w (some v) o).1.area → GrantedAt o (λ t. Stores n.area l (first_byte c t a) w v)
  unfolding access
  written fit n same v k x i j (failed y) there l area e = let z : ◌≡◌ {A = ℕ} 0 1 = cc in absurd (omega arith)
  written fit n same v k x i j (granted p) there l area e = (
    p,
    refl,
    subst (λ xs. Stores n.area xs (first_byte c p.0 a) w v) (sym e)
        (subst (λ f. Stores n.area (set n.area (place c p.0 (word_of a)) (with_bytes a w v (word_in c n p.0 (word_of a)))) f w v) (first_is p.0)
        (stores n.area (place c p.0 (word_of a)) a w fit v (inside n same p.0 (there p refl)))),
  )

  load_bytes : (v k x : ℕ) → let e = call_of (load a w) r m in e.result.answer ≡ answer.Value v k x
      → GrantedAt (verdict c mach false a) (λ t. Loads (guest_area e.result.unit e.memory) (first_byte c t a) w v)
  load_bytes v k x e =
      let t = tests_passed s r m inv beside a w none (subst Unrefused (sym e) tt) in
      let f = follows (load a w) s r m inv beside in
      let stepped = load_step s r m inv beside.0 beside.1 a w t.0 t.1 in
      loaded (in_word t.0 (address_fits c a) t.1) (bits_set c false mach (plain c mach false a)) v k x _ _ (verdict c mach false a)
      (sym (ap line e) ∙ f.says ∙ ap (λ o. o.0) stepped) _ (f.next.area ∙ ap (λ o. o.1.machine.area) stepped)

  store_bytes : (d : Bool) (v k x : ℕ) → let e = call_of (store_at d a w v) r m in e.result.answer ≡ answer.Done k x
      → GrantedAt (store_comes_to d c mach a) (λ t. Stores (store_finds d c mach a) (guest_area e.result.unit e.memory) (first_byte c t a) w v)
  store_bytes false v k x e =
      let t = tests_passed s r m inv beside a w (some v) (subst Unrefused (sym e) tt) in
      let f = follows (store a w v) s r m inv beside in
      let stepped = store_step s r m inv beside.0 beside.1 a w v t.0 t.1 in
      written (in_word t.0 (address_fits c a) t.1) (bits_set c true mach (plain c mach true a)) (bits_more c true mach (plain c mach true a)).long v k x _ _ (verdict c mach true a)
      (λ p q. page_in s r m inv beside.0 beside.1 true a p (verdict_granted c mach true a p q))
      (sym (ap line e) ∙ f.says ∙ ap (λ o. o.0) stepped) _ (f.next.area ∙ ap (λ o. o.1.machine.area) stepped)
  store_bytes true v k x e =
      let t = device_passed s r m inv beside a w v (subst Unrefused (sym e) tt) in
      let f = follows (device a w v) s r m inv beside in
      let stepped = device_step s r m inv beside.0 beside.1 a w v t.0 t.1 in
      written (in_word t.0 (device_fits c a) t.1) mach refl v k x _ _ (device_walk c mach a).result (device_in s r m inv beside.0 beside.1 a w v t.1)
      (sym (ap line e) ∙ f.says ∙ ap (λ o. o.0) stepped) _ (f.next.area ∙ ap (λ o. o.1.machine.area) stepped)

-- ---- Document 02, 4). After a granted opening on any memory and any list of calls

-- a load that is granted yields its own bytes of the page that its walk comes to, the first lowest, and zeros above them; of the guest area
-- as the load leaves it, which with bits off is as it was
pub run_load_bytes : (m : List ℕ) (h s : ℕ) (bits on : Bool) (xs : List Call) → refusal_of (length m) h s bits ≡ 0 → (a w v k x : ℕ)
    → let u = run_of m h s bits on xs in
    let c = config_by (length m) h s bits in
    let mach = (after xs (opened c on m)).machine in
    let e = call_of (load a w) u.result.unit u.memory in
    e.result.answer ≡ answer.Value v k x → GrantedAt (verdict c mach false a) (λ t. Loads (guest_area e.result.unit e.memory) (first_byte c t a) w v)
run_load_bytes m h s bits on xs g a w v k x done =
    let u = run_of m h s bits on xs in
    let i = after_run m h s bits on xs g in
    let t = after xs (opened (config_by (length m) h s bits) on m) in
    let e = call_of (load a w) u.result.unit u.memory in
    subst (λ y. GrantedAt (verdict y t.machine false a) (λ f. Loads (guest_area e.result.unit e.memory) (first_byte y f a) w v)) (run_config m h s bits on xs g)
    (load_bytes t u.result.unit u.memory i.1 i.2 a w v k x done)

-- a store that is granted, a device's (d) too, leaves its own bytes there, and no other byte of the guest area that it finds is changed
pub run_store_bytes : (m : List ℕ) (h s : ℕ) (bits on : Bool) (xs : List Call) → refusal_of (length m) h s bits ≡ 0 → (d : Bool) (a w v k x : ℕ)
    → let u = run_of m h s bits on xs in
    let c = config_by (length m) h s bits in
    let mach = (after xs (opened c on m)).machine in
    let e = call_of (store_at d a w v) u.result.unit u.memory in
    e.result.answer ≡ answer.Done k x
    → GrantedAt (store_comes_to d c mach a) (λ t. Stores (store_finds d c mach a) (guest_area e.result.unit e.memory) (first_byte c t a) w v)
run_store_bytes m h s bits on xs g d a w v k x done =
    let u = run_of m h s bits on xs in
    let i = after_run m h s bits on xs g in
    let t = after xs (opened (config_by (length m) h s bits) on m) in
    let e = call_of (store_at d a w v) u.result.unit u.memory in
    subst (λ y. GrantedAt (store_comes_to d y t.machine a) (λ f. Stores (store_finds d y t.machine a) (guest_area e.result.unit e.memory) (first_byte y f a) w v)) (run_config m h s bits on xs g)
    (store_bytes t u.result.unit u.memory i.1 i.2 a w d v k x done)
