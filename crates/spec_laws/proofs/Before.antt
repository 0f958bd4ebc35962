-- With bits off, machine and book follow the rules that they had before document 02, 6). These stand here as they were, and every step is
-- the same then.
-- Assumes nothing.
use mathlib.Core.Path.{◌≡◌, refl, ap, ap₂, ◌∙◌}
use Prim.Native.Nat.{ℕ, ◌+◌, ◌-◌}
use mathlib.Core.Bool.{Bool, true, false, not, ◌&&◌, ◌||◌, cond}
use mathlib.Core.List.{List}
use mathlib.Core.Option.{Option, none, some}
use lib.Dec.{eqb, leb}
use Rattle.spec.specs.declared.Fault.{Fault}
use Rattle.spec.specs.Config.{Config}
use Rattle.spec.specs.Entry.{word_of}
use Rattle.spec.specs.Bytes.{bytes_at, with_bytes}
use Rattle.spec.specs.Prefix.{same, keep}
use Rattle.spec.specs.Walk.{World, Trace, Result, granted, failed, trace}
use Rattle.spec.specs.Plain.{Place, upper, shadow_part, direct_part}
use Rattle.spec.specs.Machine.{Machine, world, word_in, stored}
use Rattle.spec.specs.Bits.{owed, owes, judged, dirty_at, set_bits, bits_set}
use Rattle.spec.specs.Book.{Book, find, holding, fill}
use Rattle.spec.specs.Choice.{charge_of}
use Rattle.spec.specs.Call.{Call, root, map, unmap, set_mark, clear_mark, load, store, device, forecast, Outcome, done, value, fault, address_indexes, plain, verdict, device_walk, access, machine_step}
use Rattle.spec.specs.Count.{Counted, one, host_exit, is_granted, serves, held_by, late_exit, arrived, shadowed, unshadowed, request_depth, request, storing, windowed, book_step}

-- ---- the rules without bits

abbrev pub shadowed_before : Config → Machine → Book → Bool → ℕ → List ℕ → List ℕ → Bool → Trace Fault Place → Result Fault Place → Counted
shadowed_before c m b st d is p held s (failed x) = record { references = s.count; exits = one (not held); book = b }
shadowed_before c m b st d is p held s (granted r) =
    let t : Trace Fault Place = trace (world c m) (direct_part c st d r is) in
    record {
      references = (c.levels - d) + t.count;
      exits = one (not held) + host_exit t.result;
      book = cond held b (holding b (fill c (held_by p s r.1) b.held));
    }

abbrev pub unshadowed_before : Book → Trace Fault Place → Counted
unshadowed_before b r = record { references = r.count; exits = host_exit r.result; book = b }

unfoldable pub request_before : Config → Machine → Book → Bool → ℕ → ℕ → Counted
request_before c m b st a d =
    let is : List ℕ = address_indexes c a in
    let s : Trace Fault Place = trace (world c m) (shadow_part c st d m.root is) in
    cond (leb d c.levels)
    (shadowed_before c m b st d is (upper c d is) (serves st d (find (upper c d is) b.held)) s s.result)
    (unshadowed_before b (plain c m st a))

unfoldable pub book_before : Config → Call → Machine → Book → Counted
book_before c (root r) m b = book_step c (root r) m b
book_before c (map g f w) m b = book_step c (map g f w) m b
book_before c (unmap g) m b = book_step c (unmap g) m b
book_before c (set_mark a n) m b = book_step c (set_mark a n) m b
book_before c (clear_mark a n) m b = book_step c (clear_mark a n) m b
book_before c (load a w) m b = windowed c none (request_before c m b false a (request_depth c m b a))
book_before c (store a w v) m b =
    let r : Result Fault Place = (plain c m true a).result in
    let k : Counted = request_before c m b true a (request_depth c m b a) in
    windowed c (charge_of c (word_of a) r k.book.held) (storing (word_of a) r k)
book_before c (device a w v) m b =
    let r : Trace Fault Place = device_walk c m a in
    storing (word_of a) r.result (unshadowed_before b r)
book_before c (forecast xs) m b = book_step c (forecast xs) m b

unfoldable pub access_before : Config → Machine → ℕ → ℕ → Option ℕ → Result Fault Place → Outcome × Machine
access_before c m a w v (failed x) = (fault x, m)
access_before c m a w none (granted p) = (value (bytes_at a w (word_in c m p.0 (word_of a))), m)
access_before c m a w (some v) (granted p) = (done, stored c m p.0 (word_of a) (with_bytes a w v (word_in c m p.0 (word_of a))))

unfoldable pub machine_before : Config → Call → Machine → Outcome × Machine
machine_before c (root r) m = machine_step c (root r) m
machine_before c (map g f w) m = machine_step c (map g f w) m
machine_before c (unmap g) m = machine_step c (unmap g) m
machine_before c (set_mark a n) m = machine_step c (set_mark a n) m
machine_before c (clear_mark a n) m = machine_step c (clear_mark a n) m
machine_before c (load a w) m = access_before c m a w none (plain c m false a).result
machine_before c (store a w v) m = access_before c m a w (some v) (plain c m true a).result
machine_before c (device a w v) m = access_before c m a w (some v) (device_walk c m a).result
machine_before c (forecast xs) m = machine_step c (forecast xs) m

-- ---- the machine

pub off_owes : (c : Config) (w : World) (st : Bool) (r : Trace Fault Place) → c.bits ≡ false → owes c w st r ≡ none
unfolding owes
off_owes c w st r off = ap (λ b. cond b (owed w st c.levels r.reads r.uses) none) off

-- who owes nothing gets what the walk came to
pub judged_none : (x : Result Fault Place) → judged none x ≡ x
judged_none (failed x) = refl
judged_none (granted p) = refl

pub off_verdict : (c : Config) (m : Machine) (st : Bool) (a : ℕ) → c.bits ≡ false → verdict c m st a ≡ (plain c m st a).result
unfolding verdict
off_verdict c m st a off =
    ap (λ o. judged o (plain c m st a).result) (off_owes c (world c m) st (plain c m st a) off) ∙ judged_none (plain c m st a).result

pub off_bits : (c : Config) (st : Bool) (m : Machine) (r : Trace Fault Place) → c.bits ≡ false → bits_set c st m r ≡ m
unfolding bits_set
off_bits c st m r off = ap (λ b. cond b (set_bits c st m r.reads) m) off

off_access : (c : Config) (m : Machine) (a w : ℕ) (v : Option ℕ) (x : Result Fault Place) → access c m m a w v x ≡ access_before c m a w v x
unfolding access access_before
off_access c m a w v (failed x) = refl
off_access c m a w none (granted p) = refl
off_access c m a w (some v) (granted p) = refl

pub off_machine : (c : Config) (x : Call) (m : Machine) → c.bits ≡ false → machine_step c x m ≡ machine_before c x m
unfolding machine_step machine_before
off_machine c x m off = go x
  where
    asks : (st : Bool) (a w : ℕ) (v : Option ℕ)
        → access c m (bits_set c st m (plain c m st a)) a w v (verdict c m st a) ≡ access_before c m a w v (plain c m st a).result
    asks st a w v =
        ap₂ (λ n x. access c m n a w v x) (off_bits c st m (plain c m st a) off) (off_verdict c m st a off) ∙ off_access c m a w v (plain c m st a).result

    go : (x : Call) → machine_step c x m ≡ machine_before c x m
    go (root r) = refl
    go (map g f w) = refl
    go (unmap g) = refl
    go (set_mark a n) = refl
    go (clear_mark a n) = refl
    go (load a w) = asks false a w none
    go (store a w v) = asks true a w (some v)
    go (device a w v) = off_access c m a w (some v) (device_walk c m a).result
    go (forecast xs) = refl

-- ---- the book

pub late_none : (d : ℕ) (x : Result Fault Place) → late_exit d none x ≡ host_exit x
late_none d (failed x) = refl
late_none d (granted p) = refl

off_arrived : (c : Config) (m : Machine) (b : Book) (st : Bool) (d : ℕ) (is p : List ℕ) (held : Bool) (s : Trace Fault Place) (r : Place) → c.bits ≡ false
    → let t = trace (world c m) (direct_part c st d r is) in arrived c (world c m) b st d p held s r t none ≡ shadowed_before c m b st d is p held s (granted r)
off_arrived c m b st d is p held s r off i = record {
  references = cond (off i && not (is_granted (judged none t.result)) && (eqb d 0 || not held)) (s.count + t.count) ((c.levels - d) + t.count);
  exits = one (not held) + late_none d t.result i;
  book = cond (quits held i) b (holding b (fill c (held_by p s (right r.1 i)) (cond (off i) (keep (λ h. not (same p h.path)) b.held) b.held)));
}
  where
    t : Trace Fault Place
    t = trace (world c m) (direct_part c st d r is)

    quits : (h : Bool) → (h || (c.bits && not (is_granted (judged none t.result)))) ≡ h
    quits true = refl
    quits false = ap (λ x. x && not (is_granted (judged none t.result))) off

    right : (x : Bool) → (x && (not (c.bits && eqb d 0) || st || dirty_at (world c m) s.reads)) ≡ x
    right true = ap (λ x. not (x && eqb d 0) || st || dirty_at (world c m) s.reads) off
    right false = refl

off_shadowed : (c : Config) (m : Machine) (b : Book) (st : Bool) (d : ℕ) (is p : List ℕ) (held : Bool) (o : Option (ℕ × ℕ)) (s : Trace Fault Place) (x : Result Fault Place)
    → o ≡ none → c.bits ≡ false → shadowed c (world c m) b st d is p held o s x ≡ shadowed_before c m b st d is p held s x
off_shadowed c m b st d is p held o s (failed x) e off = refl
off_shadowed c m b st d is p held o s (granted r) e off =
    ap (arrived c (world c m) b st d p held s r (trace (world c m) (direct_part c st d r is))) e ∙ off_arrived c m b st d is p held s r off

pub off_request : (c : Config) (m : Machine) (b : Book) (st : Bool) (a d : ℕ) → c.bits ≡ false → request c m b st a d ≡ request_before c m b st a d
unfolding request request_before
off_request c m b st a d off =
    let is = address_indexes c a in
    let s : Trace Fault Place = trace (world c m) (shadow_part c st d m.root is) in
    ap₂ (cond (leb d c.levels))
    (off_shadowed c m b st d is (upper c d is) (serves st d (find (upper c d is) b.held)) (owes c (world c m) st (plain c m st a)) s s.result
    (off_owes c (world c m) st (plain c m st a) off) off)
    (ap (unshadowed b (plain c m st a).count) (off_verdict c m st a off))

pub off_book : (c : Config) (x : Call) (m : Machine) (b : Book) → c.bits ≡ false → book_step c x m b ≡ book_before c x m b
unfolding book_step book_before
off_book c (root r) m b off = refl
off_book c (map g f w) m b off = refl
off_book c (unmap g) m b off = refl
off_book c (set_mark a n) m b off = refl
off_book c (clear_mark a n) m b off = refl
off_book c (load a w) m b off = ap (windowed c none) (off_request c m b false a (request_depth c m b a) off)
off_book c (store a w v) m b off =
    ap₂ (λ r k. windowed c (charge_of c (word_of a) r k.book.held) (storing (word_of a) r k)) (off_verdict c m true a off)
    (off_request c m b true a (request_depth c m b a) off)
off_book c (device a w v) m b off = refl
off_book c (forecast xs) m b off = refl
