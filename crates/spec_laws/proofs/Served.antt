-- A request that a held path serves: the entries of its shadow part lack no bit, so it rests on the held path and its direct part. Where that
-- lacks none either, the request comes to what the direct part comes to, and sets nothing.
-- Assumes nothing.
use mathlib.Core.Path.{◌≡◌, refl, sym, ap, ap₂, ◌∙◌, subst}
use Prim.Native.Nat.{ℕ, zero, suc, pred, ◌+◌, ◌-◌, ◌<◌, ◌≤◌}
use native.Mathlib.Nat.{zero-add}
use native.Mathlib.Omega.{arith}
use mathlib.Core.Bool.{Bool, true, false, not, ◌&&◌, ◌||◌, cond, and-true, and-false, true≢false}
use mathlib.Core.List.{List, [], ◌∷◌, ◌++◌, append-nil}
use mathlib.Core.Option.{Option, none, some}
use borrow.Author.Tests.{eqb-true, le-leb}
use lib.Dec.{eqb, eqb-suc-zero}
use lib.ListN.{length, drop}
use Rattle.spec.specs.declared.Fault.{Fault}
use Rattle.spec.specs.Config.{Config}
use Rattle.spec.specs.Entry.{writable, accessed, dirty, page_of}
use Rattle.spec.specs.Prefix.{All}
use Rattle.spec.specs.Walk.{Walk, ◌>>=◌, World, Trace, Result, granted, failed, trace}
use Rattle.spec.specs.Plain.{Place, is_span, entry, entry_lead, span_lead, onward, turn, levels, upper}
use Rattle.spec.specs.Machine.{Machine, world}
use Rattle.spec.specs.Bits.{has_bits, is_last, lacks, may_write, owed, owes, judged, dirty_at, bits_set}
use Rattle.spec.specs.Book.{Held, Book, find}
use Rattle.spec.specs.Call.{address_indexes, plain, verdict}
use Rattle.spec.specs.Count.{one, host_exit, is_granted, serves, late_exit, shadowed, unshadowed, request}
use Rattle.spec_laws.proofs.Lists.{by_cases, and_first, and_second}
use Rattle.spec_laws.proofs.Indexes.{indexes_length}
use Rattle.spec_laws.proofs.Local.{Seen}
use Rattle.spec_laws.proofs.Bind.{more}
use Rattle.spec_laws.proofs.Granted.{granted_is, ran}
use Rattle.spec_laws.proofs.Large.{walk_real}
use Rattle.spec_laws.proofs.Parts.{direct_trace}
use Rattle.spec_laws.proofs.Counts.{shadow_of, direct_of, lower_long}
use Rattle.spec_laws.proofs.Before.{judged_none, off_owes, off_bits}
use Rattle.spec_laws.proofs.Keeps.{again, booked, as_seen, sees, Valid, upper_long}
use Rattle.spec_laws.proofs.SetBits.{lacks_none, lacks_owes, lacks_bits}
use Rattle.spec_laws.proofs.Covered.{Covered}

-- ---- entries, and others after them

module _ (w : World) (st : Bool) where
  -- each entry has bit 5
  abbrev pub Accessed : List (ℕ × ℕ) → Type 0
  Accessed xs = All (λ x. accessed (w.word_at x.0 x.1) ≡ true) xs

  -- then it has all that it needs where another comes after it
  above_has : (x : ℕ × ℕ) (xs : List (ℕ × ℕ)) (y : ℕ × ℕ) (ys : List (ℕ × ℕ)) → accessed (w.word_at x.0 x.1) ≡ true
      → has_bits (st && is_last (xs ++ (y ∷ ys))) (w.word_at x.0 x.1) ≡ true
  above_has x xs y ys e =
      ap₂ (λ a b. a && (not b || dirty (w.word_at x.0 x.1))) e (ap (λ b. st && b) (not_last xs) ∙ and-false st)
    where
      not_last : (zs : List (ℕ × ℕ)) → is_last (zs ++ (y ∷ ys)) ≡ false
      not_last [] = refl
      not_last (z ∷ zs) = refl

  lacks_append : (xs : List (ℕ × ℕ)) (y : ℕ × ℕ) (ys : List (ℕ × ℕ)) → Accessed xs → lacks w st (xs ++ (y ∷ ys)) ≡ lacks w st (y ∷ ys)
  unfolding lacks
  lacks_append [] y ys a = refl
  lacks_append (x ∷ xs) y ys a = ap (λ b. not b || lacks w st (xs ++ (y ∷ ys))) (above_has x xs y ys a.0) ∙ lacks_append xs y ys a.1

  pub owed_level : (n : ℕ) (xs : List (ℕ × ℕ)) (gs : List ℕ) (o : ℕ × ℕ) → owed w st n xs gs ≡ some o → o.0 ≤ n
  unfolding owed
  owed_level n [] gs o e = let z : ◌≡◌ {A = ℕ} 0 1 = cc in absurd (omega arith)
  owed_level n (x ∷ xs) [] o e = let z : ◌≡◌ {A = ℕ} 0 1 = cc in absurd (omega arith)
  owed_level n (x ∷ xs) (g ∷ gs) o e = go (has_bits (st && is_last xs) (w.word_at x.0 x.1) || may_write (w.host_at g)) e (owed_level (pred n) xs gs o)
    where
      go : (b : Bool) → cond b (owed w st (pred n) xs gs) (some (n, g)) ≡ some o → (owed w st (pred n) xs gs ≡ some o → o.0 ≤ pred n) → o.0 ≤ n
      go true z ih = let l = ih z in omega (arith, l)
      go false z ih = let q : n ≡ o.0 = cc in omega (arith, q)

  -- what is owed is owed by the later ones
  owed_append : (n : ℕ) (xs : List (ℕ × ℕ)) (y : ℕ × ℕ) (ys : List (ℕ × ℕ)) (gs : List ℕ) (o : ℕ × ℕ) → Accessed xs → owed w st n (xs ++ (y ∷ ys)) gs ≡ some o
      → o.0 ≤ n - length xs
  unfolding owed
  owed_append n [] y ys gs o a e = let l = owed_level n (y ∷ ys) gs o e in omega (arith, l)
  owed_append n (x ∷ xs) y ys [] o a e = let z : ◌≡◌ {A = ℕ} 0 1 = cc in absurd (omega arith)
  owed_append n (x ∷ xs) y ys (g ∷ gs) o a e =
      let l = owed_append (pred n) xs y ys gs o a.1
      (sym (ap (λ b. cond (b || may_write (w.host_at g)) (owed w st (pred n) (xs ++ (y ∷ ys)) gs) (some (n, g))) (above_has x xs y ys a.0)) ∙ e) in
      omega (arith, l)

-- ---- a request whose path h holds and serves; its shadow part comes to r

module _ (c : Config) (m : Machine) (st : Bool) (a d : ℕ) (r : Place) (h : Held) (low : d ≤ c.levels)
    (comes : (shadow_of c m st a d).result ≡ granted r) (valid : Valid c m h) (covered : Covered c m h) (path : h.path ≡ upper c d (address_indexes c a)) (ok : serves st d (some h) ≡ true) where
  abbrev here : World
  here = world c m

  abbrev part : Trace Fault Place
  part = shadow_of c m st a d

  abbrev rest : Trace Fault Place
  rest = direct_of c m st a d r

  -- the held path is the shadow part
  pub held_shadow : ◌≡◌ {A = Seen Fault Place} (booked valid.frame valid.wide h) (as_seen (granted r) part)
  held_shadow = sym valid.comes ∙ ap (again c m) path ∙ sees c m st (upper c d (address_indexes c a)) r comes

  -- it comes to a table or the page
  real : is_span c r.0 ≡ false
  real = ap (λ (p : Place). is_span c p.0) (sym (granted_is {X = Fault} (valid.frame, valid.wide) r (ap (λ (x : Seen Fault Place). x.result) held_shadow))) ∙ valid.real

  held_reads : h.reads ≡ part.reads
  held_reads = ap (λ (x : Seen Fault Place). x.reads) held_shadow

  part_accessed : c.bits ≡ true → Accessed here st part.reads
  unfolding world
  part_accessed on = subst (Accessed here st) held_reads (covered.five on)

  pub shadow_lacks : c.bits ≡ true → lacks here (st && eqb d 0) part.reads ≡ false
  unfolding world
  shadow_lacks on = lacks_none here (st && eqb d 0) part.reads (part_accessed on) (λ e. subst (λ xs. dirty_at here xs ≡ true) held_reads (covered.six on (long e) (lets e)))
    where
      page : st && eqb d 0 ≡ true → d ≡ 0
      page e = eqb-true d 0 (and_second st (eqb d 0) e)

      long : st && eqb d 0 ≡ true → length h.path ≡ c.levels
      long e = ap length path ∙ upper_long c d a ∙ ap (λ n. c.levels - n) (page e) ∙ omega arith

      -- it serves a store, so it lets stores pass
      lets : st && eqb d 0 ≡ true → h.right ≡ true
      lets e = sym (ap (λ b. not b || h.right) (and_first st (eqb d 0) e)) ∙ sym (ap (λ n. serves st n (some h)) (page e)) ∙ ok

  -- at depth 0 the direct part reads nothing, below it an entry at least
  pub page_rest : d ≡ 0 → rest ≡ ran 0 [] [] r
  unfolding levels trace
  page_rest z = go (drop (c.levels - d) (address_indexes c a)) (lower_long c d a low ∙ z)
    where
      go : (is : List ℕ) → length is ≡ 0 → trace here (levels c st d r.0 r.1 is) ≡ ran 0 [] [] r
      go [] e = refl
      go (i ∷ is) e = absurd (omega arith)

  first_read : 0 < d → (y : ℕ × ℕ) × (ys : List (ℕ × ℕ)) × (rest.reads ≡ y ∷ ys)
  unfolding levels turn entry trace
  first_read pos = go (drop (c.levels - d) (address_indexes c a)) (lower_long c d a low)
    where
      start : (i : ℕ) (down : Place → Walk Fault Place) (b : Bool) → b ≡ false
          → (y : ℕ × ℕ) × (ys : List (ℕ × ℕ)) × ((trace here (cond b (onward c st d (span_lead c d r.0 i) r.1) (entry c d r.0 i >>= λ e. onward c st d (entry_lead d e) (r.1 && writable e)) >>= down)).reads ≡ y ∷ ys)
      start i down true e = absurd (true≢false e)
      start i down false e = ((r.0, i), _, refl)

      go : (is : List ℕ) → length is ≡ d → (y : ℕ × ℕ) × (ys : List (ℕ × ℕ)) × ((trace here (levels c st d r.0 r.1 is)).reads ≡ y ∷ ys)
      go [] e = absurd (omega arith)
      go (i ∷ is) e = start i (λ q. levels c st (pred d) q.0 q.1 is) (is_span c r.0) real

  whole : plain c m st a ≡ more part.count part.reads part.uses rest
  unfolding plain
  whole = direct_trace here c st d m.root (address_indexes c a) r (indexes_length c.levels (page_of a)) low comes

  -- where the direct part lacks no bit, the whole walk does not
  pub served_lacks : c.bits ≡ true → lacks here st rest.reads ≡ false → lacks here st (plain c m st a).reads ≡ false
  served_lacks on k = ap (λ (x : Trace Fault Place). lacks here st x.reads) whole ∙ go d refl
    where
      go : (n : ℕ) → d ≡ n → lacks here st (part.reads ++ rest.reads) ≡ false
      go zero z =
          ap (λ (x : Trace Fault Place). lacks here st (part.reads ++ x.reads)) (page_rest z) ∙ ap (lacks here st) (append-nil part.reads)
          ∙ sym (ap (λ b. lacks here b part.reads) (ap (λ n. st && eqb n 0) z ∙ and-true st)) ∙ shadow_lacks on
      go (suc n) z =
          let f = first_read (omega arith) in
          ap (λ xs. lacks here st (part.reads ++ xs)) f.2 ∙ lacks_append here st part.reads f.0 f.1 (part_accessed on) ∙ sym (ap (lacks here st) f.2) ∙ k

  -- as at depth 0
  pub page_lacks : d ≡ 0 → lacks here st rest.reads ≡ false
  unfolding lacks
  page_lacks z = ap (λ (x : Trace Fault Place). lacks here st x.reads) (page_rest z)

  -- then it owes nothing,
  pub served_none : lacks here st rest.reads ≡ false → owes c here st (plain c m st a) ≡ none
  served_none k = by_cases c.bits (λ on. lacks_owes c here st (plain c m st a) (served_lacks on k)) (off_owes c here st (plain c m st a))

  -- sets nothing,
  pub served_machine : lacks here st rest.reads ≡ false → bits_set c st m (plain c m st a) ≡ m
  served_machine k = by_cases c.bits (λ on. lacks_bits c st m (plain c m st a) (served_lacks on k)) (off_bits c st m (plain c m st a))

  -- and comes to what the direct part comes to, as where that fails
  pub served_owes : ((q : Place) → rest.result ≡ granted q → lacks here st rest.reads ≡ false) → judged (owes c here st (plain c m st a)) rest.result ≡ rest.result
  served_owes k = go rest.result refl
    where
      go : (x : Result Fault Place) → rest.result ≡ x → judged (owes c here st (plain c m st a)) rest.result ≡ rest.result
      go (failed x) e = ap (judged (owes c here st (plain c m st a))) e ∙ sym e
      go (granted q) e = ap (λ o. judged o rest.result) (served_none (k q e)) ∙ judged_none rest.result

  rest_result : (plain c m st a).result ≡ rest.result
  rest_result = ap (λ (x : Trace Fault Place). x.result) whole

  pub served_verdict : ((q : Place) → rest.result ≡ granted q → lacks here st rest.reads ≡ false) → verdict c m st a ≡ rest.result
  unfolding verdict
  served_verdict k = ap (judged (owes c here st (plain c m st a))) rest_result ∙ served_owes k

  -- ---- what it costs, whatever its direct part lacks

  -- it owes no bit but of the direct part's entries
  pub owed_low : (q : Place) (o : ℕ × ℕ) → rest.result ≡ granted q → owes c here st (plain c m st a) ≡ some o → o.0 ≤ d
  unfolding owes
  owed_low q o e k = go c.bits refl d refl
    where
      some_none : {A : Type 0} (x : A) → none ≡ some x → ⊥
      some_none x z = let y : ◌≡◌ {A = ℕ} 0 1 = cc in omega arith

      go : (b : Bool) → c.bits ≡ b → (n : ℕ) → d ≡ n → o.0 ≤ d
      go false off n z = absurd (some_none o (sym (off_owes c here st (plain c m st a) off) ∙ k))
      go true on zero z = absurd (some_none o (sym (served_none (page_lacks z)) ∙ k))
      go true on (suc n) z =
          let f = first_read (omega arith) in
          let owe : owed here st c.levels (part.reads ++ (f.0 ∷ f.1)) (part.uses ++ rest.uses) ≡ some o =
          sym (ap (λ b. cond b (owed here st c.levels (plain c m st a).reads (plain c m st a).uses) none) on
          ∙ ap (λ (x : Trace Fault Place). owed here st c.levels x.reads x.uses) whole
          ∙ ap (λ xs. owed here st c.levels (part.reads ++ xs) (part.uses ++ rest.uses)) f.2) ∙ k in
          let l = owed_append here st c.levels part.reads f.0 f.1 (part.uses ++ rest.uses) o (part_accessed on) owe in
          let all = walk_real here c st m.root (upper c d (address_indexes c a)) r (omega (arith, upper_long c d a, low, z)) real comes in
          omega (arith, l, all, upper_long c d a, low)

  -- N − d shadow entries and the words of the direct part, and one exit for H or W, which is in the direct part
  pub served_request : (b : Book) → find (upper c d (address_indexes c a)) b.held ≡ some h
      → request c m b st a d ≡ record { references = (c.levels - d) + rest.count; exits = host_exit (verdict c m st a); book = b }
  unfolding request verdict
  served_request b f =
      ap₂ (λ t k. cond t (shadowed c here b st d (address_indexes c a) (upper c d (address_indexes c a)) k o part part.result) (unshadowed b (plain c m st a).count (verdict c m st a)))
      (le-leb d c.levels low) (ap (serves st d) f ∙ ok)
      ∙ ap (shadowed c here b st d (address_indexes c a) (upper c d (address_indexes c a)) true o part) comes
      ∙ ap₂ (λ n e. record { references = n; exits = e; book = b }) (ap (λ t. cond t (part.count + rest.count) ((c.levels - d) + rest.count)) (counts d refl))
      (late rest.result refl o refl ∙ sym (ap (λ x. host_exit (judged o x)) rest_result))
    where
      o : Option (ℕ × ℕ)
      o = owes c here st (plain c m st a)

      counts : (n : ℕ) → d ≡ n → (c.bits && not (is_granted (judged o rest.result)) && (eqb d 0 || false)) ≡ false
      counts zero z =
          ap₂ (λ y (x : Trace Fault Place). c.bits && not (is_granted (judged y x.result)) && (eqb d 0 || false)) (served_none (page_lacks z)) (page_rest z)
          ∙ ap (λ x. x && (eqb d 0 || false)) (and-false c.bits)
      counts (suc n) z =
          ap (λ x. c.bits && not (is_granted (judged o rest.result)) && (x || false)) (ap (λ k. eqb k 0) z ∙ eqb-suc-zero n)
          ∙ and-false (c.bits && not (is_granted (judged o rest.result)))

      late : (x : Result Fault Place) → rest.result ≡ x → (y : Option (ℕ × ℕ)) → o ≡ y → 0 + late_exit d y x ≡ host_exit (judged y x)
      late (failed x) e y k = zero-add (host_exit {A = Place} (failed x))
      late (granted q) e none k = refl
      late (granted q) e (some v) k = ap (λ t. 0 + one t) (le-leb v.0 d (owed_low q v e k))
