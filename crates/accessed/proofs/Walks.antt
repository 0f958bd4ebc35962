-- The entries in the tables that a granted walk hands out are those that it read.
use mathlib.Core.Path.{◌≡◌, refl, sym, ap, ap₂, ◌∙◌, subst}
use Prim.Native.Nat.{ℕ, zero, suc, pred, ◌+◌, ◌-◌, ◌*◌, ◌/◌, ◌^◌, ◌<◌, ◌≤◌}
use native.Mathlib.Nat.{zero-add}
use native.Mathlib.Omega.{arith}
use mathlib.Core.Bool.{Bool, true, false, ◌&&◌, ◌||◌, cond}
use mathlib.Core.List.{List, [], ◌∷◌, ◌++◌, map}
use mathlib.Core.Option.{some}
use lib.ListN.{length, take, get_or, replicate, length-map, length-append}
use Rattle.spec.specs.declared.Fault.{Fault}
use Rattle.spec.specs.declared.Fault.TheVariants.{Absent, Malformed, Protected, HostAbsent, HostReadOnly}
use Rattle.spec.specs.Config.{Config}
use Rattle.spec.specs.Entry.{frame_of, large, indexes}
use Rattle.spec.specs.Prefix.{All}
use Rattle.spec.specs.Walk.{Walk, World, Trace, Result, granted, failed, trace}
use Rattle.spec.specs.Plain.{Place, to, into, is_span, hosted, entry_lead, span_lead, turn, levels, walk}
use Rattle.spec.specs.Bits.{has_bits, may_write, owed}
use Rattle.spec_laws.proofs.Granted.{through, then_trace, hosted_granted, lead_at, lead_uses, level_reads, Reaches, turn_granted, level_granted}
use Rattle.spec_laws.proofs.Large.{span_is, span_into, span_reads}
use Rattle.entry.specs.declared.HostPhysical.{HostPhysical}
use Rattle.layout.specs.declared.HostWalk.{HostWalk}
use Rattle.layout.specs.declared.HostWalk.TheVariants as host
use Rattle.layout.specs.Layout.{page}
use Rattle.layout.proofs.Laws.{HostFits}
use Rattle.host.specs.Walk.{host_walk_of}
use Rattle.host.proofs.Laws.{host_fits}
use Rattle.walk.specs.declared.Walked.TheVariants as walked
use Rattle.walk.specs.Memory.{place_of, memory_world, absent_by, walked_by, walked_of, noted, passed_by, passed, passed_root, trail_from, trail_of, root_trail}
use Rattle.walk.proofs.Trails.{noted_at}
use Rattle.spec_laws.proofs.Indexes.{indexes_length, indexes_above}
use borrow.Author.Tests.{leb-false}
use Rattle.accessed.proofs.Laws.{tables_most}
use Rattle.accessed.specs.Entries.{entries, tables_in, seen_of, seen_entries, Frames}
use Rattle.spec_laws.proofs.Keeps.{InGuestArea, area_real}
use Rattle.spec_laws.proofs.Asks.{asks_trace, AnswerIn, placed_frame, levels_asks}

-- a walk over memory arrives just where it is granted
pub arrived_granted : (c : Config) (ht : ℕ) (m : List ℕ) (n : ℕ) (p : Walk Fault Place) (t : ℕ) (w : Bool) (k : ℕ)
    → walked_of c ht m n p ≡ walked.Arrived w (page t) k → (trace (memory_world c ht m) p).result ≡ granted (t, w)
unfolding walked_of
arrived_granted c ht m n p t w k = go (trace (memory_world c ht m) p).result (n + (trace (memory_world c ht m) p).count)
  where
    not-damage : (h : HostWalk) (g j : ℕ) → absent_by h (walked.Faulted (HostAbsent g) j) ≡ walked.Arrived w (page t) k → ⊥
    not-damage (host.Found q v) g j e = let z : ◌≡◌ {A = ℕ} 0 1 = cc in omega arith
    not-damage (host.Absent i) g j e = let z : ◌≡◌ {A = ℕ} 0 1 = cc in omega arith
    not-damage host.Damaged g j e = let z : ◌≡◌ {A = ℕ} 0 1 = cc in omega arith

    go : (x : Result Fault Place) (j : ℕ) → walked_by c ht m x j ≡ walked.Arrived w (page t) k → x ≡ granted (t, w)
    go (granted q) j e = let a : page q.0 ≡ page t = cc in let b : q.1 ≡ w = cc in ap₂ (λ (f : HostPhysical) v. granted (f.0, v)) a b
    go (failed (Absent l)) j e = let z : ◌≡◌ {A = ℕ} 0 1 = cc in absurd (omega arith)
    go (failed (Malformed l)) j e = let z : ◌≡◌ {A = ℕ} 0 1 = cc in absurd (omega arith)
    go (failed (Protected l)) j e = let z : ◌≡◌ {A = ℕ} 0 1 = cc in absurd (omega arith)
    go (failed (HostAbsent g)) j e = absurd (not-damage (host_walk_of c ht m g) g j e)
    go (failed (HostReadOnly g)) j e = let z : ◌≡◌ {A = ℕ} 0 1 = cc in absurd (omega arith)

-- ---- what a granted walk owes, by the frames that its entries name

abbrev pub named : World → List (ℕ × ℕ) → List ℕ
named w xs = map (λ x. frame_of (w.word_at x.0 x.1)) xs

-- two lists agree on the tables of entries past the first
abbrev Lined : List (ℕ × ℕ) → List ℕ → List ℕ → Type 0
Lined [] us vs = Unit {0}
Lined (x ∷ []) us vs = Unit {0}
Lined (x ∷ y ∷ ys) us vs = (u : ℕ) × (ps : List ℕ) × (qs : List ℕ) × (us ≡ u ∷ ps) × (vs ≡ u ∷ qs) × Lined (y ∷ ys) ps qs

owed_lined : (w : World) (st : Bool) (n g : ℕ) (xs : List (ℕ × ℕ)) (us vs : List ℕ) → Lined xs us vs → owed w st n xs (g ∷ us) ≡ owed w st n xs (g ∷ vs)
unfolding owed
owed_lined w st n g [] us vs h = refl
owed_lined w st n g (x ∷ []) us vs h = refl
owed_lined w st n g (x ∷ y ∷ ys) us vs h =
    ap (λ o. cond (has_bits (st && false) (w.word_at x.0 x.1) || may_write (w.host_at g)) o (some (n, g)))
    (ap (owed w st (pred n) (y ∷ ys)) h.3 ∙ owed_lined w st (pred n) h.0 (y ∷ ys) h.1 h.2 h.5 ∙ sym (ap (owed w st (pred n) (y ∷ ys)) h.4))

levels_lined : (w : World) (c : Config) (st : Bool) (n t : ℕ) (v : Bool) (is : List ℕ) (r : Place) → length is ≤ n → (trace w (levels c st n t v is)).result ≡ granted r
    → let x = trace w (levels c st n t v is) in Lined x.reads x.uses (named w x.reads)
unfolding levels trace entry_lead
levels_lined w c st n t v [] r b h = tt
levels_lined w c st n t v (i ∷ is) r b h =
    let l = level_granted w c st n t v i is r h in
    let rest = trace w (levels c st (pred n) l.at.0 l.at.1 is) in
    let ih = levels_lined w c st (pred n) l.at.0 l.at.1 is r (omega (arith, b)) l.next in
    by (is_span c t) refl l.at l.reaches rest.reads rest.uses ih (λ q. span_reads w c st (pred n) l.at.0 l.at.1 is r q (omega (arith, b)) l.next)
    (trace w (levels c st n t v (i ∷ is))).reads (trace w (levels c st n t v (i ∷ is))).uses
    (λ q. span_reads w c st n t v (i ∷ is) r q b h)
    (ap (λ (x : Trace Fault Place). x.reads) l.whole) (ap (λ (x : Trace Fault Place). x.uses) l.whole)
  where
    e : ℕ
    e = w.word_at t i

    cons-none : (y : ℕ × ℕ) (ys : List (ℕ × ℕ)) → ◌≡◌ {A = List (ℕ × ℕ)} (y ∷ ys) [] → ⊥
    cons-none y ys k = let z : suc (length ys) ≡ 0 = ap length k in omega (arith, z)

    -- by an entry: it names the next table, or there is none
    entry-by : (x : Bool) (q : Place) → Reaches w c (cond x (into (frame_of e)) (to (frame_of e))) q → (rs : List (ℕ × ℕ)) (us : List ℕ) → Lined rs us (named w rs)
        → (is_span c q.0 ≡ true → rs ≡ []) → Lined ((t, i) ∷ rs) (lead_uses (cond x (into (frame_of e)) (to (frame_of e))) ++ us) (frame_of e ∷ named w rs)
    entry-by x q z [] us ih ends = tt
    entry-by true q z (y ∷ ys) us ih ends = absurd (cons-none y ys (ends (ap (is_span c) z ∙ span_is c (frame_of e))))
    entry-by false q z (y ∷ ys) us ih ends = (frame_of e, us, named w (y ∷ ys), refl, refl, ih)

    by : (x : Bool) → is_span c t ≡ x → (q : Place) → Reaches w c (cond x (span_lead c n t i) (entry_lead n e)) q → (rs : List (ℕ × ℕ)) (us : List ℕ) → Lined rs us (named w rs)
        → (is_span c q.0 ≡ true → rs ≡ []) → (xs : List (ℕ × ℕ)) (vs : List ℕ) → (is_span c t ≡ true → xs ≡ [])
        → xs ≡ cond {A = List (ℕ × ℕ)} x [] ((t, i) ∷ []) ++ rs → vs ≡ lead_uses (cond x (span_lead c n t i) (entry_lead n e)) ++ us → Lined xs vs (named w xs)
    by true k q z rs us ih ends xs vs gone f g = subst (λ ys. Lined ys vs (named w ys)) (sym (gone k)) tt
    by false k q z rs us ih ends xs vs gone f g =
        subst (λ ys. Lined ys vs (named w ys)) (sym f) (subst (λ ws. Lined ((t, i) ∷ rs) ws (frame_of e ∷ named w rs)) (sym g) (entry-by (large n e) q z rs us ih ends))

-- the whole walk
pub walk_owed : (w : World) (c : Config) (st : Bool) (root : ℕ) (is : List ℕ) (r : Place) (n : ℕ) → length is ≤ c.levels
    → let x = trace w (walk c st root is) in x.result ≡ granted r → owed w st n x.reads x.uses ≡ owed w st n x.reads (root ∷ named w x.reads)
unfolding walk
walk_owed w c st root is r n b h =
    let f : Place → Walk Fault Place = λ q. levels c st c.levels q.0 true is in
    let t = through w (hosted root) f r h in
    let a = hosted_granted w root t.mid t.first in
    let e = then_trace w (hosted root) f (w.host_cost root) [] (root ∷ []) t.mid a.1 in
    let x = trace w (levels c st c.levels t.mid.0 true is) in
    ap (λ (y : Trace Fault Place). owed w st n y.reads y.uses) e
    ∙ owed_lined w st n root x.reads x.uses (named w x.reads) (levels_lined w c st c.levels t.mid.0 true is r b t.next)
    ∙ sym (ap (λ (y : Trace Fault Place). owed w st n y.reads (root ∷ named w y.reads)) e)

-- ---- the places that a granted walk went through

-- the tables that it read, and then spans; it read at the first of its indexes
pub record Passed (c : Config) (is ps : List ℕ) (rs : List (ℕ × ℕ)) : Type 0 where
  pub spans : List ℕ
  pub all : All (λ f. is_span c f ≡ true) spans
  pub real : All (λ (x : ℕ × ℕ). is_span c x.0 ≡ false) rs
  pub places : ps ≡ map (λ x. x.0) rs ++ spans
  pub indexed : map (λ x. x.1) rs ≡ take (length rs) is
  pub long : length rs + length spans ≡ length is

-- ---- and lie where a host walk leads: in the guest area
module _ (c : Config) (ht : ℕ) (m : List ℕ) where
  abbrev w : World
  w = memory_world c ht m

  found_in : (g f : ℕ) (v : Bool) → (memory_world c ht m).host_at g ≡ some (f, v) → InGuestArea c f
  unfolding memory_world
  found_in g f v e = go (host_walk_of c ht m g) (host_fits c ht m g) e
    where
      go : (r : HostWalk) → HostFits c r → place_of r ≡ some (f, v) → InGuestArea c f
      go (host.Found p w) h q = let z : ◌≡◌ {A = Place} (p.0, w) (f, v) = cc in subst (λ (x : Place). InGuestArea c x.0) z h
      go (host.Absent n) h q = let z : ◌≡◌ {A = ℕ} 0 1 = cc in absurd (omega arith)
      go host.Damaged h q = let z : ◌≡◌ {A = ℕ} 0 1 = cc in absurd (omega arith)

  -- whatever the memory, every answer of a host walk is
  pub answers_in : (g : ℕ) → AnswerIn (InGuestArea c) ((memory_world c ht m).host_at g)
  unfolding memory_world
  answers_in g = go (host_walk_of c ht m g) (host_fits c ht m g)
    where
      go : (r : HostWalk) → HostFits c r → AnswerIn (InGuestArea c) (place_of r)
      go (host.Found p v) h = h
      go (host.Absent n) h = tt
      go host.Damaged h = tt

  -- and so are the words that a granted walk reads
  pub walk_area : (st : Bool) (root : ℕ) (is : List ℕ) (r : Place) → All (λ i. i < 512) is → (trace w (walk c st root is)).result ≡ granted r
      → All (λ x. InGuestArea c x.0 × (x.1 < 512)) (trace w (walk c st root is)).reads
  unfolding walk
  walk_area st root is r s h =
      let f : Place → Walk Fault Place = λ q. levels c st c.levels q.0 true is in
      let t = through w (hosted root) f r h in
      let a = hosted_granted w root t.mid t.first in
      subst (λ (x : Trace Fault Place). All (λ x. InGuestArea c x.0 × (x.1 < 512)) x.reads) (sym (then_trace w (hosted root) f (w.host_cost root) [] (root ∷ []) t.mid a.1))
      (asks_trace (AnswerIn (InGuestArea c)) _ _ _ w (f t.mid) _ answers_in
      (levels_asks c (InGuestArea c) (area_real c) st c.levels t.mid.0 true is (omega arith)
      (placed_frame c (InGuestArea c) (area_real c) c.levels t.mid.0 (found_in root t.mid.0 t.mid.1 a.0)) s)).reads

  -- one level of a granted walk
  record Step (st : Bool) (n t i : ℕ) (is : List ℕ) (v : Bool) (r : Place) : Type 0 where
    at : Place
    reaches : Reaches w c (lead_at w c n t i) at
    next : (trace w (levels c st (pred n) at.0 at.1 is)).result ≡ granted r
    reads : (trace w (levels c st n t v (i ∷ is))).reads ≡ level_reads c t i ++ (trace w (levels c st (pred n) at.0 at.1 is)).reads
    places : passed c ht m st n t v (i ∷ is) ≡ t ∷ passed c ht m st (pred n) at.0 at.1 is

  step : (st : Bool) (n t : ℕ) (v : Bool) (i : ℕ) (is : List ℕ) (r : Place) → (trace w (levels c st n t v (i ∷ is))).result ≡ granted r → Step st n t i is v r
  unfolding levels passed
  step st n t v i is r h =
      let f : Place → Walk Fault Place = λ q. levels c st (pred n) q.0 q.1 is in
      let a = through w (turn c st n t i v) f r h in
      let z = turn_granted w c st n t i v a.mid a.first in
      record {
        at = a.mid;
        reaches = z.reaches;
        next = a.next;
        reads = ap (λ (x : Trace Fault Place). x.reads) (then_trace w (turn c st n t i v) f _ _ _ a.mid z.whole);
        places = ap (λ x. t ∷ passed_by x (λ q. passed c ht m st (pred n) q.0 q.1 is)) a.first;
      }

  -- from a span on, spans
  span_passed : (st : Bool) (n t : ℕ) (v : Bool) (is : List ℕ) (r : Place) → is_span c t ≡ true → length is ≤ n → (trace w (levels c st n t v is)).result ≡ granted r
      → All (λ f. is_span c f ≡ true) (passed c ht m st n t v is) × (length (passed c ht m st n t v is) ≡ length is)
  unfolding passed
  span_passed st n t v [] r s b h = (tt, refl)
  span_passed st n t v (i ∷ []) r s b h =
      let a = step st n t v i [] r h in
      subst (λ (ps : List ℕ). All (λ f. is_span c f ≡ true) ps × (length ps ≡ 1)) (sym a.places) ((s, tt), refl)
  span_passed st n t v (i ∷ j ∷ is) r s b h =
      let a = step st n t v i (j ∷ is) r h in
      let k = span_passed st (pred n) a.at.0 a.at.1 (j ∷ is) r (span_into w c n t i a.at (omega (arith, b)) s a.reaches) (omega (arith, b)) a.next in
      subst (λ (ps : List ℕ). All (λ f. is_span c f ≡ true) ps × (length ps ≡ suc (suc (length is)))) (sym a.places) ((s, k.0), ap suc k.1)

  pub levels_passed : (st : Bool) (n t : ℕ) (v : Bool) (is : List ℕ) (r : Place) → length is ≤ n → (trace w (levels c st n t v is)).result ≡ granted r
      → Passed c is (passed c ht m st n t v is) (trace w (levels c st n t v is)).reads
  unfolding passed levels trace
  levels_passed st n t v [] r b h = record { spans = []; all = tt; real = tt; places = refl; indexed = refl; long = refl }
  levels_passed st n t v (i ∷ is) r b h =
      let a = step st n t v i is r h in
      by (is_span c t) refl a.at (levels_passed st (pred n) a.at.0 a.at.1 is r (omega (arith, b)) a.next) a.places a.reads
    where
      rest : Place → List (ℕ × ℕ)
      rest q = (trace w (levels c st (pred n) q.0 q.1 is)).reads

      by : (x : Bool) → is_span c t ≡ x → (q : Place) → Passed c is (passed c ht m st (pred n) q.0 q.1 is) (rest q)
          → passed c ht m st n t v (i ∷ is) ≡ t ∷ passed c ht m st (pred n) q.0 q.1 is
          → (trace w (levels c st n t v (i ∷ is))).reads ≡ cond {A = List (ℕ × ℕ)} x [] ((t, i) ∷ []) ++ rest q
          → Passed c (i ∷ is) (passed c ht m st n t v (i ∷ is)) (trace w (levels c st n t v (i ∷ is))).reads
      by true s q ih e f =
          let gone = span_reads w c st n t v (i ∷ is) r s b h in
          let k = span_passed st n t v (i ∷ is) r s b h in
          subst (Passed c (i ∷ is) (passed c ht m st n t v (i ∷ is))) (sym gone)
          (record { spans = passed c ht m st n t v (i ∷ is); all = k.0; real = tt; places = refl; indexed = refl; long = zero-add (length (passed c ht m st n t v (i ∷ is))) ∙ k.1 })
      by false s q ih e f =
          subst (Passed c (i ∷ is) (passed c ht m st n t v (i ∷ is))) (sym f) (record {
            spans = ih.spans;
            all = ih.all;
            real = (s, ih.real);
            places = e ∙ ap (λ ps. t ∷ ps) ih.places;
            indexed = ap (λ js. i ∷ js) ih.indexed;
            long = let k = ih.long in omega (arith, k);
          })

  pub walk_passed : (st : Bool) (root : ℕ) (is : List ℕ) (r : Place) → length is ≤ c.levels → (trace w (walk c st root is)).result ≡ granted r
      → Passed c is (passed_root c ht m st root is) (trace w (walk c st root is)).reads
  unfolding walk passed_root
  walk_passed st root is r b h =
      let f : Place → Walk Fault Place = λ q. levels c st c.levels q.0 true is in
      let t = through w (hosted root) f r h in
      let a = hosted_granted w root t.mid t.first in
      let e = ap (λ (x : Trace Fault Place). x.reads) (then_trace w (hosted root) f (w.host_cost root) [] (root ∷ []) t.mid a.1) in
      let k = ap (λ x. passed_by x (λ q. passed c ht m st c.levels q.0 true is)) t.first in
      subst (λ (ps : List ℕ). Passed c is ps (trace w (walk c st root is)).reads) (sym k)
      (subst (Passed c is (passed c ht m st c.levels t.mid.0 true is)) (sym e) (levels_passed st c.levels t.mid.0 true is r b t.next))

-- ---- the entries in them

-- places that begin with those of tables, and have spans after them
tables_entries : (xs : List (ℕ × ℕ)) (ts : List ℕ) (k : ℕ) → ((j : ℕ) → j < length xs → get_or ts (k + j) 0 ≡ get_or (map (λ x. x.0) xs) j 0)
    → entries ts k (map (λ x. x.1) xs) ≡ xs
tables_entries [] ts k h = refl
tables_entries (x ∷ xs) ts k h =
    let z : k + 0 ≡ k = omega arith in
    ap₂ (λ f ys. (f, x.1) ∷ ys) (ap (λ j. get_or ts j 0) (sym z) ∙ h 0 (omega arith))
    (tables_entries xs ts (k + 1) (λ j l. let y : k + 1 + j ≡ k + suc j = omega arith in ap (λ i. get_or ts i 0) y ∙ h (suc j) (omega (arith, l))))

-- as many tables as entries
tables_count : (c : Config) (ts : List ℕ) (k : ℕ) (xs : List (ℕ × ℕ)) (ss : List ℕ) → ((j : ℕ) → j < length xs + length ss → get_or ts (k + j) 0 ≡ get_or (map (λ x. x.0) xs ++ ss) j 0)
    → All (λ (x : ℕ × ℕ). is_span c x.0 ≡ false) xs → All (λ f. is_span c f ≡ true) ss → tables_in c ts k (length xs + length ss) ≡ length xs
unfolding tables_in
tables_count c ts k [] [] h a b = refl
tables_count c ts k [] (s ∷ ss) h a b =
    let z : k + 0 ≡ k = omega arith in
    let one : 0 + suc (length ss) ≡ suc (length ss) = omega arith in
    ap (tables_in c ts k) one
    ∙ ap (λ x. cond (is_span c x) 0 (suc (tables_in c ts (k + 1) (length ss)))) (ap (λ j. get_or ts j 0) (sym z) ∙ h 0 (omega arith)) ∙ ap (λ x. cond x 0 (suc (tables_in c ts (k + 1) (length ss)))) b.0
tables_count c ts k (x ∷ xs) ss h a b =
    let z : k + 0 ≡ k = omega arith in
    let one : suc (length xs) + length ss ≡ suc (length xs + length ss) = omega arith in
    ap (tables_in c ts k) one
    ∙ ap (λ y. cond (is_span c y) 0 (suc (tables_in c ts (k + 1) (length xs + length ss)))) (ap (λ j. get_or ts j 0) (sym z) ∙ h 0 (omega arith))
    ∙ ap (λ y. cond y 0 (suc (tables_in c ts (k + 1) (length xs + length ss)))) a.0
    ∙ ap suc (tables_count c ts (k + 1) xs ss (λ j l. let y : k + 1 + j ≡ k + suc j = omega arith in ap (λ i. get_or ts i 0) y ∙ h (suc j) (omega (arith, l))) a.1 b)

-- the entries in the places of a walk by the n lowest indexes of a number are those that it read
noted_entries : (c : Config) (ps : List ℕ) (xs : List (ℕ × ℕ)) (n number : ℕ) → n ≤ 8 → Passed c (indexes n number) ps xs
    → seen_entries (noted (replicate 8 0) 0 ps) (seen_of c (noted (replicate 8 0) 0 ps) n number) ≡ xs
unfolding seen_of
noted_entries c ps xs n number b r =
    let ts = noted (replicate 8 0) 0 ps in
    let whole : length xs + length r.spans ≡ n = r.long ∙ indexes_length n number in
    let long : length ps ≡ n = ap length r.places ∙ length-append (map (λ x. x.0) xs) r.spans ∙ ap (λ j. j + length r.spans) (length-map xs (λ x. x.0)) ∙ whole in
    let at : (j : ℕ) → j < n → get_or ts (0 + j) 0 ≡ get_or (map (λ x. x.0) xs ++ r.spans) j 0 =
    λ j l. noted_at ps (replicate 8 0) 0 j (omega (arith, long, b)) (omega (arith, l, long)) ∙ ap (λ qs. get_or qs j 0) r.places in
    let count : tables_in c ts 0 n ≡ length xs = ap (tables_in c ts 0) (sym whole) ∙ tables_count c ts 0 xs r.spans (λ j l. at j (omega (arith, l, whole))) r.real r.all in
    ap (λ k. entries ts 0 (indexes k (number / 2 ^ (9 * (n - k))))) count
    ∙ ap (entries ts 0) (kept n (length xs) number (omega (arith, whole)) ∙ sym r.indexed)
    ∙ tables_entries xs ts 0 (λ j l. at j (omega (arith, l, whole)) ∙ front xs r.spans j l)
  where
    -- the first k of n indexes
    kept : (n k p : ℕ) → k ≤ n → indexes k (p / 2 ^ (9 * (n - k))) ≡ take k (indexes n p)
    kept n k p l = let z : n - (n - k) ≡ k = omega (arith, l) in ap (λ j. indexes j (p / 2 ^ (9 * (n - k)))) (sym z) ∙ indexes_above n (n - k) p ∙ ap (λ j. take j (indexes n p)) z

    front : (xs : List (ℕ × ℕ)) (ss : List ℕ) (j : ℕ) → j < length xs → get_or (map (λ x. x.0) xs ++ ss) j 0 ≡ get_or (map (λ x. x.0) xs) j 0
    front [] ss j l = absurd (omega (arith, l))
    front (x ∷ xs) ss zero l = refl
    front (x ∷ xs) ss (suc j) l = front xs ss j (omega (arith, l))

pub trail_entries : (c : Config) (ht : ℕ) (m : List ℕ) (k : ℕ) (st : Bool) (t : ℕ) (v : Bool) (n level number : ℕ) (r : Place) → n ≤ 8 → n ≤ level
    → (trace (memory_world c ht m) (levels c st level t v (indexes n number))).result ≡ granted r
    → let ts = (trail_of c ht m k st level t v (indexes n number)).tables in
    seen_entries ts (seen_of c ts n number) ≡ (trace (memory_world c ht m) (levels c st level t v (indexes n number))).reads
unfolding trail_from
trail_entries c ht m k st t v n level number r b l h =
    noted_entries c _ _ n number b (levels_passed c ht m st level t v (indexes n number) r (omega (arith, indexes_length n number, l)) h)

pub root_entries : (c : Config) (ht : ℕ) (m : List ℕ) (st : Bool) (root n number : ℕ) (r : Place) → n ≤ 8 → n ≤ c.levels
    → (trace (memory_world c ht m) (walk c st root (indexes n number))).result ≡ granted r
    → let ts = (root_trail c ht m st root (indexes n number)).tables in
    seen_entries ts (seen_of c ts n number) ≡ (trace (memory_world c ht m) (walk c st root (indexes n number))).reads
unfolding root_trail
root_entries c ht m st root n number r b l h =
    noted_entries c _ _ n number b (walk_passed c ht m st root (indexes n number) r (omega (arith, indexes_length n number, l)) h)

-- ---- and the tables have frames' numbers, whatever they are: a span is none of them

pub tables_real : (c : Config) (ts : List ℕ) (k n j : ℕ) → j < tables_in c ts k n → is_span c (get_or ts (k + j) 0) ≡ false
unfolding tables_in
tables_real c ts k zero j l = absurd (omega (arith, l))
tables_real c ts k (suc n) j l = go (is_span c (get_or ts k 0)) refl j l (tables_real c ts (k + 1) n)
  where
    go : (b : Bool) → is_span c (get_or ts k 0) ≡ b → (j : ℕ) → j < cond b 0 (suc (tables_in c ts (k + 1) n))
        → ((j : ℕ) → j < tables_in c ts (k + 1) n → is_span c (get_or ts (k + 1 + j) 0) ≡ false) → is_span c (get_or ts (k + j) 0) ≡ false
    go true e j l ih = absurd (omega (arith, l))
    go false e zero l ih = let z : k + 0 ≡ k = omega arith in ap (λ i. is_span c (get_or ts i 0)) z ∙ e
    go false e (suc j) l ih = let z : k + suc j ≡ k + 1 + j = omega arith in ap (λ i. is_span c (get_or ts i 0)) z ∙ ih j (omega (arith, l))

pub seen_frames : (c : Config) (ts : List ℕ) (n number : ℕ) → c.frames ≤ 65536 → Frames (seen_of c ts n number).steps ts
unfolding seen_of is_span
seen_frames c ts n number few j l =
    let z : 0 + j ≡ j = omega arith in
    let r = leb-false c.frames (get_or ts j 0) (ap (λ i. is_span c (get_or ts i 0)) (sym z) ∙ tables_real c ts 0 n j l) in
    omega (arith, few, r)

-- what was walked and what was not make up the indexes
pub seen_sum : (c : Config) (ts : List ℕ) (n number : ℕ) → (seen_of c ts n number).below + (seen_of c ts n number).steps ≡ n
unfolding seen_of
seen_sum c ts n number = omega (arith, tables_most c ts 0 n)
