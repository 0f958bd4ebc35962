-- How many words a granted walk and a granted request read, for any number of levels.
-- Assumes nothing.
use mathlib.Core.Path.{◌≡◌, refl, sym, ap, ◌∙◌, subst}
use Prim.Native.Nat.{ℕ, zero, suc, pred, ◌+◌, ◌*◌, ◌-◌, ◌≤◌}
use native.Mathlib.Nat.{mul-add, mul_comm, mul-suc, mul-le-mul_right}
use native.Mathlib.Omega.{arith}
use mathlib.Core.Bool.{Bool, true, false, not, ◌&&◌, cond, and-false}
use mathlib.Core.List.{List, [], ◌∷◌}
use mathlib.Core.Option.{Option, none, some}
use lib.Dec.{T, leb, leb→le}
use lib.ListN.{length, take, drop, length-append, length-drop}
use lib.Seq.{length-take-le}
use Rattle.spec.specs.declared.Fault.{Fault}
use Rattle.spec.specs.Config.{Config}
use Rattle.spec.specs.Entry.{page_of}
use Rattle.spec.specs.Walk.{Walk, World, Trace, Result, granted, failed, trace}
use Rattle.spec.specs.Plain.{Place, Lead, to, into, is_span, hosted, levels, walk, upper, shadow_part, direct_part}
use Rattle.spec.specs.Machine.{Machine, cost_of, host_cost, world}
use Rattle.spec.specs.Bits.{owes, judged}
use Rattle.spec.specs.Book.{Book, find}
use Rattle.spec.specs.Call.{address_indexes, plain, verdict}
use Rattle.spec.specs.Count.{is_granted, serves, shadowed, unshadowed, request, granted_reads, one}
use Rattle.spec_laws.proofs.Indexes.{indexes_length}
use Rattle.spec_laws.proofs.Granted.{no_grant, granted_is, through, then_trace, hosted_granted, level_reads, lead_at, lead_uses, lead_cost, Reaches, level_granted}
use Rattle.spec_laws.proofs.Large.{span_is, levels_most, walk_most, walk_real}
use Rattle.spec_laws.proofs.Parts.{plain_parts, direct_trace}

-- one exit at most
pub one_most : (b : Bool) → one b ≤ 1
one_most true = omega arith
one_most false = omega arith

-- the host walk of a mapped frame reads N words
pub mapped_cost : (c : Config) (m : Machine) (g : ℕ) (r : Place) → (world c m).host_at g ≡ some r → (world c m).host_cost g ≡ c.levels
unfolding world host_cost
mapped_cost c m g r h = ap (cost_of c m.mappings g) h

-- each host walk that finds its frame reads k words
abbrev pub EachCosts : World → ℕ → Type 0
EachCosts w k = (g : ℕ) (r : Place) → w.host_at g ≡ some r → w.host_cost g ≡ k

-- host walks find frames of the memory, no spans
abbrev pub EachReal : World → Config → Type 0
EachReal w c = (g : ℕ) (r : Place) → w.host_at g ≡ some r → is_span c r.0 ≡ false

lead_costs : (w : World) (c : Config) (k : ℕ) → EachCosts w k → (x : Lead) (r : Place) → Reaches w c x r → lead_cost w x ≡ k * length (lead_uses x)
lead_costs w c k cost (to g) r h = let e = cost g (r.0, h.0) h.1 in omega (arith, e)
lead_costs w c k cost (into g) r h = omega arith

-- a granted walk reads its guest words, and a host walk's words for each mapping that it uses
pub levels_count : (w : World) (k : ℕ) → EachCosts w k → (c : Config) (st : Bool) (n t : ℕ) (v : Bool) (is : List ℕ) (r : Place)
    → let x = trace w (levels c st n t v is) in x.result ≡ granted r → x.count ≡ length x.reads + k * length x.uses
unfolding levels trace
levels_count w k cost c st n t v [] r h = omega arith
levels_count w k cost c st n t v (i ∷ is) r h =
    let l = level_granted w c st n t v i is r h in
    let rest = trace w (levels c st (pred n) l.at.0 l.at.1 is) in
    let x = lead_at w c n t i in
    let ih = levels_count w k cost c st (pred n) l.at.0 l.at.1 is r l.next in
    let e = ap (λ (y : Trace Fault Place). y.count) l.whole in
    let rs = ap (λ (y : Trace Fault Place). length y.reads) l.whole ∙ length-append (level_reads c t i) rest.reads in
    let us = ap (λ (y : Trace Fault Place). k * length y.uses) l.whole ∙ ap (λ (y : ℕ). k * y) (length-append (lead_uses x) rest.uses)
    ∙ mul-add k (length (lead_uses x)) (length rest.uses) in
    omega (arith, ih, e, rs, us, lead_costs w c k cost x l.at l.reaches)

-- each entry that it reads leads to a mapping that it uses, that of a large page at the end of the span
pub levels_even : (w : World) (c : Config) → EachReal w c → (st : Bool) (n t : ℕ) (v : Bool) (is : List ℕ) (r : Place)
    → let x = trace w (levels c st n t v is) in
    x.result ≡ granted r → one (is_span c t) + length x.reads ≡ length x.uses + one (is_span c r.0)
unfolding levels trace
levels_even w c real st n t v [] r h =
    let e = ap (λ (x : Place). one (is_span c x.0)) (granted_is {X = Fault} (t, v) r h) in
    omega (arith, e)
levels_even w c real st n t v (i ∷ is) r h =
    let l = level_granted w c st n t v i is r h in
    let rest = trace w (levels c st (pred n) l.at.0 l.at.1 is) in
    let x = lead_at w c n t i in
    let ih = levels_even w c real st (pred n) l.at.0 l.at.1 is r l.next in
    let rs = ap (λ (y : Trace Fault Place). length y.reads) l.whole ∙ length-append (level_reads c t i) rest.reads in
    let us = ap (λ (y : Trace Fault Place). length y.uses) l.whole ∙ length-append (lead_uses x) rest.uses in
    omega (arith, ih, rs, us, start (is_span c t), end x l.at l.reaches)
  where
    start : (b : Bool) → one b + length (cond {A = List (ℕ × ℕ)} b [] ((t, i) ∷ [])) ≡ 1
    start true = refl
    start false = refl

    end : (x : Lead) (q : Place) → Reaches w c x q → length (lead_uses x) + one (is_span c q.0) ≡ 1
    end (to g) q h = ap (λ b. 1 + one b) (real g (q.0, h.0) h.1)
    end (into g) q h = ap (λ b. 0 + one b) (ap (is_span c) h ∙ span_is c g)

walk_count : (w : World) (k : ℕ) → EachCosts w k → (c : Config) → EachReal w c → (st : Bool) (root : ℕ) (is : List ℕ) (r : Place) → is_span c r.0 ≡ false
    → let x = trace w (walk c st root is) in x.result ≡ granted r → x.count ≡ k + length x.reads * suc k
unfolding walk
walk_count w k cost c real st root is r o h =
    let f : Place → Walk Fault Place = λ q. levels c st c.levels q.0 true is in
    let t = through w (hosted root) f r h in
    let a = hosted_granted w root t.mid t.first in
    let x = trace w (levels c st c.levels t.mid.0 true is) in
    let whole = then_trace w (hosted root) f (w.host_cost root) [] (root ∷ []) t.mid a.1 in
    let e = ap (λ (y : Trace Fault Place). y.count) whole in
    let rs = ap (λ (y : Trace Fault Place). length y.reads * suc k) whole in
    let even = levels_even w c real st c.levels t.mid.0 true is r t.next in
    let same : length x.uses ≡ length x.reads = omega (arith, even, ap one (real root t.mid a.0), ap one o) in
    let l = levels_count w k cost c st c.levels t.mid.0 true is r t.next in
    omega (arith, e, rs, l, ap (λ (y : ℕ). k * y) same, mul_comm k (length x.reads), mul-suc (length x.reads) k, cost root t.mid a.0)

-- a granted plain walk reads N words for the root, and N + 1 for each guest entry: with four levels 24, and 19 and 14 where it ends in a large page
pub plain_count : (c : Config) (m : Machine) (st : Bool) (a : ℕ) (r : Place) → EachReal (world c m) c → is_span c r.0 ≡ false
    → (plain c m st a).result ≡ granted r → (plain c m st a).count ≡ c.levels + length (plain c m st a).reads * suc c.levels
unfolding plain
plain_count c m st a r real o h = walk_count (world c m) c.levels (mapped_cost c m) c real st m.root (address_indexes c a) r o h

-- the shadow part of a request at depth d, and its direct part from r on
abbrev pub shadow_of : Config → Machine → Bool → ℕ → ℕ → Trace Fault Place
shadow_of c m st a d = trace (world c m) (shadow_part c st d m.root (address_indexes c a))

abbrev pub direct_of : Config → Machine → Bool → ℕ → ℕ → Place → Trace Fault Place
direct_of c m st a d r = trace (world c m) (direct_part c st d r (address_indexes c a))

-- where a granted request's shadow part arrived
pub record Shadow (c : Config) (m : Machine) (st : Bool) (a d : ℕ) (r : Place) : Type 0 where
  pub at : Place
  pub comes : (shadow_of c m st a d).result ≡ granted at
  pub next : (direct_of c m st a d at).result ≡ granted r

pub shadow_granted : (c : Config) (m : Machine) (st : Bool) (a d : ℕ) (r : Place) → d ≤ c.levels → (plain c m st a).result ≡ granted r → Shadow c m st a d r
unfolding plain
shadow_granted c m st a d r b h =
    let is = address_indexes c a in
    let e = plain_parts c st d m.root is (indexes_length c.levels (page_of a)) b in
    let t = through (world c m) (shadow_part c st d m.root is) (λ q. direct_part c st d q is) r (subst (λ p. (trace (world c m) p).result ≡ granted r) e h) in
    record { at = t.mid; comes = t.first; next = t.next }

-- a direct part from level d has d indexes
pub lower_long : (c : Config) (d a : ℕ) → d ≤ c.levels → length (drop (c.levels - d) (address_indexes c a)) ≡ d
lower_long c d a b = length-drop (c.levels - d) (address_indexes c a) ∙ ap (λ n. n - (c.levels - d)) (indexes_length c.levels (page_of a)) ∙ omega arith

-- and if it is granted it reads N + 1 words for each entry
direct_count : (c : Config) (m : Machine) (st : Bool) (a d : ℕ) (at r : Place) → EachReal (world c m) c → is_span c at.0 ≡ false → is_span c r.0 ≡ false
    → let x = direct_of c m st a d at in x.result ≡ granted r → x.count ≡ length x.reads * suc c.levels
direct_count c m st a d at r real from o h =
    let n = c.levels in
    let x = direct_of c m st a d at in
    let e = levels_count (world c m) n (mapped_cost c m) c st d at.0 at.1 _ r h in
    let even = levels_even (world c m) c real st d at.0 at.1 _ r h in
    let same : length x.uses ≡ length x.reads = omega (arith, even, ap one from, ap one o) in
    omega (arith, e, ap (λ (y : ℕ). n * y) same, mul_comm n (length x.reads), mul-suc (length x.reads) n)

-- its entries are those that the shadow part leaves: that has one for each index above level d, and for depth 0 all
pub direct_left : (c : Config) (m : Machine) (st : Bool) (a d : ℕ) (q r : Place) → d ≤ c.levels → (shadow_of c m st a d).result ≡ granted q
    → (direct_of c m st a d q).result ≡ granted r → is_span c q.0 ≡ false → length (direct_of c m st a d q).reads ≡ length (plain c m st a).reads - (c.levels - d)
unfolding plain
direct_left c m st a d q r l e f o = go d refl
  where
    w : World
    w = world c m

    is : List ℕ
    is = address_indexes c a

    rest : Trace Fault Place
    rest = direct_of c m st a d q

    long : length (take (c.levels - d) is) ≡ c.levels - d
    long = length-take-le (c.levels - d) is (omega (arith, indexes_length c.levels (page_of a)))

    both : length (trace w (walk c st m.root is)).reads ≡ length (shadow_of c m st a d).reads + length rest.reads
    both =
        ap (λ (x : Trace Fault Place). length x.reads) (direct_trace w c st d m.root is q (indexes_length c.levels (page_of a)) l e)
        ∙ length-append (shadow_of c m st a d).reads rest.reads

    nothing : d ≡ 0 → length rest.reads ≡ 0
    nothing z = let most = levels_most w c st d q.0 q.1 (drop (c.levels - d) is) r f in omega (arith, most, lower_long c d a l, z)

    go : (n : ℕ) → d ≡ n → length rest.reads ≡ length (trace w (walk c st m.root is)).reads - (c.levels - d)
    go zero z =
        let most = walk_most w c st m.root (take (c.levels - d) is) q e in
        omega (arith, both, nothing z, most, long, z)
    go (suc n) z =
        let all = walk_real w c st m.root (take (c.levels - d) is) q (omega (arith, long, l, z)) o e in
        omega (arith, both, all, long)

-- what a request owes is judged past its walk, which is granted too
pub verdict_granted : (c : Config) (m : Machine) (st : Bool) (a : ℕ) (r : Place) → verdict c m st a ≡ granted r → (plain c m st a).result ≡ granted r
unfolding verdict
verdict_granted c m st a r h = go (owes c (world c m) st (plain c m st a)) (plain c m st a).result h
  where
    go : (o : Option (ℕ × ℕ)) (x : Result Fault Place) → judged o x ≡ granted r → x ≡ granted r
    go o (failed x) e = e
    go none (granted p) e = e
    go (some o) (granted p) e = absurd (no_grant e)

-- a granted request at depth d, whose shadow part comes to a frame, reads what the book says of its guest entries; at depth N + 1 it is the plain walk
pub request_count : (c : Config) (m : Machine) (b : Book) (st : Bool) (a d : ℕ) (r : Place) → EachReal (world c m) c → is_span c r.0 ≡ false
    → ((q : Place) → (shadow_of c m st a d).result ≡ granted q → is_span c q.0 ≡ false)
    → verdict c m st a ≡ granted r → (request c m b st a d).references ≡ granted_reads c d (length (plain c m st a).reads)
unfolding request verdict
request_count c m b st a d r real o from v = go (leb d c.levels) refl
  where
    n : ℕ
    n = c.levels

    is : List ℕ
    is = address_indexes c a

    w : World
    w = world c m

    held : Bool
    held = serves st d (find (upper c d is) b.held)

    s : Trace Fault Place
    s = trace w (shadow_part c st d m.root is)

    owe : Option (ℕ × ℕ)
    owe = owes c w st (plain c m st a)

    h : (plain c m st a).result ≡ granted r
    h = verdict_granted c m st a r v

    k : ℕ
    k = length (plain c m st a).reads

    -- it does not quit
    goes_on : (x : Result Fault Place) (z : Bool) (j k : ℕ) → x ≡ granted r → cond (c.bits && not (is_granted (judged owe x)) && z) j k ≡ k
    goes_on x z j k e =
        ap (λ y. cond (c.bits && not (is_granted y) && z) j k) (ap (judged owe) (e ∙ sym h) ∙ v) ∙ ap (λ t. cond (t && z) j k) (and-false c.bits)

    -- the entries of the direct part are those that the shadow part leaves
    below : (q : Place) → d ≤ n → s.result ≡ granted q → (direct_of c m st a d q).result ≡ granted r → length (direct_of c m st a d q).reads ≡ k - (n - d)
    below q l e f = direct_left c m st a d q r l e f (from q e)

    go : (t : Bool) → leb d n ≡ t
        → (cond t (shadowed c w b st d is (upper c d is) held owe s s.result) (unshadowed b (plain c m st a).count (verdict c m st a))).references
        ≡ cond t ((n - d) + (k - (n - d)) * suc n) (n + k * suc n)
    go true e =
        let l : d ≤ n = leb→le d n (subst T (sym e) tt) in
        let f = shadow_granted c m st a d r l h in
        ap (λ x. (shadowed c w b st d is (upper c d is) held owe s x).references) f.comes
        ∙ goes_on _ _ _ _ f.next
        ∙ ap (λ x. (n - d) + x) (direct_count c m st a d f.at r real (from f.at f.comes) o f.next ∙ ap (λ x. x * suc n) (below f.at l f.comes f.next))
    go false e = plain_count c m st a r real o h

-- so N + N·(N + 1) words at most
pub granted_most : (c : Config) (d k : ℕ) → k ≤ c.levels → granted_reads c d k ≤ c.levels + c.levels * suc c.levels
granted_most c d k l = go (leb d c.levels)
  where
    n : ℕ
    n = c.levels

    go : (b : Bool) → cond b ((n - d) + (k - (n - d)) * suc n) (n + k * suc n) ≤ n + n * suc n
    go true = let z : (k - (n - d)) * suc n ≤ n * suc n = mul-le-mul_right (suc n) (omega (arith, l)) in omega (arith, z)
    go false = let z : k * suc n ≤ n * suc n = mul-le-mul_right (suc n) l in omega (arith, z)
