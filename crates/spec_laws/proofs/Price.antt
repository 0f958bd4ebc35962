-- What a request costs, by whether its path is held, and the paths that are held after it. Nothing else of the book counts but its marks.
-- Assumes nothing.
use mathlib.Core.Path.{◌≡◌, refl, sym, ap, ◌∙◌, subst}
use Prim.Native.Nat.{ℕ, zero, suc, ◌+◌, ◌-◌}
use native.Mathlib.Nat.{add-zero}
use native.Mathlib.Omega.{arith}
use mathlib.Core.Bool.{Bool, true, false, not, ◌&&◌, ◌||◌, cond}
use mathlib.Core.List.{List, [], ◌∷◌}
use mathlib.Core.Option.{some}
use lib.Dec.{T, leb, leb→le}
use lib.ListN.{length}
use lib.Seq.{take_all}
use Rattle.spec.specs.declared.Fault.{Fault}
use Rattle.spec.specs.Config.{Config}
use Rattle.spec.specs.Entry.{page_of}
use Rattle.spec.specs.Prefix.{All, same, any, tables_of}
use Rattle.spec.specs.Walk.{Trace, Result, granted, failed, trace}
use Rattle.spec.specs.Plain.{Place, walk, upper, shadow_part, direct_part}
use Rattle.spec.specs.Machine.{Machine, world}
use Rattle.spec.specs.Book.{Held, Book, find, paths, fill, shadow_tables}
use Rattle.spec.specs.Call.{address_indexes, plain}
use Rattle.spec.specs.Count.{Counted, one, host_exit, serves, held_by, request}
use Rattle.spec_laws.proofs.Lists.{all_map, all_any, same_is}
use Rattle.spec_laws.proofs.Indexes.{indexes_length}
use Rattle.spec_laws.proofs.Before.{shadowed_before, unshadowed_before, request_before, off_request}
use Rattle.spec_laws.proofs.Granted.{walk_store}
use Rattle.spec_laws.proofs.Counts.{shadow_granted}
use Rattle.spec_laws.proofs.Keeps.{Valid, held_place, right_off}

-- ---- the paths that are held after a fill

-- all others are dropped where p would make the tables too many
abbrev pub filled : Config → List ℕ → List (List ℕ) → List (List ℕ)
filled c p ps = cond (leb (tables_of (p ∷ ps)) c.shadows) (p ∷ ps) (p ∷ [])

pub fill_paths : (c : Config) (h : Held) (hs : List Held) → paths (fill c h hs) ≡ filled c h.path (paths hs)
fill_paths c h hs = go (leb (shadow_tables (h ∷ hs)) c.shadows)
  where
    go : (b : Bool) → paths (cond b (h ∷ hs) (h ∷ [])) ≡ cond b (h.path ∷ paths hs) (h.path ∷ [])
    go true = refl
    go false = refl

-- ---- the price of a request

-- a path serves if it is held, where none of that name forbids
serves_held : (st : Bool) (d : ℕ) (p : List ℕ) (hs : List Held) → All (λ h. T (same p h.path) → serves st d (some h) ≡ true) hs
    → serves st d (find p hs) ≡ any (same p) (paths hs)
serves_held st d p [] a = refl
serves_held st d p (h ∷ hs) a = go (same p h.path) refl (serves_held st d p hs a.1)
  where
    go : (b : Bool) → same p h.path ≡ b → serves st d (find p hs) ≡ any (same p) (paths hs)
        → serves st d (cond b (some h) (find p hs)) ≡ (b || any (same p) (paths hs))
    go true e ih = a.0 (subst T (sym e) tt)
    go false e ih = ih

-- a load needs no right
pub serves_load : (d : ℕ) (p : List ℕ) (hs : List Held) → serves false d (find p hs) ≡ any (same p) (paths hs)
serves_load d p hs = serves_held false d p hs (all_any _ hs (λ h e. go d h))
  where
    go : (n : ℕ) (h : Held) → serves false n (some h) ≡ true
    go zero h = refl
    go (suc n) h = refl

-- a store that is granted has it: with bits off a path of depth 0 that forbade it would not stand for the walk
pub serves_store : (c : Config) (m : Machine) (a d : ℕ) (hs : List Held) (r : Place) → c.bits ≡ false → All (Valid c m) hs → (plain c m true a).result ≡ granted r
    → let p = upper c d (address_indexes c a) in serves true d (find p hs) ≡ any (same p) (paths hs)
unfolding plain
serves_store c m a d hs r off va h =
    serves_held true d p hs (all_map (Valid c m) (λ k. T (same p k.path) → serves true d (some k) ≡ true) hs (λ k v e. go d refl k v (sym (same_is p k.path e))) va)
  where
    is : List ℕ
    is = address_indexes c a

    p : List ℕ
    p = upper c d is

    go : (n : ℕ) → d ≡ n → (k : Held) → Valid c m k → k.path ≡ p → serves true n (some k) ≡ true
    go zero z k v e =
        let l : length is ≡ c.levels = indexes_length c.levels (page_of a) in
        let whole : k.path ≡ is = e ∙ take_all (c.levels - d) is (omega arith) in
        let at = held_place c m k v true r (ap (λ x. (trace (world c m) (walk c true m.root x)).result) whole ∙ h) in
        right_off c m k v off ∙ sym (ap (λ (x : Place). x.1) at) ∙ walk_store (world c m) c m.root is r l h
    go (suc n) z k v e = refl

-- what is paid, and whether the path is filled
pub record Price : Type 0 where
  pub references : ℕ
  pub exits : ℕ
  pub fills : Bool

-- n: the words that a shadow part read which failed
abbrev pub shadow_price : Config → Machine → Bool → ℕ → List ℕ → Bool → ℕ → Result Fault Place → Price
shadow_price c m st d is held n (failed x) = record { references = n; exits = one (not held); fills = false }
shadow_price c m st d is held n (granted r) =
    let t : Trace Fault Place = trace (world c m) (direct_part c st d r is) in
    record { references = (c.levels - d) + t.count; exits = one (not held) + host_exit t.result; fills = not held }

abbrev pub plain_price : Trace Fault Place → Price
plain_price t = record { references = t.count; exits = host_exit t.result; fills = false }

-- of a request at depth d
unfoldable pub price : Config → Machine → Bool → ℕ → ℕ → Bool → Price
price c m st a d held =
    let is : List ℕ = address_indexes c a in
    let s : Trace Fault Place = trace (world c m) (shadow_part c st d m.root is) in
    cond (leb d c.levels) (shadow_price c m st d is held s.count s.result) (plain_price (plain c m st a))

-- a step k on the book b has the price x of a request whose path is p; it drops a held path only where the fill does not fit
pub record Priced (c : Config) (b : Book) (p : List ℕ) (x : Price) (k : Counted) : Type 0 where
  pub references : k.references ≡ x.references
  pub exits : k.exits ≡ x.exits
  pub marks : k.book.marks ≡ b.marks
  pub held : paths k.book.held ≡ cond x.fills (filled c p (paths b.held)) (paths b.held)

-- with bits off, and where its path serves it if it is held
pub request_priced : (c : Config) (m : Machine) (b : Book) (st : Bool) (a d : ℕ) → c.bits ≡ false
    → let p = upper c d (address_indexes c a) in
    serves st d (find p b.held) ≡ any (same p) (paths b.held) → Priced c b p (price c m st a d (any (same p) (paths b.held))) (request c m b st a d)
unfolding request_before price
request_priced c m b st a d off e =
    subst (Priced c b p (price c m st a d (any (same p) (paths b.held)))) (sym (off_request c m b st a d off))
    (subst (λ t. Priced c b p (price c m st a d t) (request_before c m b st a d)) e (go (leb d c.levels) held s.result))
  where
    is : List ℕ
    is = address_indexes c a

    p : List ℕ
    p = upper c d is

    held : Bool
    held = serves st d (find p b.held)

    s : Trace Fault Place
    s = trace (world c m) (shadow_part c st d m.root is)

    go : (low h : Bool) (x : Result Fault Place)
        → Priced c b p (cond low (shadow_price c m st d is h s.count x) (plain_price (plain c m st a)))
        (cond low (shadowed_before c m b st d is p h s x) (unshadowed_before b (plain c m st a)))
    go false h x = record { references = refl; exits = refl; marks = refl; held = refl }
    go true h (failed x) = record { references = refl; exits = refl; marks = refl; held = refl }
    go true true (granted r) = record { references = refl; exits = refl; marks = refl; held = refl }
    go true false (granted r) = record { references = refl; exits = refl; marks = refl; held = fill_paths c (held_by p s r.1) b.held }

pub load_priced : (c : Config) (m : Machine) (b : Book) (a d : ℕ) → c.bits ≡ false
    → let p = upper c d (address_indexes c a) in
    Priced c b p (price c m false a d (any (same p) (paths b.held))) (request c m b false a d)
load_priced c m b a d off = request_priced c m b false a d off (serves_load d (upper c d (address_indexes c a)) b.held)

-- one that is granted pays for its fill alone, and at depth N + 1 it has none
pub granted_price : (c : Config) (m : Machine) (st : Bool) (a d : ℕ) (held : Bool) (r : Place) → (plain c m st a).result ≡ granted r
    → let x = price c m st a d held in (x.exits ≡ one x.fills) × (x.fills ≡ (leb d c.levels && not held))
unfolding price
granted_price c m st a d held r h = go (leb d c.levels) refl
  where
    is : List ℕ
    is = address_indexes c a

    s : Trace Fault Place
    s = trace (world c m) (shadow_part c st d m.root is)

    go : (low : Bool) → leb d c.levels ≡ low
        → let x = cond low (shadow_price c m st d is held s.count s.result) (plain_price (plain c m st a)) in
        (x.exits ≡ one x.fills) × (x.fills ≡ (low && not held))
    go true e =
        let f = shadow_granted c m st a d r (leb→le d c.levels (subst T (sym e) tt)) h in
        let x = ap (shadow_price c m st d is held s.count) f.comes in (
          ap (λ (y : Price). y.exits) x ∙ ap (λ y. one (not held) + host_exit y) f.next ∙ add-zero (one (not held)) ∙ sym (ap (λ (y : Price). one y.fills) x),
          ap (λ (y : Price). y.fills) x,
        )
    go false e = (ap host_exit h, refl)
