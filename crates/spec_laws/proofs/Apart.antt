-- Held paths never lie on one another: one that another began with would end at a table, from which the other's walk read on.
-- Assumes nothing.
use mathlib.Core.Path.{◌≡◌, refl, sym, ap, ◌∙◌, subst}
use Prim.Native.Nat.{ℕ, suc, ◌-◌, ◌<◌, ◌≤◌}
use native.Mathlib.Omega.{arith}
use mathlib.Core.Bool.{Bool, true, false, cond, false≢true}
use mathlib.Core.Logic.{◌⊎◌, inl, inr}
use mathlib.Core.List.{List, [], ◌∷◌, ◌++◌}
use lib.Dec.{T, leb}
use borrow.Author.Tests.{leb-true, leb-false}
use lib.ListN.{length, take, drop, length-append, length-drop, take-append-drop}
use lib.Seq.{take_all}
use Rattle.spec.specs.declared.Fault.{Fault}
use Rattle.spec.specs.Config.{Config}
use Rattle.spec.specs.Prefix.{All, begins}
use Rattle.spec.specs.Walk.{◌>>=◌, World, Trace, Result, granted, failed, trace}
use Rattle.spec.specs.Plain.{Place, is_span, levels, walk, upper, shadow_part}
use Rattle.spec.specs.Machine.{Machine, world}
use Rattle.spec.specs.Book.{Held, Book, Mark, depth}
use Rattle.spec.specs.Entry.{page_of}
use Rattle.spec.specs.Call.{address_indexes}
use Rattle.spec.specs.Count.{depth_by, depth_in}
use Rattle.spec_laws.proofs.Lists.{all_map, all_both}
use Rattle.spec_laws.proofs.Local.{Seen, seen}
use Rattle.spec_laws.proofs.Granted.{no_grant, granted_is, through, level_reads, level_granted}
use Rattle.spec_laws.proofs.Parts.{lower, walk_split}
use Rattle.spec_laws.proofs.Large.{walk_real}
use Rattle.spec_laws.proofs.Depth.{MarkFits, begins_is, PathFits, no_proper_prefix, fill_fits, large_fits}
use Rattle.spec_laws.proofs.Indexes.{indexes_length}
use Rattle.spec_laws.proofs.Runs.{HeldFits, BookFits}
use Rattle.spec_laws.proofs.Keeps.{again, Valid}

-- a walk from a table reads an entry
reads_on_lem : (w : World) (c : Config) (n t : ℕ) (v : Bool) (is : List ℕ) (r : Place) → 0 < length is → is_span c t ≡ false
    → (trace w (levels c false n t v is)).result ≡ granted r → 0 < length (trace w (levels c false n t v is)).reads
reads_on_lem w c n t v [] r b s h = absurd (omega (arith, b))
reads_on_lem w c n t v (i ∷ is) r b s h =
    let l = level_granted w c false n t v i is r h in
    let e = ap (λ (x : Trace Fault Place). length x.reads) l.whole ∙ length-append (level_reads c t i) _ in
    let k : length (level_reads c t i) ≡ 1 = ap (λ x. length (cond {A = List (ℕ × ℕ)} x [] ((t, i) ∷ []))) s in
    omega (arith, e, k)

-- so the walk of a path that goes on from a table of another read more entries than that has indexes
walk_beyond : (w : World) (c : Config) (root : ℕ) (p q : List ℕ) (s r : Place) → T (begins p q) → length p < length q → length q ≤ c.levels → is_span c s.0 ≡ false
    → (trace w (walk c false root p)).result ≡ granted s → (trace w (walk c false root q)).result ≡ granted r → length p < length (trace w (walk c false root q)).reads
walk_beyond w c root p q s r b l n o hp hq =
    let k = length p in
    let split : walk c false root q ≡ (walk c false root p >>= λ x. levels c false (lower c.levels p) x.0 x.1 (drop k q)) =
    ap (walk c false root) (sym (take-append-drop k q) ∙ ap (λ (x : List ℕ). x ++ drop k q) (begins_is p q b)) ∙ walk_split c false root p (drop k q) in
    let t = through w (walk c false root p) (λ x. levels c false (lower c.levels p) x.0 x.1 (drop k q)) r (subst (λ x. (trace w x).result ≡ granted r) split hq) in
    let same : t.mid ≡ s = granted_is {X = Fault} t.mid s (sym t.first ∙ hp) in
    let first = walk_real w c false root p t.mid (omega (arith, l, n)) (ap (λ (x : Place). is_span c x.0) same ∙ o) t.first in
    let more = reads_on_lem w c (lower c.levels p) t.mid.0 t.mid.1 (drop k q) r (omega (arith, l, length-drop k q)) (ap (λ (x : Place). is_span c x.0) same ∙ o) t.next in
    let e = ap (λ x. length (trace w x).reads) split ∙ ap (λ (x : Trace Fault Place). length x.reads) t.whole ∙ length-append (trace w (walk c false root p)).reads _ in
    omega (arith, e, first, more)

-- two paths that fit and are valid
pub apart : (c : Config) (m : Machine) (ms : List Mark) (h k : Held) → HeldFits c ms h → HeldFits c ms k → Valid c m h → Valid c m k
    → T (begins h.path k.path) → h.path ≡ k.path
unfolding again seen
apart c m ms h k f g v u b =
    no_proper_prefix c.levels ms h.path k.path (length h.reads) (length k.reads) f g
    (λ z l. subst (λ (s : Seen Fault Place). length h.path < length s.reads) u.comes
    (walk_beyond (world c m) c m.root h.path k.path (v.frame, v.wide) (u.frame, u.wide) z l short v.real
    (ap (λ (s : Seen Fault Place). s.result) v.comes) (ap (λ (s : Seen Fault Place). s.result) u.comes))) b
  where
    short : length k.path ≤ c.levels
    short = elim g.long [ inl x ↦ omega (arith, x.1) | inr x ↦ omega (arith, x.0) ]

-- so those of a book
pub held_apart : (c : Config) (m : Machine) (b : Book) → BookFits c b → All (Valid c m) b.held
    → All (λ h. All (λ k. T (begins h.path k.path) → h.path ≡ k.path) b.held) b.held
held_apart c m b f v =
    all_map (λ h. HeldFits c b.marks h × Valid c m h) _ b.held
    (λ h x. all_map (λ k. HeldFits c b.marks k × Valid c m k) _ b.held (λ k y. apart c m b.marks h k x.0 y.0 x.1 y.1) both) both
  where
    both : All (λ h. HeldFits c b.marks h × Valid c m h) b.held
    both = all_both (HeldFits c b.marks) (Valid c m) b.held f.held v

-- ---- the path of a request

-- where a walk of some indexes is granted, that of the first ones is
pub walk_prefix : (w : World) (c : Config) (root : ℕ) (p q : List ℕ) (r : Place) → T (begins p q) → (trace w (walk c false root q)).result ≡ granted r
    → (s : Place) × ((trace w (walk c false root p)).result ≡ granted s)
walk_prefix w c root p q r b h =
    let k = length p in
    let split : walk c false root q ≡ (walk c false root p >>= λ x. levels c false (lower c.levels p) x.0 x.1 (drop k q)) =
    ap (walk c false root) (sym (take-append-drop k q) ∙ ap (λ (x : List ℕ). x ++ drop k q) (begins_is p q b)) ∙ walk_split c false root p (drop k q) in
    let t = through w (walk c false root p) (λ x. levels c false (lower c.levels p) x.0 x.1 (drop k q)) r (subst (λ x. (trace w x).result ≡ granted r) split h) in
    (t.mid, t.first)

-- on a machine, with the marks of a book: an address, and what the walk down to the level of its marks' depth comes to
module _ (c : Config) (m : Machine) (ms : List Mark) (marks : All (MarkFits c.levels) ms) (a : ℕ) where
  abbrev is : List ℕ
  is = address_indexes c a

  abbrev marked : ℕ
  marked = depth ms is

  abbrev above : Result Fault Place
  above = (trace (world c m) (shadow_part c false marked m.root is)).result

  long : length is ≡ c.levels
  long = indexes_length c.levels (page_of a)

  module _ (h : Held) (f : HeldFits c ms h) (v : Valid c m h) where
    short : length h.path ≤ c.levels
    short = elim f.long [ inl x ↦ omega (arith, x.1) | inr x ↦ omega (arith, x.0) ]

    comes : (trace (world c m) (walk c false m.root h.path)).result ≡ granted (v.frame, v.wide)
    unfolding again seen
    comes = ap (λ (s : Seen Fault Place). s.result) v.comes

    -- a longer path than the marks' depth gives, that begins with it, is a large page's
    pub beyond_span : (s : Place) → T (begins (upper c marked is) h.path) → length (upper c marked is) < length h.path → marked ≤ c.levels
        → above ≡ granted s → is_span c s.0 ≡ true
    unfolding again seen
    beyond_span s b l low e = go (is_span c s.0) refl
      where
        fits : PathFits c.levels ms (upper c marked is) (suc c.levels)
        fits = fill_fits c.levels ms is (suc c.levels) marks long low

        go : (x : Bool) → is_span c s.0 ≡ x → is_span c s.0 ≡ true
        go true k = k
        go false k =
            let more = subst (λ (y : Seen Fault Place). length (upper c marked is) < length y.reads) v.comes
            (walk_beyond (world c m) c m.root (upper c marked is) h.path s (v.frame, v.wide) b l short k e comes) in
            let same = no_proper_prefix c.levels ms (upper c marked is) h.path (suc c.levels) (length h.reads) fits f (λ _ _. more) b in
            absurd (omega (arith, l, ap length same))

    -- and none is shorter
    pub not_shorter : marked ≤ c.levels → T (begins h.path (upper c marked is)) → h.path ≡ upper c marked is
    not_shorter low b =
        no_proper_prefix c.levels ms h.path (upper c marked is) (length h.reads) (suc c.levels) f (fill_fits c.levels ms is (suc c.levels) marks long low)
        (λ _ _. omega (arith, short)) b

    all : upper c 0 is ≡ is
    all = take_all (c.levels - 0) is (omega (arith, long))

    -- where the walk is in a large page above the marked levels, a held path on the way of all indexes has them all
    in_span : (s : Place) → above ≡ granted s → is_span c s.0 ≡ true → T (begins h.path is) → h.path ≡ is
    in_span s e k b =
        no_proper_prefix c.levels ms h.path is (length h.reads) 0 f (large_fits c.levels ms is 0 marks long (omega arith)) (λ z l. absurd (wrong z l f.long)) b
      where
        at : T (begins h.path is) → marked ≡ f.at
        at z = f.deep is z

        wrong : T (begins h.path is) → length h.path < length is → ((f.at ≤ c.levels) × (length h.path ≡ c.levels - f.at)) ⊎ ((length h.path ≡ c.levels) × (length h.reads ≤ c.levels - f.at)) → ⊥
        wrong z l (inr x) = omega (arith, l, long, x.0)
        wrong z l (inl x) =
            let n : length h.path ≡ c.levels - marked = omega (arith, x.1, at z) in
            let same : h.path ≡ upper c marked is = sym (begins_is h.path is z) ∙ ap (λ y. take y is) n in
            let q = granted_is {X = Fault} s (v.frame, v.wide) (sym e ∙ ap (λ p. (trace (world c m) (walk c false m.root p)).result) (sym same) ∙ comes) in
            false≢true (sym v.real ∙ ap (λ (y : Place). is_span c y.0) (sym q) ∙ k)

    -- so the path of a request lies on no held one, and none on it
    pub request_apart : let p = upper c (depth_in c m a marked) is in
        depth_in c m a marked ≤ c.levels → (T (begins h.path p) → h.path ≡ p) × (T (begins p h.path) → p ≡ h.path)
    unfolding depth_in
    request_apart = go above refl
      where
        Both : ℕ → Type 0
        Both d = d ≤ c.levels → (T (begins h.path (upper c d is)) → h.path ≡ upper c d is) × (T (begins (upper c d is) h.path) → upper c d is ≡ h.path)

        fits : marked ≤ c.levels → PathFits c.levels ms (upper c marked is) (suc c.levels)
        fits low = fill_fits c.levels ms is (suc c.levels) marks long low

        -- at the marks' depth, where the walk there is in no span
        plainly : ((s : Place) → above ≡ granted s → is_span c s.0 ≡ false) → Both marked
        plainly off low = (not_shorter low, λ b. by b (leb (length h.path) (length (upper c marked is))) refl)
          where
            by : T (begins (upper c marked is) h.path) → (x : Bool) → leb (length h.path) (length (upper c marked is)) ≡ x → upper c marked is ≡ h.path
            by b true k =
                no_proper_prefix c.levels ms (upper c marked is) h.path (suc c.levels) (length h.reads) (fits low) f (λ _ l. absurd (omega (arith, l, leb-true (length h.path) (length (upper c marked is)) k))) b
            by b false k =
                let s = walk_prefix (world c m) c m.root (upper c marked is) h.path (v.frame, v.wide) b comes in
                absurd (false≢true (sym (off s.0 s.1) ∙ beyond_span s.0 b (leb-false (length h.path) (length (upper c marked is)) k) low s.1))

        whole : (s : Place) → above ≡ granted s → is_span c s.0 ≡ true → Both 0
        whole s e k low =
            subst (λ p. (T (begins h.path p) → h.path ≡ p) × (T (begins p h.path) → p ≡ h.path)) (sym all)
            (in_span s e k, λ b. no_proper_prefix c.levels ms is h.path 0 (length h.reads) (large_fits c.levels ms is 0 marks long (omega arith)) f (λ _ l. absurd (omega (arith, l, long, short))) b)

        at : (s : Place) → above ≡ granted s → (x : Bool) → is_span c s.0 ≡ x → Both (cond x 0 marked)
        at s e true k = whole s e k
        at s e false k = plainly (λ t z. ap (λ (y : Place). is_span c y.0) (granted_is {X = Fault} t s (sym z ∙ e)) ∙ k)

        go : (x : Result Fault Place) → above ≡ x → Both (depth_by c marked x)
        go (failed x) e = plainly (λ s z. absurd (no_grant (sym e ∙ z)))
        go (granted s) e = at s e (is_span c s.0) refl
