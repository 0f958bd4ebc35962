-- The guest tables that a walk goes through, by prefix; and the words and mappings of a granted walk, by them.
-- A prefix is written last index first here: i ∷ q is q and then i.
-- Assumes nothing.
use mathlib.Core.Path.{◌≡◌, refl, sym, ap, ap₂, ◌∙◌}
use mathlib.Core.Logic.{◌⊎◌, inl, inr}
use Prim.Native.Nat.{ℕ, suc, pred, ◌+◌, ◌*◌, ◌-◌, ◌<◌}
use native.Mathlib.Omega.{arith}
use mathlib.Core.Bool.{Bool, true, false, cond}
use mathlib.Core.List.{List, [], ◌∷◌, ◌++◌}
use mathlib.Core.Option.{Option, none, some}
use Rattle.spec.specs.declared.Fault.{Fault}
use Rattle.spec.specs.Config.{Config}
use Rattle.spec.specs.Entry.{frames_below}
use Rattle.spec.specs.Prefix.{All}
use borrow.Author.Tests.{ne_eqb}
use lib.ListN.{length}
use Rattle.spec.specs.Walk.{Walk, World, Trace, granted, trace}
use Rattle.spec.specs.Plain.{Place, Lead, to, into, span, is_span, first_frame, hosted, entry_lead, span_lead, levels, walk}
use Rattle.spec_laws.proofs.Lists.{all_left, all_right}
use Rattle.spec_laws.proofs.Local.{SameMapping}
use Rattle.spec_laws.proofs.Granted.{granted_is, through, then_trace, hosted_granted, level_reads, lead_uses, lead_at, Reaches, level_granted}
use Rattle.spec_laws.proofs.Large.{span_is}

-- a prefix, and then the indexes of a list
abbrev pub onto : List ℕ → List ℕ → List ℕ
onto p [] = p
onto p (i ∷ is) = onto (i ∷ p) is

abbrev pub frame_in : Option Place → ℕ
frame_in none = 0
frame_in (some r) = r.0

-- the host frame that a lead comes to, or the span; 0 where a mapping is missing
abbrev pub place_by : World → Config → Lead → ℕ
place_by w c (to g) = frame_in (w.host_at g)
place_by w c (into g) = span c g

-- the place that a prefix comes to, from the root: a guest table, the page, or a span
unfoldable pub frame_at : World → Config → ℕ → List ℕ → ℕ
frame_at w c root [] = frame_in (w.host_at root)
frame_at w c root (i ∷ q) = place_by w c (lead_at w c (c.levels - length q) (frame_at w c root q) i)

-- where the last index of a prefix leads
unfoldable pub named_at : World → Config → ℕ → List ℕ → Lead
named_at w c root [] = to root
named_at w c root (i ∷ q) = lead_at w c (c.levels - length q) (frame_at w c root q) i

-- the words that the tables T have on the way of a path, and the frames that G leads to on it
abbrev pub reads_from : Config → (List ℕ → ℕ) → List ℕ → List ℕ → List (ℕ × ℕ)
reads_from c T q [] = []
reads_from c T q (i ∷ is) = level_reads c (T q) i ++ reads_from c T (i ∷ q) is

abbrev pub uses_from : (List ℕ → Lead) → List ℕ → List ℕ → List ℕ
uses_from G q [] = []
uses_from G q (i ∷ is) = lead_uses (G (i ∷ q)) ++ uses_from G (i ∷ q) is

pub record Trail (w : World) (c : Config) (root : ℕ) (q is : List ℕ) (r : Trace Fault Place) (at : Place) : Type 0 where
  pub reads : r.reads ≡ reads_from c (frame_at w c root) q is
  pub uses : r.uses ≡ uses_from (named_at w c root) q is
  pub frame : at.0 ≡ frame_at w c root (onto q is)

pub reaches_place : (w : World) (c : Config) (x : Lead) (r : Place) → Reaches w c x r → r.0 ≡ place_by w c x
reaches_place w c (to g) r h = sym (ap frame_in h.1)
reaches_place w c (into g) r h = h

pub levels_trail : (w : World) (c : Config) (root : ℕ) (st : Bool) (n t : ℕ) (v : Bool) (is q : List ℕ) (r : Place)
    → t ≡ frame_at w c root q → n ≡ c.levels - length q → (trace w (levels c st n t v is)).result ≡ granted r
    → Trail w c root q is (trace w (levels c st n t v is)) r
unfolding levels trace frame_at named_at
levels_trail w c root st n t v [] q r e l h =
    record { reads = refl; uses = refl; frame = sym (ap (λ (x : Place). x.0) (granted_is (t, v) r h)) ∙ e }
levels_trail w c root st n t v (i ∷ is) q r e l h =
    let a = level_granted w c st n t v i is r h in
    let g : lead_at w c n t i ≡ named_at w c root (i ∷ q) = ap₂ (λ x y. lead_at w c x y i) l e in
    let at : a.at.0 ≡ frame_at w c root (i ∷ q) = reaches_place w c (lead_at w c n t i) a.at a.reaches ∙ ap (place_by w c) g in
    let k = levels_trail w c root st (pred n) a.at.0 a.at.1 is (i ∷ q) r at (omega (arith, l)) a.next in
    record {
      reads = ap (λ (x : Trace Fault Place). x.reads) a.whole ∙ ap₂ (λ x y. level_reads c x i ++ y) e k.reads;
      uses = ap (λ (x : Trace Fault Place). x.uses) a.whole ∙ ap₂ (λ x y. lead_uses x ++ y) g k.uses;
      frame = k.frame;
    }

-- the whole walk: it uses the root's mapping first
pub walk_trail : (w : World) (c : Config) (root : ℕ) (st : Bool) (is : List ℕ) (r : Place) → (trace w (walk c st root is)).result ≡ granted r
    → ((trace w (walk c st root is)).reads ≡ reads_from c (frame_at w c root) [] is)
    × ((trace w (walk c st root is)).uses ≡ root ∷ uses_from (named_at w c root) [] is) × (r.0 ≡ frame_at w c root (onto [] is))
unfolding walk frame_at
walk_trail w c root st is r h =
    let f : Place → Walk Fault Place = λ q. levels c st c.levels q.0 true is in
    let t = through w (hosted root) f r h in
    let a = hosted_granted w root t.mid t.first in
    let e = then_trace w (hosted root) f (w.host_cost root) [] (root ∷ []) t.mid a.1 in
    let k = levels_trail w c root st c.levels t.mid.0 true is [] r (sym (ap frame_in a.0)) (omega arith) t.next in
    (ap (λ (x : Trace Fault Place). x.reads) e ∙ k.reads, ap (λ (x : Trace Fault Place). x.uses) e ∙ ap (λ us. root ∷ us) k.uses, k.frame)

-- ---- once in a large page

-- a span is left at level 1 only
abbrev pub Spans : Config → (List ℕ → ℕ) → Type 0
Spans c T = (i : ℕ) (q : List ℕ) → suc (length q) < c.levels → is_span c (T q) ≡ true → is_span c (T (i ∷ q)) ≡ true

pub frame_spans : (w : World) (c : Config) (root : ℕ) → Spans c (frame_at w c root)
unfolding frame_at span_lead
frame_spans w c root i q l s =
    let n = c.levels - length q in
    let t = frame_at w c root q in
    let g = first_frame c t + i * frames_below n in
    let e : lead_at w c n t i ≡ into g = ap (λ x. cond x (span_lead c n t i) (entry_lead n (w.word_at t i))) s ∙ ap (λ x. cond x (to g) (into g)) (ne_eqb n 1 (λ z. omega (arith, z, l))) in
    ap (λ x. is_span c (place_by w c x)) e ∙ span_is c g

-- ---- two worlds: the places on a path are fixed by where the words read on it lead, and by the mappings used

-- y is q, or q and some of the indexes, or all of them
abbrev pub On : List ℕ → List ℕ → List ℕ → Type 0
On y q [] = y ≡ q
On y q (i ∷ is) = (y ≡ q) ⊎ On y (i ∷ q) is

-- a word leads the same way, at any level; it may differ elsewhere
abbrev pub SameLead : World → World → ℕ × ℕ → Type 0
SameLead w v x = (n : ℕ) → entry_lead n (v.word_at x.0 x.1) ≡ entry_lead n (w.word_at x.0 x.1)

lead_same : (w v : World) (c : Config) (n t i : ℕ) → All (SameLead w v) (level_reads c t i) → lead_at v c n t i ≡ lead_at w c n t i
lead_same w v c n t i a = go (is_span c t) a
  where
    go : (b : Bool) → All (SameLead w v) (cond b [] ((t, i) ∷ []))
        → cond b (span_lead c n t i) (entry_lead n (v.word_at t i)) ≡ cond b (span_lead c n t i) (entry_lead n (w.word_at t i))
    go true a = refl
    go false a = a.0 n

place_same : (w v : World) (c : Config) (x : Lead) → All (SameMapping w v) (lead_uses x) → place_by v c x ≡ place_by w c x
place_same w v c (to g) a = ap frame_in a.0
place_same w v c (into g) a = refl

pub frames_same : (w v : World) (c : Config) (root top : ℕ) (is q y : List ℕ) → frame_at v c top q ≡ frame_at w c root q
    → All (SameLead w v) (reads_from c (frame_at w c root) q is) → All (SameMapping w v) (uses_from (named_at w c root) q is)
    → On y q is → frame_at v c top y ≡ frame_at w c root y
unfolding frame_at named_at
frames_same w v c root top [] q y e a b h = ap (frame_at v c top) h ∙ e ∙ ap (frame_at w c root) (sym h)
frames_same w v c root top (i ∷ is) q y e a b (inl h) = ap (frame_at v c top) h ∙ e ∙ ap (frame_at w c root) (sym h)
frames_same w v c root top (i ∷ is) q y e a b (inr h) =
    let n = c.levels - length q in
    let t = frame_at w c root q in
    let x = lead_at w c n t i in
    let lead : lead_at v c n (frame_at v c top q) i ≡ x = ap (λ u. lead_at v c n u i) e ∙ lead_same w v c n t i (all_left _ (level_reads c t i) _ a) in
    frames_same w v c root top is (i ∷ q) y (ap (place_by v c) lead ∙ place_same w v c x (all_left _ (lead_uses x) _ b))
    (all_right _ (level_reads c t i) _ a) (all_right _ (lead_uses x) _ b) h
