-- The steps of links, scans and searches, and what they always satisfy.
use mathlib.Core.Path.{◌≡◌, refl, ap, ◌∙◌}
use mathlib.Core.Logic.{◌≢◌}
use Prim.Native.Nat.{ℕ, zero, suc, ◌+◌, ◌-◌, ◌*◌, ◌≤◌, ◌<◌}
use native.Mathlib.Omega.{arith}
use mathlib.Core.Bool.{Bool, true, false, cond}
use mathlib.Core.List.{List}
use lib.Dec.{eqb}
use borrow.Author.Tests.{eq-eqb, ne_eqb, eqb-true, eqb-false, le-leb, lt-leb}
use Rattle.spec.specs.Config.{Config}
use Rattle.spec.specs.Entry.{present, frame_of, large, frames_below, index, indexes}
use Rattle.spec.specs.Refusal.{in_guest_area}
use Rattle.spec.specs.Plain.{is_span, first_frame, entry_lead, span_lead}
use Rattle.words.specs.Words.{word_in}
use Rattle.pool.specs.declared.Pool.{Pool}
use Rattle.pool.specs.declared.Way.TheVariants as way
use Rattle.pool.specs.Header.{entry_at_of, parent_of, slot_of, inside_of}
use Rattle.pool.specs.Pool.{on_way, none_of}
use Rattle.pool.proofs.Laws.{parent_small, Small}
use Rattle.prune.proofs.Laws.{indexes_last}
use Rattle.spec_laws.proofs.Indexes.{indexes_step}
use Rattle.layout.specs.Layout.{page}
use Rattle.drops.specs.declared.Kind.TheVariants.{Gone, Leaf, Table, Damaged}
use Rattle.drops.specs.declared.Cut.{Cut}
use Rattle.drops.specs.declared.Cut.TheVariants.{Word, Names, Slot}
use Rattle.drops.specs.declared.Above.{Above}
use Rattle.drops.specs.declared.Above.TheVariants.{Met, To}
use Rattle.drops.specs.declared.Above.TheVariants as above
use Rattle.drops.specs.Cut.{is_leaf, kind_of, lead_in, leads_to, cut_of, low_of, end_of, link_up_of, up_by, links_up_of}
use Rattle.drops.specs.Drop.{outcome, clear_one_of, clear_leaves_of, visit_of, scan_from, scan_of, table_by, table_named, holder_of, drop_prefix_of}
use Rattle.words.specs.After.{yields}

-- ---- where a level leads
module _ (c : Config) (m : List ℕ) (g n t i : ℕ) where
  -- from a guest table by its entry, if that maps no large page
  pub lead_large : t < c.frames → large n (word_in m t i) ≡ true → leads_to g (lead_in c m n t i) ≡ false
  unfolding lead_in is_span entry_lead
  lead_large l e = rw (lt-leb c.frames t l, e)

  pub lead_named : t < c.frames → large n (word_in m t i) ≡ false → leads_to g (lead_in c m n t i) ≡ eqb g (frame_of (word_in m t i))
  unfolding lead_in is_span entry_lead
  lead_named l e = rw (lt-leb c.frames t l, e)

  -- from a span to the frame at that index, and above level 1 to none
  pub lead_part : c.frames ≤ t → n ≢ 1 → leads_to g (lead_in c m n t i) ≡ false
  unfolding lead_in is_span span_lead
  lead_part l e = rw (le-leb c.frames t l, ne_eqb n 1 e)

  pub lead_page : c.frames ≤ t → n ≡ 1 → leads_to g (lead_in c m n t i) ≡ eqb g (t - c.frames + i)
  unfolding lead_in is_span span_lead first_frame frames_below
  lead_page l e =
      let z : t - c.frames + i * 1 ≡ t - c.frames + i = omega arith in
      rw (le-leb c.frames t l, e, z)

-- a test of a sum, as one of a difference
pub sum_test : (g d i : ℕ) → i ≤ g → eqb g (d + i) ≡ eqb (g - i) d
sum_test g d i l = go (eqb (g - i) d) refl
  where
    go : (b : Bool) → eqb (g - i) d ≡ b → eqb g (d + i) ≡ b
    go true e = let z = eqb-true (g - i) d e in eq-eqb g (d + i) (omega (arith, z, l))
    go false e = ne_eqb g (d + i) (λ z. eqb-false (g - i) d e (omega (arith, z)))

-- ---- links up
abbrev pub AboveSmall : Above → Type 0
AboveSmall Met = Unit {0}
AboveSmall (To p) = p < 65536
AboveSmall above.Damaged = Unit {0}

pub above_small : (c : Config) (x : Cut) (m : List ℕ) (f : ℕ) → AboveSmall (link_up_of c x m f)
unfolding link_up_of
above_small c x m f = go (inside_of c.hosts c.shadows (parent_of m f)) (cut_of c m x (parent_of m f) (slot_of m f))
  where
    go : (b d : Bool) → AboveSmall (cond b (cond d Met (To (parent_of m f))) above.Damaged)
    go true true = tt
    go true false = parent_small m f
    go false d = tt

pub up_step : (c : Config) (x : Cut) (m : List ℕ) (k f : ℕ) → 0 < k → links_up_of c x m k f ≡ up_by (link_up_of c x m f) (links_up_of c x m (k - 1))
unfolding links_up_of
up_step c x m zero f l = absurd (omega arith)
up_step c x m (suc k) f l =
    let d : suc k - 1 ≡ k = omega arith in
    rw d

pub up_none : (c : Config) (x : Cut) (m : List ℕ) (f : ℕ) → links_up_of c x m 0 f ≡ To f
unfolding links_up_of
up_none c x m f = refl

-- ---- one table
pub range_fits : (x : Cut) → (low_of x ≤ end_of x) × (end_of x ≤ 512)
range_fits (Word t j) = (omega arith, omega arith)
range_fits (Names g) = (omega arith, omega arith)
range_fits (Slot t j) = (omega arith, omega arith)

pub clear_step : (c : Config) (x : Cut) (all lowest : Bool) (f hi i : ℕ) (m : List ℕ) → i < hi
    → clear_leaves_of c x all lowest f (hi - i) i m
    ≡ (let t = clear_one_of c x all lowest f m i in cond t.result (clear_leaves_of c x all lowest f (hi - (i + 1)) (i + 1) t.memory) t)
unfolding clear_leaves_of
clear_step c x all lowest f hi i m l =
    let e : hi - i ≡ suc (hi - (i + 1)) = omega arith in
    let s : i + 1 ≡ suc i = omega arith in
    rw (e, s)

pub clear_none : (c : Config) (x : Cut) (all lowest : Bool) (f hi i : ℕ) (m : List ℕ) → hi ≤ i → clear_leaves_of c x all lowest f (hi - i) i m ≡ yields true m
unfolding clear_leaves_of
clear_none c x all lowest f hi i m l =
    let e : hi - i ≡ 0 = omega arith in
    rw e

-- ---- the scan
pub scan_step : (c : Config) (x : Cut) (n i : ℕ) (p : Pool) (m : List ℕ) → i < n
    → scan_from c x (n - i) i p m
    ≡ (let t = visit_of c x p m (c.hosts + i) in cond t.result.ok (scan_from c x (n - (i + 1)) (i + 1) t.result.pool t.memory) t)
unfolding scan_from
scan_step c x n i p m l =
    let e : n - i ≡ suc (n - (i + 1)) = omega arith in
    let s : i + 1 ≡ suc i = omega arith in
    rw (e, s)

pub scan_none : (c : Config) (x : Cut) (n i : ℕ) (p : Pool) (m : List ℕ) → n ≤ i → scan_from c x (n - i) i p m ≡ outcome p true m
unfolding scan_from
scan_none c x n i p m l =
    let e : n - i ≡ 0 = omega arith in
    rw e

-- ---- a prefix
pub named_small : (c : Config) (e : ℕ) → Small (table_named c e)
unfolding table_named kind_of frame_of
named_small c e = go (present e) (is_leaf false e) (in_guest_area c (frame_of e)) (inside_of c.hosts c.shadows (frame_of e))
  where
    go : (p l g s : Bool) → Small (table_by (cond p (cond l (cond g Leaf Damaged) (cond s (Table (frame_of e)) Damaged)) Gone))
    go true true true s = tt
    go true true false s = tt
    go true false g true = omega arith
    go true false g false = tt
    go false l g s = tt

pub holder_step : (c : Config) (m : List ℕ) (e g left : ℕ) → 0 < left
    → holder_of c m e (index left g) (indexes left g)
    ≡ on_way (table_named c e) way.Not way.Damaged (λ f. holder_of c m (entry_at_of m f (index left g)) (index (left - 1) g) (indexes (left - 1) g))
unfolding holder_of
holder_step c m e g left l = ap (holder_of c m e (index left g)) (indexes_step left g l)

pub holder_none : (c : Config) (m : List ℕ) (e g : ℕ) → holder_of c m e (index 0 g) (indexes 0 g) ≡ table_named c e
unfolding holder_of indexes
holder_none c m e g = refl

pub prefix_step : (c : Config) (p : Pool) (m : List ℕ) (g k : ℕ) → 0 < k
    → drop_prefix_of c p m (indexes k g)
    ≡ on_way (holder_of c m p.top (index (k - 1) g) (indexes (k - 1) g)) (outcome p true m) (outcome p false m) (λ f. scan_of c (Slot (page f) (index 0 g)) p m)
unfolding drop_prefix_of
prefix_step c p m g k l =
    ap (drop_prefix_of c p m) (indexes_step k g l)
    ∙ ap (λ i. on_way (holder_of c m p.top (index (k - 1) g) (indexes (k - 1) g)) (outcome p true m) (outcome p false m) (λ f. scan_of c (Slot (page f) i) p m)) (indexes_last (k - 1) g)

pub prefix_none : (c : Config) (p : Pool) (m : List ℕ) (g : ℕ) → drop_prefix_of c p m (indexes 0 g) ≡ outcome none_of true m
unfolding drop_prefix_of indexes
prefix_none c p m g = refl
