-- The three drops over memory are the three drops of the book.
-- The held paths of these laws have an index at least; a held path without one stands in the record, and is told of at the end.
-- Assumes nothing.
use mathlib.Core.Path.{◌≡◌, refl, sym, ap, ◌∙◌, subst}
use mathlib.Core.Logic.{◌≢◌, inl, inr}
use Prim.Native.Nat.{ℕ, zero, suc, ◌+◌, ◌-◌, ◌%◌, ◌<◌, ◌≤◌}
use native.Mathlib.Omega.{arith}
use native.Mathlib.Decide.{ℕ_discrete}
use mathlib.Core.Bool.{Bool, true, false, not, ◌&&◌, ◌||◌, cond, or-false}
use mathlib.Core.List.{List, [], ◌∷◌}
use mathlib.Core.Option.{Option, none, some, IsSome}
use lib.Dec.{T, eqb, eqb_refl}
use lib.ListN.{length}
use borrow.Author.Tests.{eq-eqb, ne_eqb}
use Rattle.spec.specs.Config.{Config}
use Rattle.spec.specs.Plain.{Lead, to, is_span, entry_lead, span_lead}
use Rattle.spec.specs.Prefix.{begins, same, any, keep}
use Rattle.spec.specs.Book.{Held, reads_word, reads_frame, uses_mapping, drop_word, drop_mapping, drop_prefix}
use Rattle.spec.specs.Prefix.{All}
use Rattle.spec_laws.proofs.Lists.{all_map, all_any, same_is, same_refl, is_true}
use Rattle.spec_laws.proofs.Trail.{reads_from, uses_from}
use Rattle.entry.specs.declared.GuestPhysical.{GuestPhysical}
use Rattle.words.specs.Words.{word_in}
use Rattle.pool.specs.declared.Pool.{Pool}
use Rattle.pool.specs.declared.Way.TheVariants as way
use Rattle.pool.specs.Header.{level_of, entry_at_of}
use Rattle.pool.specs.Pool.{on_way, none_of}
use Rattle.prune.specs.Remove.{last_index}
use Rattle.layout.specs.Layout.{page}
use Rattle.area_laws.proofs.Change.{differ, is_some, some_inj, no_empty}
use Rattle.area_laws.proofs.Stores.{beside_refl}
use Rattle.area_laws.proofs.Paths.{onto, Small, Ext, ext_trans}
use Rattle.area_laws.proofs.Invariant.{slot, Leaf, none_below}
use Rattle.area_laws.proofs.Remove.{front, front_last, last_small, front_none}
use Rattle.area_laws.proofs.Remove as remove
use Rattle.area_laws.proofs.Whole.{Holds, holds_none, holds_leaves, above_leaf}
use Rattle.spec_laws.proofs.Indexes.{eqb_sym}
use Rattle.drops.specs.declared.Cut.{Cut}
use Rattle.drops.specs.declared.Cut.TheVariants.{Word, Names, Slot}
use Rattle.shadow.specs.Held.{shadow_area}
use Rattle.drops.specs.Cut.{lead_in, leads_to, cut_of, kind_of}
use Rattle.drops.specs.Drop.{outcome, scan_of, table_by, table_named, holder_of, drop_prefix_of}
use Rattle.drops_laws.proofs.Scan.{under, kind_at, slot_kind, Cuts, Dropped, scan_drops}
use Rattle.drops_laws.proofs.Held.{leaf_at, leaf_none, HeldEntries, leaves_are, cut_word, cut_names, cut_prefix, under_prefix, word_drop, names_drop, prefix_drop}
use Rattle.drops_laws.proofs.Watch.{guest_inside}
use Rattle.words.specs.After.{After}
use Rattle.drops.specs.declared.Left.{Left}

-- where the last index of a prefix leads, by the words of memory; F: the places that prefixes come to
unfoldable pub named_in : Config → List ℕ → (List ℕ → ℕ) → List ℕ → Lead
named_in c m F [] = to 0
named_in c m F (i ∷ q) = lead_in c m (c.levels - length q) (F q) i

-- a span reads no word
pub lead_on : (c : Config) (m n : List ℕ) (k t i : ℕ) → (is_span c t ≡ false → word_in n t i ≡ word_in m t i) → lead_in c n k t i ≡ lead_in c m k t i
unfolding lead_in
lead_on c m n k t i e = go (is_span c t) refl
  where
    go : (b : Bool) → is_span c t ≡ b → cond b (span_lead c k t i) (entry_lead k (word_in n t i)) ≡ cond b (span_lead c k t i) (entry_lead k (word_in m t i))
    go true s = refl
    go false s = ap (entry_lead k) (e s)

abbrev pub guest_frame : ℕ → GuestPhysical
guest_frame g = record { 0 = g }

pub dropped_leaves : {c : Config} {m : List ℕ} {lv guest : List ℕ → ℕ} {t : After Left} (lw : List ℕ → ℕ) → ((y : List ℕ) → lv y ≡ lw y)
    → Dropped c m lv guest t → Dropped c m lw guest t
dropped_leaves {c = c} {m = m} {guest = guest} {t = t} lw e d = subst (λ l. Dropped c m l guest t) (λ i y. e y i) d

-- ---- nothing is left
keep_none : (f : Held → Bool) (hs : List Held) → All (λ h. f h ≡ false) hs → keep f hs ≡ []
keep_none f [] a = refl
keep_none f (h ∷ hs) a = rw a.0 (keep_none f hs a.1)

-- every path begins with the empty prefix
pub prefix_all : (hs : List Held) → drop_prefix [] hs ≡ []
prefix_all hs = keep_none (λ h. not (begins [] h.path)) hs (all_any _ hs (λ h. refl))

-- every path uses the root's mapping
uses_root : (root : ℕ) (G : List ℕ → Lead) (h : Held) → h.uses ≡ root ∷ uses_from G [] h.path → (g : ℕ) → uses_mapping g h ≡ (eqb g root || any (eqb g) (uses_from G [] h.path))
uses_root root G h e g = ap (any (eqb g)) e

pub mapping_all : {c : Config} {F : List ℕ → ℕ} {G : List ℕ → Lead} {root : ℕ} {w : Held → ℕ} {hs : List Held} → HeldEntries c F G root w hs → drop_mapping root hs ≡ []
mapping_all {G = G} {root = root} {hs = hs} a =
    keep_none (λ h. not (uses_mapping root h)) hs (all_map _ _ hs (λ h s. ap not (uses_root root G h s.uses root ∙ ap (λ b. b || any (eqb root) (uses_from G [] h.path)) (is_true (eqb root root) (eqb_refl root)))) a.all)

module _ {c : Config} {p : Pool} {m : List ℕ} {guest : List ℕ → ℕ} {G : List ℕ → Lead} {root : ℕ} {w : Held → ℕ} {hs : List Held}
    (h : Holds (shadow_area c) false p m (leaf_at w hs) guest) (a : HeldEntries c guest G root w hs) where
  drop_by : (x : Cut) (C : List ℕ → Bool) (ks : List Held) → Cuts c x C h.tabs guest m → ((q : List ℕ) → leaf_at w ks q ≡ cond (under C q) 0 (leaf_at w hs q))
      → Dropped c m (leaf_at w ks) guest (scan_of c x p m)
  drop_by x C ks cuts e = dropped_leaves (leaf_at w ks) (λ y. sym (e y)) (scan_drops h x C (leaves_are a) cuts)

  -- a store into word i of host frame t: the paths whose shadow part read that word go, and no other
  pub drop_word_lem : (t i : ℕ) → is_span c t ≡ false → i < 512 → Dropped c m (leaf_at w (drop_word t i hs)) guest (scan_of c (Word (page t) i) p m)
  drop_word_lem t i real l = drop_by (Word (page t) i) (cut_word t i guest) (drop_word t i hs) cuts (λ q. word_drop w hs q c t i real guest (all_map _ _ hs (λ h s. s.reads) a.all))
    where
      go : (b d : Bool) → cond b d false ≡ (d && b)
      go true true = refl
      go true false = refl
      go false true = refl
      go false false = refl

      cuts : Cuts c (Word (page t) i) (cut_word t i guest) h.tabs guest m
      cuts n b y f j e q v k =
          let z : i % 512 ≡ i = omega arith in
          rw (z, q, eqb_sym j i, eqb_sym (guest y) t) (go (eqb i j) (eqb t (guest y)))

  -- ---- a prefix
  named_is : (x : List ℕ) (e : ℕ) → e ≡ slot (h.tabs x) (leaf_at w hs x) → length x < c.levels → table_named c e ≡ remove.way (h.tabs x)
  unfolding table_named
  named_is x e q l =
      ap table_by (ap (kind_of c false) q ∙ slot_kind h.tables (leaves_are a) x false (λ z. differ (sym z)) (λ z. l)) ∙ go (h.tabs x) (leaf_at w hs x)
    where
      go : (o : Option ℕ) (v : ℕ) → table_by (kind_at o v) ≡ remove.way o
      go none zero = refl
      go none (suc v) = refl
      go (some f) v = refl

  holder_is : (x : List ℕ) (i : ℕ) (is : List ℕ) (e : ℕ) → e ≡ slot (h.tabs x) (leaf_at w hs x) → length x + length (i ∷ is) ≤ c.levels → Small (i ∷ is)
      → holder_of c m e i is ≡ remove.way (h.tabs (front x i is))
  unfolding holder_of front
  holder_is x i [] e q l s = named_is x e q (omega arith)
  holder_is x i (j ∷ is) e q l s =
      rw (named_is x e q (omega arith)) (go (h.tabs x) refl (λ f t. holder_is (i ∷ x) j is (entry_at_of m f i) (h.tables.word x f i t s.0) (omega arith) s.1))
    where
      go : (o : Option ℕ) → h.tabs x ≡ o → ((f : ℕ) → h.tabs x ≡ some f → holder_of c m (entry_at_of m f i) j is ≡ remove.way (h.tabs (front (i ∷ x) j is)))
          → on_way (remove.way o) way.Not way.Damaged (λ f. holder_of c m (entry_at_of m f i) j is) ≡ remove.way (h.tabs (front (i ∷ x) j is))
      go none t ih = sym (ap remove.way (front_none h.tables (i ∷ x) j is (none_below h.tables i x t)))
      go (some f) t ih = ih f t

  -- a mark set or cleared: the paths that begin with its indexes go
  pub drop_prefix_lem : (is : List ℕ) → length is ≤ c.levels → Small is → Dropped c m (leaf_at w (drop_prefix is hs)) guest (drop_prefix_of c p m is)
  unfolding drop_prefix_of
  drop_prefix_lem [] l s = record {
    pool = none_of;
    memory = m;
    done = refl;
    holds = holds_leaves (holds_none (shadow_area c) guest m h.tables.small h.tables.flat h.tables.long) (leaf_at w (drop_prefix [] hs)) (λ y. none_left y);
    beside = beside_refl (shadow_area c) m;
  }
    where
      none_left : (y : List ℕ) → 0 ≡ leaf_at w (drop_prefix [] hs) y
      none_left y = sym (ap (λ ks. leaf_at w ks y) (prefix_all hs) ∙ leaf_none w y)
  drop_prefix_lem (i ∷ is) l s =
      rw (holder_is [] i is p.top (h.tables.top ∙ ap (slot (h.tabs [])) (sym h.tables.root)) (omega arith) s) (go (h.tabs x) refl)
    where
      x : List ℕ
      x = front [] i is

      k : ℕ
      k = last_index i is

      z : List ℕ
      z = onto [] (i ∷ is)

      path : z ≡ k ∷ x
      path = front_last [] i is

      drops : (q : List ℕ) → leaf_at w (drop_prefix (i ∷ is) hs) q ≡ cond (under (cut_prefix z) q) 0 (leaf_at w hs q)
      drops q = prefix_drop w hs q (i ∷ is) (no_empty i is)

      -- the table that would hold the last entry is missing: no held path begins with the prefix
      kept : h.tabs x ≡ none → (q : List ℕ) (b : Bool) → under (cut_prefix z) q ≡ b → leaf_at w hs q ≡ cond b 0 (leaf_at w hs q)
      kept e q false u = refl
      kept e q true u = leaf (ℕ_discrete (leaf_at w hs q) 0)
        where
          above : Ext x q
          above = elim (under_prefix z q (subst T (sym u) tt)) [
            | inl v ↦ subst (Ext x) (sym path ∙ v) (inl refl)
            | inr v ↦ ext_trans x z q (subst (Ext x) (sym path) (inl refl)) v
          ]

          leaf : Dec (leaf_at w hs q ≡ 0) → leaf_at w hs q ≡ 0
          leaf (yes v) = v
          leaf (no v) = absurd (subst IsSome e (above_leaf h x (record { path = q; under = above; set = v })))

      cuts : (f : ℕ) → h.tabs x ≡ some f → Cuts c (Slot (page f) k) (cut_prefix z) h.tabs guest m
      cuts f e n b y d j t q r v =
          let o : k % 512 ≡ k = (let r = last_small i is s in omega arith) in
          rw (o, path) (by (ℕ_discrete j k) (ℕ_discrete d f))
        where
          by : Dec (j ≡ k) → Dec (d ≡ f) → cond (eqb j k) (eqb d f) false ≡ (eqb j k && same y x)
          by (no r) u = rw (ne_eqb j k r)
          by (yes r) (yes u) = rw (eq-eqb j k r, eq-eqb d f u) (sym (is_true (same y x) (subst (λ v. T (same y v)) (h.tables.inj y x f (t ∙ ap some u) e) (same_refl y))))
          by (yes r) (no u) = rw (eq-eqb j k r, ne_eqb d f u) (sym (other (same y x) refl))
            where
              other : (b : Bool) → same y x ≡ b → b ≡ false
              other true v = absurd (u (some_inj (sym t ∙ ap h.tabs (same_is y x (subst T (sym v) tt)) ∙ e)))
              other false v = refl

      go : (o : Option ℕ) → h.tabs x ≡ o
          → Dropped c m (leaf_at w (drop_prefix (i ∷ is) hs)) guest (on_way (remove.way o) (outcome p true m) (outcome p false m) (λ f. scan_of c (Slot (page f) k) p m))
      go none e = record {
        pool = p;
        memory = m;
        done = refl;
        holds = holds_leaves h (leaf_at w (drop_prefix (i ∷ is) hs)) (λ q. kept e q (under (cut_prefix z) q) refl ∙ sym (drops q));
        beside = beside_refl (shadow_area c) m;
      }
      go (some f) e = drop_by (Slot (page f) k) (cut_prefix z) (drop_prefix (i ∷ is) hs) (cuts f e) drops

-- a guest frame mapped or unmapped: the paths whose shadow part used its mapping go; for the root's see `mapping_all`
pub drop_mapping_lem : {c : Config} {p : Pool} {m : List ℕ} {guest : List ℕ → ℕ} {root : ℕ} {w : Held → ℕ} {hs : List Held} → Holds (shadow_area c) false p m (leaf_at w hs) guest
    → HeldEntries c guest (named_in c m guest) root w hs → (g : ℕ) → g ≢ root → Dropped c m (leaf_at w (drop_mapping g hs)) guest (scan_of c (Names (guest_frame g)) p m)
unfolding named_in
drop_mapping_lem {c = c} {m = m} {guest = guest} {root = root} {w = w} {hs = hs} h a g n =
    drop_by h a (Names (guest_frame g)) (cut_names g (named_in c m guest)) (drop_mapping g hs) cuts
    (λ q. names_drop w hs q g root (named_in c m guest) (all_map _ _ hs (λ h s. s.uses) a.all) (ne_eqb g root n))
  where
    cuts : Cuts c (Names (guest_frame g)) (cut_names g (named_in c m guest)) h.tabs guest m
    cuts n b y f j e q v l = elim (h.exact y (is_some e)) [ inl r ↦ leaf r | inr r ↦ absurd r.1 ]
      where
        leaf : Leaf (leaf_at w hs) y → cut_of c n (Names (guest_frame g)) f j ≡ cut_names g (named_in c m guest) (j ∷ y)
        leaf r =
            let k : level_of n f ≡ c.levels - length y = omega (arith, v) in
            rw (q, k) (ap (leads_to g) (lead_on c m n (c.levels - length y) (guest y) j (λ s. b.else (guest y) (inr (guest_inside a y r s)) j l)))

-- ---- a held path without an index: no word read, the root's mapping used, and it begins with the empty prefix only
module _ (h : Held) (e : h.path ≡ []) where
  pub empty_word : (c : Config) (F : List ℕ → ℕ) → h.reads ≡ reads_from c F [] h.path → (t i : ℕ) → reads_word t i h ≡ false
  empty_word c F r t i = ap (any (λ x. eqb t x.0 && eqb i x.1)) (r ∙ ap (reads_from c F []) e)

  pub empty_frame : (c : Config) (F : List ℕ → ℕ) → h.reads ≡ reads_from c F [] h.path → (t : ℕ) → reads_frame t h ≡ false
  empty_frame c F r t = ap (any (λ x. eqb t x.0)) (r ∙ ap (reads_from c F []) e)

  pub empty_mapping : (G : List ℕ → Lead) (root : ℕ) → h.uses ≡ root ∷ uses_from G [] h.path → (g : ℕ) → uses_mapping g h ≡ eqb g root
  empty_mapping G root u g = ap (any (eqb g)) (u ∙ ap (λ is. root ∷ uses_from G [] is) e) ∙ or-false (eqb g root)

  pub empty_prefix : (i : ℕ) (is : List ℕ) → begins (i ∷ is) h.path ≡ false
  empty_prefix i is = ap (begins (i ∷ is)) e
